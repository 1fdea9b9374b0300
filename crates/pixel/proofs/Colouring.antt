-- Exchanged and short colours, and modes.
use Rattle.std.proofs.Common.{◌≡◌, ℕ, ◌*◌, ◌/◌, ◌%◌, ◌<◌, arith, rules}
use Rattle.pixel.specs.declared.mode.Mode.{Mode}
use Rattle.pixel.specs.declared.rect.Place.{Place}
use Rattle.pixel.specs.declared.rect.Rect.{Rect}
use Rattle.pixel.specs.Colours.{blue_of, colour_of, exchanged, green_of, lengthened, red_of, shortened}
use Rattle.pixel.specs.Modes.{mode_number, mode_of, stepped, turned_mode, turned_place, turned_rect}

-- the parts of a colour that was mixed
pub red_part : (r g b : ℕ) → red_of (colour_of r g b) ≡ r % 64
red_part r g b = omega arith

pub green_part : (r g b : ℕ) → green_of (colour_of r g b) ≡ g % 64
green_part r g b = omega arith

pub blue_part : (r g b : ℕ) → blue_of (colour_of r g b) ≡ b % 64
blue_part r g b = omega arith

-- and a colour is mixed of its parts
pub same_parts : (c r g b : ℕ) → c < 262144 → r ≡ red_of c → g ≡ green_of c → b ≡ blue_of c → colour_of r g b ≡ c
same_parts c r g b h er eg eb = omega arith

pub exchanged_back : (c : ℕ) → c < 262144 → exchanged (exchanged c) ≡ c
exchanged_back c h = omega arith

pub short_red : (c : ℕ) → red_of (lengthened (shortened c)) ≡ red_of c / 2 * 2
short_red c = omega arith

pub short_green : (c : ℕ) → green_of (lengthened (shortened c)) ≡ green_of c
short_green c = omega arith

pub short_blue : (c : ℕ) → blue_of (lengthened (shortened c)) ≡ blue_of c / 2 * 2
short_blue c = omega arith

pub short_back : (s : ℕ) → s < 65536 → shortened (lengthened s) ≡ s
short_back s h = omega arith

pub mode_back : (m : Mode) → mode_of (mode_number m) ≡ m
mode_back m = search rules

pub turning : (r : Rect) (m : Mode) (p : Place) → turned_place (stepped r m p) ≡ stepped (turned_rect r) (turned_mode m) (turned_place p)
turning r m p = search rules
