-- What holds of colours, modes, steps and addresses, in the subject's words.
use Rattle.std.specs.Prelude.{◌≡◌, ℕ, ◌*◌, ◌/◌, ◌%◌, ◌<◌, true, if◌then◌else◌, Some, ◌==◌}
use Rattle.pixel.specs.declared.address.Address.{Address}
use Rattle.pixel.specs.declared.address.Offset.{Offset}
use Rattle.pixel.specs.declared.mode.Mode.{Mode}
use Rattle.pixel.specs.declared.rect.Place.{Place}
use Rattle.pixel.specs.declared.rect.Rect.{Rect}
use Rattle.pixel.specs.declared.rect.Size.{Size}
use Rattle.pixel.specs.Colours.{bit, blue_of, exchanged, green_of, lengthened, met, red_of, shortened}
use Rattle.pixel.specs.Rects.{fits_in, holds_place}
use Rattle.pixel.specs.Modes.{mode_number, mode_of, start_corner, stepped, turned_mode, turned_place, turned_rect}
use Rattle.pixel.specs.Addresses.{address_of, offset_of, place_of}

pub record Laws : Type 0 where
  -- a cell that a colour met keeps each bit whose mask bit is 1, and has the colour's others
  pub meeting : (mask old new k : ℕ) → k < 18 → bit k (met mask old new) ≡ (if bit k mask == 1 then bit k old else bit k new)
  -- and it is a colour, where mask and cell were in range
  pub met_fits : (mask old new : ℕ) → mask < 262144 → old < 262144 → met mask old new < 262144
  -- exchanging red and blue twice gives the colour back
  pub exchanging : (c : ℕ) → c < 262144 → exchanged (exchanged c) ≡ c
  -- a colour that was short keeps all of green, and the upper five bits of red and blue
  pub short_red : (c : ℕ) → red_of (lengthened (shortened c)) ≡ red_of c / 2 * 2
  pub short_green : (c : ℕ) → green_of (lengthened (shortened c)) ≡ green_of c
  pub short_blue : (c : ℕ) → blue_of (lengthened (shortened c)) ≡ blue_of c / 2 * 2
  -- a short colour loses nothing on the way to full length and back
  pub short_back : (s : ℕ) → s < 65536 → shortened (lengthened s) ≡ s
  -- each mode has one number
  pub mode_back : (m : Mode) → mode_of (mode_number m) ≡ m
  -- a window's start corner lies in it, and a step stays in it
  pub starts_inside : (s : Size) (r : Rect) (m : Mode) → fits_in s r ≡ true → holds_place r (start_corner r m) ≡ true
  pub steps_inside : (r : Rect) (m : Mode) (p : Place) → holds_place r p ≡ true → holds_place r (stepped r m p) ≡ true
  -- column first is row first with x and y exchanged
  pub turning : (r : Rect) (m : Mode) (p : Place) → turned_place (stepped r m p) ≡ stepped (turned_rect r) (turned_mode m) (turned_place p)
  -- a place's address leads back to it
  pub address_back : (p : Place) (a : Address) → address_of p ≡ Some a → place_of a ≡ p
  -- a cell's offset lies within width × height numbers, and leads back to its row and column
  pub offset_inside : (s : Size) (a : Address) (o : Offset) → offset_of s a ≡ Some o → o.index < s.width * s.height
  pub offset_row : (s : Size) (a : Address) (o : Offset) → offset_of s a ≡ Some o → o.index / s.width ≡ (place_of a).y
  pub offset_column : (s : Size) (a : Address) (o : Offset) → offset_of s a ≡ Some o → o.index % s.width ≡ (place_of a).x
