-- Modes, start corners and steps.
use Rattle.std.specs.Prelude.{◌≡◌, ℕ, ◌+◌, ◌-◌, ◌/◌, ◌%◌, ◌<◌, Bool, if◌then◌else◌, not, ◌==◌, nat_le, Result, MatchResult}
use Rattle.pixel.specs.declared.rect.Place.{Place}
use Rattle.pixel.specs.declared.rect.Rect.{Rect}
use Rattle.pixel.specs.declared.mode.Mode.{Mode}
use Rattle.pixel.specs.declared.mode.UnknownMode.{UnknownMode}
use Rattle.pixel.specs.Rects.{place_at}

-- bit 2 is down, bit 1 right, bit 0 column first
abbrev pub mode_of : ℕ → Mode
mode_of n = record { down = (n / 4 % 2 == 1); right = (n / 2 % 2 == 1); vertical = (n % 2 == 1) }

abbrev pub mode_number : Mode → ℕ
mode_number m = (if m.down then 4 else 0) + (if m.right then 2 else 0) + (if m.vertical then 1 else 0)

-- a number below 8 names its mode; any other names none, and is handed back
abbrev pub NamesMode : ℕ → Result Mode UnknownMode → Type 0
NamesMode n r = MatchResult r (λ m. (n < 8) × (m ≡ mode_of n)) (λ e. (7 < n) × (e.0 ≡ n))

-- left if the mode goes right, else right; top if it goes down, else bottom
abbrev pub start_corner : Rect → Mode → Place
start_corner r m = place_at (if m.right then r.left else r.right) (if m.down then r.top else r.bottom)

-- a coordinate that goes up, or down, between two edges is at the edge before it, or beyond
abbrev pub passes : Bool → ℕ → ℕ → ℕ → Bool
passes up low high v = if up then nat_le high v else nat_le v low

-- it moves one; past the edge it goes to the opposite edge
abbrev pub moved : Bool → ℕ → ℕ → ℕ → ℕ
moved up low high v = if passes up low high v then (if up then low else high) else if up then v + 1 else v - 1

-- row first: x moves, and where it passes the edge y moves too; column first exchanges x and y
abbrev pub stepped : Rect → Mode → Place → Place
stepped r m p =
    if m.vertical
    then place_at
    (if passes m.down r.top r.bottom p.y then moved m.right r.left r.right p.x else p.x)
    (moved m.down r.top r.bottom p.y)
    else place_at
    (moved m.right r.left r.right p.x)
    (if passes m.right r.left r.right p.x then moved m.down r.top r.bottom p.y else p.y)

-- x and y exchanged
abbrev pub turned_place : Place → Place
turned_place p = place_at p.y p.x

abbrev pub turned_rect : Rect → Rect
turned_rect r = record { left = r.top; top = r.left; right = r.bottom; bottom = r.right }

abbrev pub turned_mode : Mode → Mode
turned_mode m = record { down = m.right; right = m.down; vertical = not m.vertical }
