-- Rectangles by their edges, and start corners and steps that stay inside.
use Rattle.std.proofs.Common.{◌≡◌, ℕ, ◌<◌, ◌≤◌, Bool, true, arith}
use Rattle.std.proofs.lemmas.Bool.Decides.{nat_tests}
use Rattle.pixel.specs.declared.rect.Place.{Place}
use Rattle.pixel.specs.declared.rect.Rect.{Rect}
use Rattle.pixel.specs.declared.rect.Size.{Size}
use Rattle.pixel.specs.declared.mode.Mode.{Mode}
use Rattle.pixel.specs.Rects.{fits_in, holds_place}
use Rattle.pixel.specs.Modes.{moved, start_corner, stepped}

-- the edges of a rectangle that lies on a screen
pub record Inside (s : Size) (r : Rect) : Type 0 where
  pub across : r.left ≤ r.right
  pub right : r.right < s.width
  pub down : r.top ≤ r.bottom
  pub bottom : r.bottom < s.height

-- the edges that a place lies between
pub record Held (r : Rect) (p : Place) : Type 0 where
  pub left : r.left ≤ p.x
  pub right : p.x ≤ r.right
  pub top : r.top ≤ p.y
  pub bottom : p.y ≤ r.bottom

pub fits_parts : (s : Size) (r : Rect) → fits_in s r ≡ true → Inside s r
fits_parts s r e = record { across = grind (arith, nat_tests); right = grind (arith, nat_tests); down = grind (arith, nat_tests); bottom = grind (arith, nat_tests) }

pub fits_from : (s : Size) (r : Rect) → Inside s r → fits_in s r ≡ true
fits_from s r f = grind arith

pub holds_parts : (r : Rect) (p : Place) → holds_place r p ≡ true → Held r p
holds_parts r p e = record { left = grind (arith, nat_tests); right = grind (arith, nat_tests); top = grind (arith, nat_tests); bottom = grind (arith, nat_tests) }

pub holds_from : (r : Rect) (p : Place) → Held r p → holds_place r p ≡ true
holds_from r p f = grind arith

-- one coordinate's move stays between the edges
pub moved_between : (up : Bool) (low high v : ℕ) → low ≤ v → v ≤ high → (low ≤ moved up low high v) × (moved up low high v ≤ high)
moved_between up low high v a b = (grind (arith, nat_tests), grind (arith, nat_tests))

pub stepped_inside : (r : Rect) (m : Mode) (p : Place) → Held r p → Held r (stepped r m p)
stepped_inside r m p f = record { left = grind (arith, nat_tests); right = grind (arith, nat_tests); top = grind (arith, nat_tests); bottom = grind (arith, nat_tests) }

pub step_holds : (r : Rect) (m : Mode) (p : Place) → holds_place r p ≡ true → holds_place r (stepped r m p) ≡ true
step_holds r m p e = holds_from r (stepped r m p) (stepped_inside r m p (holds_parts r p e))

pub start_holds : (s : Size) (r : Rect) (m : Mode) → fits_in s r ≡ true → holds_place r (start_corner r m) ≡ true
start_holds s r m e = grind arith
