-- Sizes, places and rectangles.
use Rattle.std.specs.Prelude.{ℕ, Bool, ◌&&◌, nat_le, nat_lt}
use Rattle.pixel.specs.declared.rect.Size.{Size}
use Rattle.pixel.specs.declared.rect.Place.{Place}
use Rattle.pixel.specs.declared.rect.Rect.{Rect}

abbrev pub place_at : ℕ → ℕ → Place
place_at px py = record { x = px; y = py }

abbrev pub size_of : ℕ → ℕ → Size
size_of w h = record { width = w; height = h }

-- inside a screen: left ≤ right < width and top ≤ bottom < height
abbrev pub fits_in : Size → Rect → Bool
fits_in s r = nat_le r.left r.right && nat_lt r.right s.width && nat_le r.top r.bottom && nat_lt r.bottom s.height

-- both edges belong to a rectangle
abbrev pub holds_place : Rect → Place → Bool
holds_place r p = nat_le r.left p.x && nat_le p.x r.right && nat_le r.top p.y && nat_le p.y r.bottom
