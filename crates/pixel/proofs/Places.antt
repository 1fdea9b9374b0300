-- Places on a screen have addresses and offsets, each its own.
use Rattle.std.proofs.Common.{◌≡◌, ℕ, ◌+◌, ◌*◌, ◌/◌, ◌%◌, ◌<◌, ◌≤◌, Some, arith}
use Rattle.std.proofs.lemmas.Nat.{mod-mul-add, mul-add-lt, same_from_place}
use Rattle.pixel.specs.declared.address.Address.{Address}
use Rattle.pixel.specs.declared.address.Offset.{Offset}
use Rattle.pixel.specs.declared.rect.Place.{Place}
use Rattle.pixel.specs.declared.rect.Size.{Size}
use Rattle.pixel.specs.Addresses.{address_at, address_of, cell_index, offset_at, offset_of, place_of}

abbrev pub offset_is : ℕ → Offset
offset_is i = record { index = i }

-- the address of a place leads back to it
pub place_back : (p : Place) → p.x < 256 → place_of (address_at (p.y * 256 + p.x)) ≡ p
place_back p h = grind arith

-- on a screen of at most 256 × 256, a cell lies at row × width + column
pub offset_on : (s : Size) (p : Place) → s.width ≤ 256 → s.height ≤ 256 → p.x < s.width → p.y < s.height → offset_at s p ≡ Some (offset_is (cell_index s p))
offset_on s p w h a b = grind (arith, place_back)

-- a cell's index is below width × height, and two cells have two indexes
pub index_below : (s : Size) (p : Place) → p.x < s.width → p.y < s.height → cell_index s p < s.width * s.height
index_below s p a b = mul-add-lt p.y s.width p.x s.height b a

pub index_apart : (s : Size) (p q : Place) → p.x < s.width → q.x < s.width → cell_index s p ≡ cell_index s q → (p.x ≡ q.x) × (p.y ≡ q.y)
index_apart s p q a b e = let h = same_from_place p.y p.x q.y q.x s.width a b e in (h.1, h.0)

pub address_back : (p : Place) (a : Address) → address_of p ≡ Some a → place_of a ≡ p
address_back p a e = grind arith

-- an address that has an offset is on the screen, and the offset is its cell's index
pub record Offsets (s : Size) (a : Address) (o : Offset) : Type 0 where
  pub inside : o.index < s.width * s.height
  pub row : o.index / s.width ≡ (place_of a).y
  pub column : o.index % s.width ≡ (place_of a).x

pub offsets : (s : Size) (a : Address) (o : Offset) → offset_of s a ≡ Some o → Offsets s a o
offsets s a o e = record { inside = grind (arith, mul-add-lt); row = grind arith; column = grind (arith, mod-mul-add) }
