-- Addresses and offsets: two sorts of number for one cell.
use Rattle.std.specs.Prelude.{ℕ, ◌+◌, ◌*◌, ◌/◌, ◌%◌, Bool, if◌then◌else◌, ◌&&◌, Some, None, Option, nat_lt}
use Rattle.pixel.specs.declared.rect.Place.{Place}
use Rattle.pixel.specs.declared.rect.Size.{Size}
use Rattle.pixel.specs.declared.address.Address.{Address}
use Rattle.pixel.specs.declared.address.Offset.{Offset}
use Rattle.pixel.specs.Rects.{place_at}

abbrev pub address_at : ℕ → Address
address_at ad = record { number = ad }

-- AD is row × 256 + column
abbrev pub address_of : Place → Option Address
address_of p = if nat_lt p.x 256 && nat_lt p.y 256 then Some (address_at (p.y * 256 + p.x)) else None

abbrev pub place_of : Address → Place
place_of a = place_at (a.number % 256) (a.number / 256)

-- an offset is row × width + column
abbrev pub cell_index : Size → Place → ℕ
cell_index s p = p.y * s.width + p.x

abbrev pub on_screen : Size → Place → Bool
on_screen s p = nat_lt p.x s.width && nat_lt p.y s.height

-- the one conversion: an address off the screen has no offset
abbrev pub offset_of : Size → Address → Option Offset
offset_of s a = if on_screen s (place_of a) then Some (record { index = cell_index s (place_of a) }) else None

abbrev pub then_offset : Size → Option Address → Option Offset
then_offset s None = None
then_offset s (Some a) = offset_of s a

-- a place's offset, by way of its address
abbrev pub offset_at : Size → Place → Option Offset
offset_at s p = then_offset s (address_of p)
