-- A glass whose cells lie in memory.
use Rattle.std.specs.Prelude.{◌≡◌, ℕ, ◌<◌, true, List, length, slice_index}
use Rattle.pixel.specs.declared.rect.Place.{Place}
use Rattle.pixel.specs.declared.rect.Size.{Size}
use Rattle.pixel.specs.Addresses.{cell_index}
use Rattle.cells.specs.Sizes.{fits_memory}

-- the cell at a place is the number at row × width + column
abbrev pub held_cell : Size → List ℕ → Place → ℕ
held_cell s cells at = slice_index cells (cell_index s at)

-- a glass that has cells has the memory for them
abbrev pub Served : Size → List ℕ → Type 0
Served s cells = 0 < s.width → fits_memory s (length cells) ≡ true
