-- Cells in memory: one number for each, found by its offset.
use Rattle.std.specs.Prelude.{ℕ, List, Some, None, Option, slice_index, slice_set}
use Rattle.pixel.specs.declared.address.Offset.{Offset}
use Rattle.pixel.specs.Colours.{met}

-- the cell at an offset; a place off the screen has no offset, and no cell
abbrev pub cell_in : List ℕ → Option Offset → Option ℕ
cell_in cells None = None
cell_in cells (Some o) = Some (slice_index cells o.index)

-- the memory after a colour met the cell at an offset under a mask
abbrev pub memory_met : ℕ → ℕ → Option Offset → List ℕ → List ℕ
memory_met mask c None cells = cells
memory_met mask c (Some o) cells = slice_set cells o.index (met mask (slice_index cells o.index) c)
