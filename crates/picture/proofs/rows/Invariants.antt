use Rattle.std.proofs.Common.{◌≡◌, ◌++◌}
use Rattle.std.specs.String.{string_bytes}
use Rattle.std.specs.Slice.Iter.{chunks_rest, chunks_size}
use Rattle.picture.specs.Letters.{lettered}
use Rattle.picture.proofs.rows.Given as goal

-- what is written, and the letters of the cells that are left, make the whole text
abbrev pub invariant-loop-row : goal.invariant-loop-row
invariant-loop-row l =
    (chunks_size l.row-iterator ≡ l.width)
    × (string_bytes l.text ++ lettered l.width l.width (chunks_rest l.row-iterator) ≡ lettered l.fn.width l.fn.width l.cells)
