-- A colour that meets a cell leaves the memory as long as it was, and every cell a colour.
use Rattle.std.proofs.Common.{◌≡◌, ℕ, ◌<◌, List, length, get_or, Option, arith}
use Rattle.std.proofs.lemmas.List.{get_or-set_other, get_or-set_same, length-set}
use Rattle.pixel.specs.declared.address.Offset.{Offset}
use Rattle.pixel.proofs.Meeting.{met_fits}
use Rattle.cells.specs.Memory.{memory_met}

pub met_length : (mask c : ℕ) (o : Option Offset) (cells : List ℕ) → length (memory_met mask c o cells) ≡ length cells
met_length mask c o cells = grind (arith, length-set)

pub met_colours : (mask c : ℕ) (o : Option Offset) (cells : List ℕ) → mask < 262144 → ((k : ℕ) → k < length cells → get_or cells k 0 < 262144) → (k : ℕ) → k < length (memory_met mask c o cells) → get_or (memory_met mask c o cells) k 0 < 262144
met_colours mask c o cells m all k h = grind (arith, all, met_fits, met_length, get_or-set_other, get_or-set_same)
