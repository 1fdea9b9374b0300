-- Pictures in memory: what is looked up there, and what a colour leaves.
use Rattle.std.proofs.Common.{◌≡◌, ℕ, ◌*◌, ◌<◌, ◌≤◌, true, cond, List, replicate, Some, None, arith}
use Rattle.std.proofs.lemmas.Bool.Decides.{nat_tests}
use Rattle.std.proofs.lemmas.List.{get_or-replicate, get_or-set_other, get_or-set_same}
use Rattle.pixel.specs.declared.rect.Place.{Place}
use Rattle.pixel.specs.declared.rect.Size.{Size}
use Rattle.pixel.specs.Addresses.{offset_at, on_screen}
use Rattle.pixel.specs.Colours.{met}
use Rattle.pixel.proofs.Places.{index_apart, index_below, offset_on, place_back}
use Rattle.cells.specs.Memory.{cell_in, memory_met}
use Rattle.cells.specs.Sizes.{fits_memory}
use Rattle.glass.specs.Panels.{SizeRule}
use Rattle.glass.specs.Calls.{same_place}
use Rattle.glass.specs.Memories.{Served, held_cell}

pub record Small (s : Size) : Type 0 where
  pub narrow : s.width ≤ 176
  pub low : s.height ≤ 220

pub small : (s : Size) (cells : List ℕ) → SizeRule s → Served s cells → Small s
small s cells z f = record { narrow = grind (arith, nat_tests); low = grind (arith, nat_tests) }

full : (s : Size) (n : ℕ) → fits_memory s n ≡ true → n ≡ s.width * s.height
full s n e = grind (arith, nat_tests)

-- what is looked up
pub looked : (s : Size) (cells : List ℕ) (at : Place) → SizeRule s → Served s cells → cell_in cells (offset_at s at) ≡ cond (on_screen s at) (Some (held_cell s cells at)) None
looked s cells at z f = let d = small s cells z f in grind (arith, nat_tests, place_back)

-- what a colour leaves of the picture
pub met_held : (s : Size) (cells : List ℕ) (mask c : ℕ) (p at : Place) → Served s cells → p.x < s.width → p.y < s.height → at.x < s.width → held_cell s (memory_met mask c (offset_at s p) cells) at ≡ cond (same_place p at) (met mask (held_cell s cells at) c) (held_cell s cells at)
met_held s cells mask c p at f px py ax = grind (arith, nat_tests, offset_on, index_below, full, index_apart, get_or-set_same, get_or-set_other)

-- cleared memory shows 0 everywhere
pub cleared_held : (s : Size) (n : ℕ) (at : Place) → fits_memory s n ≡ true → at.x < s.width → at.y < s.height → held_cell s (replicate n 0) at ≡ 0
cleared_held s n at e a b = grind (arith, nat_tests, index_below, full, get_or-replicate)
