-- The controller behind its link, and what beats leave in it.
use Rattle.std.specs.Prelude.{ℕ, Bool, if◌then◌else◌, List, [], ◌∷◌, length, Some, None, Ok, Err, Option, Result}
use Rattle.pixel.specs.declared.rect.Size.{Size}
use Rattle.cells.specs.Sizes.{fitted_cells, fitted_size}
use Rattle.link.specs.declared.Item.{Item}
use Rattle.link.specs.declared.LinkFault.{LinkFault}
use Rattle.link.specs.declared.LinkFault.TheVariants.{Wide}
use Rattle.link.specs.declared.Taken.{Taken}
use Rattle.link.specs.Formats.{Format, State, answered, dropped, state_of, taken, took}
use Rattle.registers.specs.Registers.{power_on}
use Rattle.registers.specs.Chip.{Chip, at_22h, chip_of, obeyed}
use Rattle.lgdp4522.specs.declared.Lgdp4522.{Lgdp4522}

-- the link (its format, and the beats held of an unfinished item), and the controller behind it
pub record Wired (B : Type 0) : Type 0 where
  pub link : State B
  pub chip : Chip

abbrev pub wired_of : {B : Type 0} → State B → Chip → Wired B
wired_of l s = record { link = l; chip = s }

-- what a value of the code means, by what its link is and its memory has
abbrev pub wired : {B L M : Type 0} → (L → State B) → (M → List ℕ) → Lgdp4522 L M → Wired B
wired state cells s = wired_of (state s.link) (chip_of (cells s.memory) s.registers)

-- fitted: power-on and every cell 0; a size that does not fit the memory gives 0 × 0, and the memory stays
abbrev pub fitted_chip : Size → List ℕ → Chip
fitted_chip s cells = chip_of (fitted_cells s cells) (power_on (fitted_size s (length cells)))

-- and nothing is held
abbrev pub fitted : {B : Type 0} → Format B → Size → List ℕ → Wired B
fitted f s cells = wired_of (state_of f []) (fitted_chip s cells)

-- a falling chip select drops what is held
abbrev pub selected : {B : Type 0} → Wired B → Wired B
selected s = wired_of (dropped s.link) s.chip

-- the controller obeys what a beat completes
abbrev pub obeyed_if : Result (Option Item) LinkFault → Chip → Chip
obeyed_if (Err _) s = s
obeyed_if (Ok None) s = s
obeyed_if (Ok (Some i)) s = obeyed i s

abbrev pub after_beat : {B : Type 0} → Taken B → Wired B → Wired B
after_beat t s = wired_of (took t s.link) (obeyed_if (answered (at_22h s.chip) t s.link) s.chip)

-- a beat wider than the link is refused
abbrev pub beat_answer : {B : Type 0} → Format B → B → Result (Unit {0}) LinkFault
beat_answer f b = if f.wide b then Err Wide else Ok tt

-- what comes over a link: a falling chip select, or a beat with the level of register select
pub data Signal (B : Type 0) : Type 0 where
  select : Signal B
  beat : Bool → B → Signal B

abbrev pub after_one : {B : Type 0} → Signal B → Wired B → Wired B
after_one select s = selected s
after_one (beat high b) s = after_beat (taken high b) s

-- what taking a list of signals leaves, one after another
abbrev pub after_all : {B : Type 0} → List (Signal B) → Wired B → Wired B
after_all [] s = s
after_all (x ∷ xs) s = after_all xs (after_one x s)
