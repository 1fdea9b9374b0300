-- The controller: registers and memory, and what an item makes of them.
use Rattle.std.specs.Prelude.{◌≡◌, ℕ, ◌<◌, Bool, true, if◌then◌else◌, List, length, Some, None, Option, ◌==◌, slice_index}
use Rattle.pixel.specs.declared.rect.Place.{Place}
use Rattle.pixel.specs.declared.rect.Rect.{Rect}
use Rattle.pixel.specs.declared.rect.Size.{Size}
use Rattle.pixel.specs.Rects.{fits_in, holds_place}
use Rattle.pixel.specs.Modes.{stepped}
use Rattle.pixel.specs.Addresses.{offset_at}
use Rattle.cells.specs.Memory.{cell_in, memory_met}
use Rattle.cells.specs.Sizes.{fits_memory}
use Rattle.link.specs.declared.Item.{Item}
use Rattle.link.specs.declared.Item.TheVariants.{Index, Word, Colour}
use Rattle.registers.specs.declared.Registers.{Registers}
use Rattle.registers.specs.Registers.{by_bgr, with_index, with_place, written}

pub record Chip : Type 0 where
  pub memory : List ℕ
  pub registers : Registers

abbrev pub chip_of : List ℕ → Registers → Chip
chip_of cells r = record { memory = cells; registers = r }

-- a colour meets the cell at the place, and the place steps in the window; without a window it is dropped
abbrev pub coloured : Option Rect → ℕ → Chip → Chip
coloured None c s = s
coloured (Some q) c s =
    chip_of
    (memory_met s.registers.mask (by_bgr s.registers.bgr c) (offset_at s.registers.size s.registers.place) s.memory)
    (with_place (stepped q s.registers.mode s.registers.place) s.registers)

-- what an item leaves: an index is always taken, a colour only awake
abbrev pub obeyed : Item → Chip → Chip
obeyed (Index i) s = chip_of s.memory (with_index i s.registers)
obeyed (Word v) s = chip_of s.memory (written v s.registers)
obeyed (Colour c) s = if s.registers.asleep then s else coloured s.registers.window c s

-- with the index at 22h, what register select marks as data is colours
abbrev pub at_22h : Chip → Bool
at_22h s = s.registers.index == 0x22

-- the cell at a place, if it is on the screen
abbrev pub cell_at : Chip → Place → Option ℕ
cell_at s p = cell_in s.memory (offset_at s.registers.size p)

-- a screen with cells: its memory fits, its window lies inside and holds the place, and each cell is a colour
pub record Screen (s : Size) (cells : List ℕ) (q : Rect) (p : Place) : Type 0 where
  pub full : fits_memory s (length cells) ≡ true
  pub inside : fits_in s q ≡ true
  pub holds : holds_place q p ≡ true
  pub colours : (k : ℕ) → k < length cells → slice_index cells k < 262144

-- only a screen of 0 × 0 has no window
abbrev pub WindowSound : Size → List ℕ → Option Rect → Place → Type 0
WindowSound s cells None p = (s.width ≡ 0) × (s.height ≡ 0)
WindowSound s cells (Some q) p = Screen s cells q p

-- the controllers that fitting gives and every beat keeps
pub record Sound (s : Chip) : Type 0 where
  pub window : WindowSound s.registers.size s.memory s.registers.window s.registers.place
  pub mask : s.registers.mask < 262144
