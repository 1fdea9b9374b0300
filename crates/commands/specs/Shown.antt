-- A controller as a glass.
use Rattle.std.specs.Prelude.{◌≡◌, ℕ, false, Some, None, Option}
use Rattle.pixel.specs.declared.rect.Rect.{Rect}
use Rattle.pixel.specs.Modes.{mode_of}
use Rattle.pixel.specs.Rects.{place_at}
use Rattle.registers.specs.declared.Registers.{Registers}
use Rattle.registers.specs.Chip.{Chip, Sound}
use Rattle.glass.specs.Memories.{Served, held_cell}
use Rattle.glass.specs.Panels.{Panel, SizeRule}

-- what counts with a window, and what without
abbrev pub by_window : {A : Type 0} → Option Rect → A → A → A
by_window None rest own = rest
by_window (Some _) rest own = own

-- the glass's window is the one that a frame set: before the first frame there is none, although the controller has one;
-- f is how the link carries a colour
abbrev pub chip_panel : Option Rect → (ℕ → ℕ) → Chip → Panel
chip_panel o f s = record {
  size = s.registers.size;
  cell = held_cell s.registers.size s.memory;
  window = o;
  place = by_window o (place_at 0 0) s.registers.place;
  mode = by_window o (mode_of 6) s.registers.mode;
  mask = by_window o 0 s.registers.mask;
  asleep = s.registers.asleep;
  carried = f;
}

-- once a frame was set, the controller's window is the glass's, and what is sent as data is colours
abbrev pub Aimed : Option Rect → Registers → Type 0
Aimed None r = Unit {0}
Aimed (Some q) r = (r.window ≡ Some q) × (r.index ≡ 0x22)

-- the states that fitting and the calls reach: sound, so of a glass's size and with the memory for it; BGR is never set
pub record ChipReached (o : Option Rect) (s : Chip) : Type 0 where
  pub sound : Sound s
  pub size : SizeRule s.registers.size
  pub served : Served s.registers.size s.memory
  pub bgr : s.registers.bgr ≡ false
  pub aimed : Aimed o s.registers
