-- The plain glass: what it means, and what its making and its calls keep.
use Rattle.std.specs.Prelude.{◌≡◌, ℕ, ◌<◌, false, List, None}
use Rattle.pixel.specs.declared.rect.Place.{Place}
use Rattle.pixel.specs.declared.rect.Rect.{Rect}
use Rattle.pixel.specs.declared.rect.Size.{Size}
use Rattle.pixel.specs.Addresses.{offset_at}
use Rattle.pixel.specs.Modes.{mode_of, stepped}
use Rattle.pixel.specs.Rects.{place_at}
use Rattle.cells.specs.Memory.{memory_met}
use Rattle.glass.specs.Memories.{Served, held_cell}
use Rattle.glass.specs.Panels.{Panel, SizeRule, WindowRule}
use Rattle.plain.specs.declared.PlainGlass.{PlainGlass}

-- cells by what the memory holds; every colour is carried as it is
abbrev pub plain_panel : {M : Type 0} → (M → List ℕ) → PlainGlass M → Panel
plain_panel cells s = record {
  size = s.size;
  cell = held_cell s.size (cells s.memory);
  window = s.window;
  place = s.place;
  mode = s.mode;
  mask = s.mask;
  asleep = s.asleep;
  carried = λ c. c;
}

-- the states that fitting and the calls reach
pub record PlainReached {M : Type 0} (cells : M → List ℕ) (s : PlainGlass M) : Type 0 where
  pub size : SizeRule s.size
  pub served : Served s.size (cells s.memory)
  pub window : WindowRule s.size s.window s.place s.mode s.mask
  pub colours : (at : Place) → at.x < s.size.width → at.y < s.size.height → held_cell s.size (cells s.memory) at < 262144

-- fitted at a size: no window, place (0, 0), mode 6, mask 0, awake
pub record Fitted {M : Type 0} (z : Size) (s : PlainGlass M) : Type 0 where
  pub size : s.size ≡ z
  pub window : s.window ≡ None
  pub place : s.place ≡ place_at 0 0
  pub mode : s.mode ≡ mode_of 6
  pub mask : s.mask ≡ 0
  pub asleep : s.asleep ≡ false

-- a colour landed: the cell at the place is met, the place steps, all else stays
pub record Landed {M : Type 0} (cells : M → List ℕ) (r : Rect) (c : ℕ) (s t : PlainGlass M) : Type 0 where
  pub memory : cells t.memory ≡ memory_met s.mask c (offset_at s.size s.place) (cells s.memory)
  pub place : t.place ≡ stepped r s.mode s.place
  pub size : t.size ≡ s.size
  pub window : t.window ≡ s.window
  pub mode : t.mode ≡ s.mode
  pub mask : t.mask ≡ s.mask
  pub asleep : t.asleep ≡ s.asleep
