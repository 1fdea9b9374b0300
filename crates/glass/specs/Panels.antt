-- What a glass is to its callers.
use Rattle.std.specs.Prelude.{◌≡◌, ℕ, ◌<◌, ◌≤◌, Bool, true, false, ◌⊎◌, Some, None, Option}
use Rattle.pixel.specs.declared.mode.Mode.{Mode}
use Rattle.pixel.specs.declared.rect.Place.{Place}
use Rattle.pixel.specs.declared.rect.Rect.{Rect}
use Rattle.pixel.specs.declared.rect.Size.{Size}
use Rattle.pixel.specs.Modes.{mode_number, mode_of}
use Rattle.pixel.specs.Rects.{fits_in, holds_place, place_at}

pub record Panel : Type 0 where
  pub size : Size
  -- the picture: the colour of the cell at each place
  pub cell : Place → ℕ
  -- where colours go, if it was set, and where the next one goes
  pub window : Option Rect
  pub place : Place
  pub mode : Mode
  pub mask : ℕ
  pub asleep : Bool
  -- the colour that each colour is carried as, on its way to a cell
  pub carried : ℕ → ℕ

-- two panels that no call can tell apart: pictures are compared at every cell of the size
pub record Same (p q : Panel) : Type 0 where
  pub size : p.size ≡ q.size
  pub cells : (at : Place) → at.x < p.size.width → at.y < p.size.height → p.cell at ≡ q.cell at
  pub window : p.window ≡ q.window
  pub place : p.place ≡ q.place
  pub mode : p.mode ≡ q.mode
  pub mask : p.mask ≡ q.mask
  pub asleep : p.asleep ≡ q.asleep
  pub carried : p.carried ≡ q.carried

-- both sides are 0, or each is 1 to 440
abbrev pub SizeRule : Size → Type 0
SizeRule s = ((s.width ≡ 0) × (s.height ≡ 0)) ⊎ ((1 ≤ s.width) × (s.width ≤ 440) × (1 ≤ s.height) × (s.height ≤ 440))

-- a window lies inside and holds the place, and the mask has 18 bits; without one the place is (0, 0), the mode 6, the mask 0
abbrev pub WindowRule : Size → Option Rect → Place → Mode → ℕ → Type 0
WindowRule s None p m k = (p ≡ place_at 0 0) × (m ≡ mode_of 6) × (k ≡ 0)
WindowRule s (Some r) p m k = (fits_in s r ≡ true) × (holds_place r p ≡ true) × (k < 262144)

-- the panels that a glass can be
pub record Possible (p : Panel) : Type 0 where
  pub size : SizeRule p.size
  pub window : WindowRule p.size p.window p.place p.mode p.mask
  pub mode : mode_number p.mode < 8
  -- every cell is a colour, and every colour is carried as one
  pub cells : (at : Place) → at.x < p.size.width → at.y < p.size.height → p.cell at < 262144
  pub carried : (c : ℕ) → c < 262144 → p.carried c < 262144

-- a new glass, awake, every cell 0: no window, place (0, 0), mode 6, mask 0
abbrev pub new_panel : Size → (ℕ → ℕ) → Panel
new_panel s f = record {
  size = s;
  cell = λ _. 0;
  window = None;
  place = place_at 0 0;
  mode = mode_of 6;
  mask = 0;
  asleep = false;
  carried = f;
}
