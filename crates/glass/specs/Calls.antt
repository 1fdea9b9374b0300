-- What each call of a glass answers, and what it leaves.
use Rattle.std.specs.Prelude.{◌≡◌, ℕ, ◌<◌, Bool, true, false, if◌then◌else◌, ◌&&◌, not, is_none, Some, None, Ok, Err, Option, Result, ◌==◌, nat_lt}
use Rattle.pixel.specs.declared.mode.Mode.{Mode}
use Rattle.pixel.specs.declared.rect.Place.{Place}
use Rattle.pixel.specs.declared.rect.Rect.{Rect}
use Rattle.pixel.specs.declared.rect.Size.{Size}
use Rattle.pixel.specs.Addresses.{on_screen}
use Rattle.pixel.specs.Colours.{met}
use Rattle.pixel.specs.Modes.{mode_of, start_corner, stepped}
use Rattle.pixel.specs.Rects.{fits_in, holds_place}
use Rattle.glass.specs.declared.GlassFault.{GlassFault}
use Rattle.glass.specs.Faults.{answered}
use Rattle.glass.specs.Panels.{Panel, Same}

-- above 3FFFFh: neither a colour nor a mask
abbrev pub too_wide : ℕ → Bool
too_wide c = nat_lt 262143 c

-- a place in the window; without a window there is none
abbrev pub in_window : Option Rect → Place → Bool
in_window None at = false
in_window (Some r) at = holds_place r at

-- frame: 2 asleep, 3 not inside, 15 mode above 7, 5 mask too wide
abbrev pub frame_refusal : Bool → Size → Rect → ℕ → ℕ → ℕ
frame_refusal asleep s r m k =
    if asleep then 2 else if not (fits_in s r) then 3 else if nat_lt 7 m then 15 else if too_wide k then 5 else 0

abbrev pub frame_number : Rect → ℕ → ℕ → Panel → ℕ
frame_number r m k p = frame_refusal p.asleep p.size r m k

-- what holds of the arguments of a frame that is accepted
pub record FrameTaken (asleep : Bool) (s : Size) (r : Rect) (m k : ℕ) : Type 0 where
  pub awake : asleep ≡ false
  pub inside : fits_in s r ≡ true
  pub mode_fits : m < 8
  pub mask_fits : k < 262144

-- it sets window, mode and mask, and the place to the start corner
abbrev pub framed : Rect → ℕ → ℕ → Panel → Panel
framed r m k p = record p { window = Some r; place = start_corner r (mode_of m); mode = mode_of m; mask = k }

-- go: 2 asleep, 4 outside the window
abbrev pub go_refusal : Bool → Option Rect → Place → ℕ
go_refusal asleep o at = if asleep then 2 else if not (in_window o at) then 4 else 0

abbrev pub go_number : Place → Panel → ℕ
go_number at p = go_refusal p.asleep p.window at

-- what holds of a place that is accepted: it lies in this window
pub record GoTaken (asleep : Bool) (o : Option Rect) (at : Place) (r : Rect) : Type 0 where
  pub awake : asleep ≡ false
  pub window : o ≡ Some r
  pub within : holds_place r at ≡ true

-- it sets the place
abbrev pub gone : Place → Panel → Panel
gone at p = record p { place = at }

-- ink: 2 asleep, 3 no window, 5 colour too wide
abbrev pub ink_refusal : Bool → Option Rect → ℕ → ℕ
ink_refusal asleep o c = if asleep then 2 else if is_none o then 3 else if too_wide c then 5 else 0

abbrev pub ink_number : ℕ → Panel → ℕ
ink_number c p = ink_refusal p.asleep p.window c

-- what holds of a colour that is accepted: this is the window that it goes to
pub record InkTaken (asleep : Bool) (o : Option Rect) (c : ℕ) (r : Rect) : Type 0 where
  pub awake : asleep ≡ false
  pub window : o ≡ Some r
  pub colour_fits : c < 262144

abbrev pub same_place : Place → Place → Bool
same_place a b = a.x == b.x && a.y == b.y

-- the next place; without a window it stays
abbrev pub step_in : Option Rect → Mode → Place → Place
step_in None m at = at
step_in (Some r) m at = stepped r m at

-- the colour, as carried, meets the cell at the place under the mask; the other cells stay, and the place steps
abbrev pub inked : ℕ → Panel → Panel
inked c p = record p {
  cell = λ at. (if same_place p.place at then met p.mask (p.cell at) (p.carried c) else p.cell at);
  place = step_in p.window p.mode p.place;
}

-- look: 6 outside the glass
abbrev pub look_number : Place → Panel → ℕ
look_number at p = if on_screen p.size at then 0 else 6

-- shade: 5 colour too wide
abbrev pub shade_number : ℕ → ℕ
shade_number c = if too_wide c then 5 else 0

-- sleep and wake are never refused
abbrev pub slept : Bool → Panel → Panel
slept sleeps p = record p { asleep = sleeps }

-- a call leaves what it does if it was accepted, and what was there if it was refused
abbrev pub left_by : {A : Type 0} → Result A GlassFault → Panel → Panel → Panel
left_by (Ok _) done before = done
left_by (Err _) done before = before

-- a refused call leaves the very value that was there, parts that no panel shows included
abbrev pub Untouched : {A G : Type 0} → Result A GlassFault → G → G → Type 0
Untouched (Ok _) after before = Unit {0}
Untouched (Err _) after before = after ≡ before

-- a call, told whole: the glass is left in a state that is reached, the answer has this number, and the panel is what the
-- call makes of it; where it is refused, the glass is the very one that was there
pub record Called {A G : Type 0} (reached : G → Type 0) (means : G → Panel) (number : Panel → ℕ) (done : Panel → Panel) (result : Result A GlassFault) (old new : G) : Type 0 where
  pub stays : reached new
  pub answer : answered result ≡ number (means old)
  pub after : Same (means new) (left_by result (done (means old)) (means old))
  pub refused : Untouched result new old
