-- What holds of a glass's calls, whatever glass it is.
use Rattle.std.specs.Prelude.{◌≡◌, ℕ, ◌<◌, Bool, false, if◌then◌else◌, None, ◌==◌}
use Rattle.pixel.specs.declared.rect.Place.{Place}
use Rattle.pixel.specs.declared.rect.Rect.{Rect}
use Rattle.pixel.specs.Colours.{bit}
use Rattle.glass.specs.declared.GlassFault.{GlassFault}
use Rattle.glass.specs.Faults.{fault_number}
use Rattle.glass.specs.Panels.{Panel, Possible, Same}
use Rattle.glass.specs.Calls.{frame_number, framed, go_number, gone, ink_number, inked, look_number, same_place, slept}

pub record Laws : Type 0 where
  -- a fault is known by its number
  pub known : (e f : GlassFault) → fault_number e ≡ fault_number f → e ≡ f
  -- panels that are the same can stand for one another
  pub itself : (p : Panel) → Same p p
  pub turned : (p q : Panel) → Same p q → Same q p
  pub joined : (p q r : Panel) → Same p q → Same q r → Same p r
  pub stands : (p q : Panel) → Same p q → Possible q → Possible p
  -- they answer every call alike, and are the same afterwards
  pub frame_alike : (r : Rect) (m k : ℕ) (p q : Panel) → Same p q → (frame_number r m k p ≡ frame_number r m k q) × Same (framed r m k p) (framed r m k q)
  pub go_alike : (at : Place) (p q : Panel) → Same p q → (go_number at p ≡ go_number at q) × Same (gone at p) (gone at q)
  pub ink_alike : (c : ℕ) (p q : Panel) → Same p q → (ink_number c p ≡ ink_number c q) × Same (inked c p) (inked c q)
  pub sleep_alike : (sleeps : Bool) (p q : Panel) → Same p q → Same (slept sleeps p) (slept sleeps q)
  pub look_alike : (at : Place) (p q : Panel) → Same p q → look_number at p ≡ look_number at q
  -- an accepted call leaves a glass that can be
  pub frame_keeps : (r : Rect) (m k : ℕ) (p : Panel) → frame_number r m k p ≡ 0 → Possible p → Possible (framed r m k p)
  pub go_keeps : (at : Place) (p : Panel) → go_number at p ≡ 0 → Possible p → Possible (gone at p)
  pub ink_keeps : (c : ℕ) (p : Panel) → ink_number c p ≡ 0 → Possible p → Possible (inked c p)
  pub sleep_keeps : (sleeps : Bool) (p : Panel) → Possible p → Possible (slept sleeps p)
  -- ink changes the cell at the place alone, and there the bits whose mask bit is 0
  pub ink_elsewhere : (c : ℕ) (p : Panel) (at : Place) → same_place p.place at ≡ false → (inked c p).cell at ≡ p.cell at
  pub ink_there : (c k : ℕ) (p : Panel) → k < 18 → bit k ((inked c p).cell p.place) ≡ (if bit k p.mask == 1 then bit k (p.cell p.place) else bit k (p.carried c))
  -- without a window every place and every colour is refused
  pub nowhere : (at : Place) (p : Panel) → p.asleep ≡ false → p.window ≡ None → go_number at p ≡ 4
  pub no_ink : (c : ℕ) (p : Panel) → p.asleep ≡ false → p.window ≡ None → ink_number c p ≡ 3
