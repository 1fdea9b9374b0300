-- Panels that are the same answer every call alike, and are the same afterwards.
use Rattle.std.proofs.Common.{◌≡◌, ℕ, Bool, refl}
use Rattle.pixel.specs.declared.rect.Place.{Place}
use Rattle.pixel.specs.declared.rect.Rect.{Rect}
use Rattle.glass.specs.Panels.{Panel, Same}
use Rattle.glass.specs.Calls.{frame_number, framed, go_number, gone, ink_number, inked, look_number, slept}

module _ (p q : Panel) (s : Same p q) where
  pub frame_answers : (r : Rect) (m k : ℕ) → frame_number r m k p ≡ frame_number r m k q
  frame_answers r m k = rw (s.asleep, s.size) refl

  pub go_answers : (at : Place) → go_number at p ≡ go_number at q
  go_answers at = rw (s.asleep, s.window) refl

  pub ink_answers : (c : ℕ) → ink_number c p ≡ ink_number c q
  ink_answers c = rw (s.asleep, s.window) refl

  pub look_answers : (at : Place) → look_number at p ≡ look_number at q
  look_answers at = rw (s.size) refl

  pub frame_same : (r : Rect) (m k : ℕ) → Same (framed r m k p) (framed r m k q)
  frame_same r m k = record { size = s.size; cells = s.cells; window = refl; place = refl; mode = refl; mask = refl; asleep = s.asleep; carried = s.carried }

  pub go_same : (at : Place) → Same (gone at p) (gone at q)
  go_same at = record { size = s.size; cells = s.cells; window = s.window; place = refl; mode = s.mode; mask = s.mask; asleep = s.asleep; carried = s.carried }

  pub sleep_same : (sleeps : Bool) → Same (slept sleeps p) (slept sleeps q)
  sleep_same sleeps = record { size = s.size; cells = s.cells; window = s.window; place = s.place; mode = s.mode; mask = s.mask; asleep = refl; carried = s.carried }

  pub ink_same : (c : ℕ) → Same (inked c p) (inked c q)
  ink_same c = record {
    size = s.size;
    cells = λ at a b. rw (s.place, s.mask, s.cells at a b, s.carried) refl;
    window = s.window;
    place = rw (s.window, s.mode, s.place) refl;
    mode = s.mode;
    mask = s.mask;
    asleep = s.asleep;
    carried = s.carried;
  }
