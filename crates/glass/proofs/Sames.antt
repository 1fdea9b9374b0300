-- Panels that are the same can stand for one another.
use Rattle.std.proofs.Common.{◌≡◌, sym, refl, ◌∙◌}
use Rattle.glass.specs.Panels.{Panel, Possible, Same}

pub same_itself : (p : Panel) → Same p p
same_itself p = record { size = refl; cells = λ at a b. refl; window = refl; place = refl; mode = refl; mask = refl; asleep = refl; carried = refl }

pub same_turned : (p q : Panel) → Same p q → Same q p
same_turned p q s = record {
  size = sym s.size;
  cells = λ at a b. sym (s.cells at (rw s.size a) (rw s.size b));
  window = sym s.window;
  place = sym s.place;
  mode = sym s.mode;
  mask = sym s.mask;
  asleep = sym s.asleep;
  carried = sym s.carried;
}

pub same_joined : (p q r : Panel) → Same p q → Same q r → Same p r
same_joined p q r s t = record {
  size = s.size ∙ t.size;
  cells = λ at a b. s.cells at a b ∙ t.cells at (rw (← s.size) a) (rw (← s.size) b);
  window = s.window ∙ t.window;
  place = s.place ∙ t.place;
  mode = s.mode ∙ t.mode;
  mask = s.mask ∙ t.mask;
  asleep = s.asleep ∙ t.asleep;
  carried = s.carried ∙ t.carried;
}

-- equal panels are the same
pub same_if_equal : (p q : Panel) → p ≡ q → Same p q
same_if_equal p q e = rw e (same_itself q)

pub possible_stands : (p q : Panel) → Same p q → Possible q → Possible p
possible_stands p q s z = record {
  size = rw s.size z.size;
  window = rw (s.size, s.window, s.place, s.mode, s.mask) z.window;
  mode = rw s.mode z.mode;
  cells = λ at a b. rw (s.cells at a b) (z.cells at (rw (← s.size) a) (rw (← s.size) b));
  carried = λ c h. rw s.carried (z.carried c h);
}
