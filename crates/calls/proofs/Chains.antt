-- Panels that are the same take a list of calls alike.
use Rattle.std.proofs.Common.{◌≡◌, ℕ, ◌+◌, ◌<◌, Bool, true, false, cond, ◌&&◌, eqb, List, [], ◌∷◌, length, get_or, drop, refl, arith}
use Rattle.std.proofs.lemmas.Bool.Decides.{nat_tests}
use Rattle.std.proofs.lemmas.List.{drop_more}
use Rattle.glass.specs.Panels.{Panel, Same}
use Rattle.glass.proofs.Alike.{frame_same, go_same, ink_same, sleep_same}
use Rattle.glass.proofs.Sames.{same_joined}
use Rattle.calls.specs.declared.Call.{Call}
use Rattle.calls.specs.declared.Call.TheVariants.{Frame, Go, Ink, Sleep, Wake}
use Rattle.calls.specs.declared.Step.{Step}
use Rattle.calls.specs.Calling.{all_did, as_told, call_number, called, did}

call_answers : (c : Call) (p q : Panel) → Same p q → call_number c p ≡ call_number c q
call_answers c p q s = grind (arith, nat_tests)

called_same : (c : Call) (p q : Panel) → Same p q → Same (called c p) (called c q)
called_same (Frame r m k) p q s = frame_same p q s r m k
called_same (Go at) p q s = go_same p q s at
called_same (Ink c) p q s = ink_same p q s c
called_same Sleep p q s = sleep_same p q s true
called_same Wake p q s = sleep_same p q s false

by_cases : (b : Bool) (x y p q : Panel) → Same x y → Same p q → Same (cond b x p) (cond b y q)
by_cases true x y p q s t = s
by_cases false x y p q s t = t

did_same : (c : Call) (p q : Panel) → Same p q → Same (did c p) (did c q)
did_same c p q s = rw (call_answers c p q s) (by_cases (eqb (call_number c q) 0) (called c p) (called c q) p q (called_same c p q s) s)

all_same : (xs : List Step) (p q : Panel) → Same p q → Same (all_did xs p) (all_did xs q)
all_same [] p q s = s
all_same (x ∷ xs) p q s = all_same xs (did x.call p) (did x.call q) (did_same x.call p q s)

told_same : (xs : List Step) (p q : Panel) → Same p q → as_told xs p ≡ as_told xs q
told_same [] p q s = refl
told_same (x ∷ xs) p q s = rw (told_same xs (did x.call p) (did x.call q) (did_same x.call p q s), call_answers x.call p q s) refl

-- one call of a list, and those that are left after it
module _ (xs : List Step) (i : ℕ) (d : Step) (h : i < length xs) (p q : Panel) (s : Same q (did (get_or xs i d).call p)) where
  pub next_did : (r : Panel) → Same (all_did (drop i xs) p) r → Same (all_did (drop (i + 1) xs) q) r
  next_did r e = same_joined _ _ _ (all_same (drop (i + 1) xs) q (did (get_or xs i d).call p) s) (rw (drop_more xs i d h) at e)

  pub next_told : as_told (drop i xs) p ≡ (eqb (call_number (get_or xs i d).call p) (get_or xs i d).answer && as_told (drop (i + 1) xs) q)
  next_told = rw (drop_more xs i d h, told_same (drop (i + 1) xs) q (did (get_or xs i d).call p) s) refl
