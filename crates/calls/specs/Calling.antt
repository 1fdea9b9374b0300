-- Calls of a glass as values: what each answers and does.
use Rattle.std.specs.Prelude.{ℕ, Bool, true, false, if◌then◌else◌, ◌&&◌, List, [], ◌∷◌, ◌==◌}
use Rattle.glass.specs.Calls.{frame_number, framed, go_number, gone, ink_number, inked, slept}
use Rattle.glass.specs.Panels.{Panel}
use Rattle.calls.specs.declared.Call.{Call}
use Rattle.calls.specs.declared.Call.TheVariants.{Frame, Go, Ink, Sleep, Wake}
use Rattle.calls.specs.declared.Step.{Step}

abbrev pub call_number : Call → Panel → ℕ
call_number (Frame r m k) p = frame_number r m k p
call_number (Go at) p = go_number at p
call_number (Ink c) p = ink_number c p
call_number Sleep p = 0
call_number Wake p = 0

abbrev pub called : Call → Panel → Panel
called (Frame r m k) p = framed r m k p
called (Go at) p = gone at p
called (Ink c) p = inked c p
called Sleep p = slept true p
called Wake p = slept false p

-- what a call leaves: a refused one leaves the panel as it was
abbrev pub did : Call → Panel → Panel
did c p = if call_number c p == 0 then called c p else p

-- a list of calls, one after another
abbrev pub all_did : List Step → Panel → Panel
all_did [] p = p
all_did (s ∷ ss) p = all_did ss (did s.call p)

-- whether each call of a list is answered by the number that stands beside it
abbrev pub as_told : List Step → Panel → Bool
as_told [] p = true
as_told (s ∷ ss) p = call_number s.call p == s.answer && as_told ss (did s.call p)
