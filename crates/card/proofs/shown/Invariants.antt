use Rattle.std.proofs.Common.{◌≡◌, ℕ, ◌<◌, get_or}
use Rattle.lgdp4522.specs.Wired.{wired}
use Rattle.card.specs.Cards.{shown_at}
use Rattle.card.proofs.shown.Given as goal

-- the cells so far are those that the controller shows
abbrev pub invariant-loop-k : goal.invariant-loop-k
invariant-loop-k g l =
    (j : ℕ) → j < l.k → get_or l.cell-items j 0 ≡ shown_at (wired g.L.Link.state g.M.CellMemory.cells l.chip).chip j
