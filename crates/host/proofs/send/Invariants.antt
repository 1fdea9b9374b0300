use Rattle.std.proofs.Common.{◌≡◌, drop}
use Rattle.lgdp4522.specs.Wired.{after_all, wired}
use Rattle.host.specs.Sent.{beat_signals}
use Rattle.host.proofs.send.Given as goal

-- the beats that are left lead to where all of them lead, over a link of the same format
abbrev pub invariant-loop-n : goal.invariant-loop-n
invariant-loop-n g l =
    let f = (g.L.Link.state l.initial.chip.link).format in
    ((g.L.Link.state l.chip.link).format ≡ f)
    × (after_all (beat_signals l.rs (drop l.n (f.beats l.item))) (wired g.L.Link.state g.M.CellMemory.cells l.chip)
    ≡ after_all (beat_signals l.rs (f.beats l.item)) (wired g.L.Link.state g.M.CellMemory.cells l.initial.chip))
