use Rattle.std.proofs.Common.{◌≡◌, ◌+◌, ◌-◌, ◌^◌, ◌<◌, min, drop}
use Rattle.lgdp4522.specs.Wired.{after_all, wired}
use Rattle.host.specs.Sent.{beats_of, signals}
use Rattle.host.proofs.send_all.Given as goal

-- the items that are left lead to where all of them lead, over a link of the same format
abbrev pub invariant-loop-item : goal.invariant-loop-item
invariant-loop-item g l =
    let f = (g.L.Link.state l.initial.chip.link).format in
    record {
      fits : l.beats < 2 ^ 64;
      same_format : (g.L.Link.state l.chip.link).format ≡ f;
      count : min (l.beats + beats_of f (drop l.item-index l.items)) (2 ^ 64 - 1) ≡ min (beats_of f l.items) (2 ^ 64 - 1);
      left : after_all (signals f (drop l.item-index l.items)) (wired g.L.Link.state g.M.CellMemory.cells l.chip) ≡ after_all (signals f l.items) (wired g.L.Link.state g.M.CellMemory.cells l.initial.chip);
    }
