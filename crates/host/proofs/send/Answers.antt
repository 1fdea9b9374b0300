use Rattle.std.proofs.Common.{◌≡◌, [], ◌∷◌, Some, ap, ◌∙◌, arith}
use Rattle.std.specs.List.{slice_get}
use Rattle.lgdp4522.specs.Wired.{after_all, wired}
use Rattle.host.specs.Sent.{beat_signals, signals}
use Rattle.host.proofs.Arrive.{beat_again, beat_by, counted_by, item_sent, went}
use Rattle.host.proofs.send.Goals as goal

pub loop-n-preserved : goal.loop-n-preserved
loop-n-preserved g c =
    let q = c.select.new.self in
    let s = c.loop-n.chip in
    let f = (g.L.Link.state q.link).format in
    let en = counted_by (λ m. (g.L.Link.state m).format) c.link.result.now q.link c.args.item c.count-count.result c.count-count.ensures c.link.ensures in
    let here : Some c.unwrap-beat.result ≡ slice_get (f.beats c.args.item) c.loop-n.n =
    beat_by (λ m. (g.L.Link.state m).format) c.link-in-loop-n.result.now s.link c.args.item c.loop-n.n c.beat.result c.unwrap-beat.result c.unwrap-beat.ensures c.beat.ensures c.link-in-loop-n.ensures ∙ ap (λ v. slice_get (v.beats c.args.item) c.loop-n.n) c.loop-n.invariant.0 in (
      ap (λ w. w.link.format) c.take.ensures.after ∙ c.loop-n.invariant.0,
      beat_again (f.beats c.args.item) c.level-rs.result c.loop-n.n c.unwrap-beat.result (wired g.L.Link.state g.M.CellMemory.cells s) (wired g.L.Link.state g.M.CellMemory.cells c.take.new.self) (after_all (beat_signals c.level-rs.result (f.beats c.args.item)) (wired g.L.Link.state g.M.CellMemory.cells q)) (omega arith) here c.take.ensures.after c.loop-n.invariant.1,
    )

pub returns-clause-went : goal.returns-clause-went
returns-clause-went g c =
    let p = wired g.L.Link.state g.M.CellMemory.cells c.args.chip.now in
    let q = wired g.L.Link.state g.M.CellMemory.cells c.select.new.self in
    let s = wired g.L.Link.state g.M.CellMemory.cells c.loop-n.chip in
    let en = counted_by (λ m. (g.L.Link.state m).format) c.link.result.now c.select.new.self.link c.args.item c.count-count.result c.count-count.ensures c.link.ensures in
    let done = item_sent q.link.format c.args.item c.level-rs.result c.loop-n.n s q p c.level-rs.ensures (omega arith) c.select.ensures c.loop-n.invariant.1 in
    went _ _ (c.args.item ∷ []) p s (g.met.L.Link.lawful c.args.chip.now.link) (done ∙ ap (λ v. after_all (signals v.link.format (c.args.item ∷ [])) p) c.select.ensures)
