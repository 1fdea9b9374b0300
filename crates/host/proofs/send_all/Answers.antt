use Rattle.std.proofs.Common.{◌∙◌, arith}
use Rattle.lgdp4522.specs.Wired.{wired}
use Rattle.host.proofs.Arrive.{count_again, item_again, items_sent}
use Rattle.host.proofs.send_all.Goals as goal

pub loop-item-preserved : goal.loop-item-preserved
loop-item-preserved g c =
    let f = (g.L.Link.state c.args.chip.now.link).format in
    let s = wired g.L.Link.state g.M.CellMemory.cells c.loop-item.chip in
    let t = wired g.L.Link.state g.M.CellMemory.cells c.send.new.chip in
    record {
      fits = omega arith;
      same_format = c.send.ensures.went.same_format ∙ c.loop-item.invariant.same_format;
      count = count_again f s.link.format c.args.items.now c.loop-item.item-index _ c.loop-item.beats c.send.result c.saturating_add-beats.result _ c.loop-item.invariant.same_format c.loop-item-test.true c.send.ensures.count c.saturating_add-beats.ensures c.loop-item.invariant.count;
      left = item_again f s.link.format c.args.items.now c.loop-item.item-index _ s t _ c.loop-item.invariant.same_format c.loop-item-test.true c.send.ensures.went.beats c.loop-item.invariant.left;
    }

pub returns-clause-went : goal.returns-clause-went
returns-clause-went g c =
    let q = wired g.L.Link.state g.M.CellMemory.cells c.args.chip.now in
    let s = wired g.L.Link.state g.M.CellMemory.cells c.loop-item.chip in
    items_sent _ _ c.args.items.now c.loop-item.item-index q s (g.met.L.Link.lawful c.args.chip.now.link) c.loop-item-test.false c.loop-item.invariant.left
