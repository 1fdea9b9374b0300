use Rattle.std.proofs.Common.{refl}
use Rattle.card.specs.Cards.{card_cells, card_items}
use Rattle.card.proofs.Drawn.{drawn}
use Rattle.card.proofs.draw.Goals as goal

pub returns : goal.returns
unfolding card_items card_cells
returns g c =
    let d = drawn (g.L.Link.state c.args.link).format card_items c.new.result.cells.now c.shown.result c.send_all-beats.result _ _ c.new.ensures c.fit-chip.ensures.fitted refl refl refl c.send_all-beats.ensures.count c.send_all-beats.ensures.went c.shown.ensures.long c.shown.ensures.cells in
    record { beats = d.beats; cells = d.cells }
