use Rattle.plain.proofs.Plains.{ink_same, ink_stays}
use Rattle.plain.proofs.PlainGlass.land.Goals as goal

pub returns : goal.returns
returns g c = record {
  stays = ink_stays _ _ _ _ _ c.requires.taken.window c.put.ensures c.requires.reached;
  after = ink_same _ _ _ _ _ c.requires.taken.window c.put.ensures c.requires.reached;
}
