use Rattle.commands.proofs.Done.{ink_done}
use Rattle.driver.proofs.Driven.{drove}
use Rattle.driver.proofs.Driver.land.Goals as goal

pub returns : goal.returns
returns g c = drove c.send_ink.ensures (ink_done _ _ _ c.requires.reached c.args.window c.args.colour c.requires.taken)
