use Rattle.commands.proofs.Done.{rest_done}
use Rattle.driver.proofs.Driven.{drove}
use Rattle.driver.proofs.Driver.rest.Goals as goal

pub returns : goal.returns
returns g c = drove c.send_sleep.ensures (rest_done _ _ _ c.requires c.args.asleep)
