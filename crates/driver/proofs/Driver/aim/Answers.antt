use Rattle.commands.proofs.Done.{frame_done}
use Rattle.driver.proofs.Driven.{drove}
use Rattle.driver.proofs.Driver.aim.Goals as goal

pub returns : goal.returns
returns g c = drove (rw c.from_number.ensures at c.send_frame.ensures) (frame_done _ _ _ c.requires.reached c.args.rect c.args.mode c.args.mask c.requires.taken)
