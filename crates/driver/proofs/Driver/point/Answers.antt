use Rattle.std.proofs.Common.{◌+◌, ◌*◌, ap, arith}
use Rattle.std.proofs.lemmas.Bool.Decides.{nat_tests}
use Rattle.pixel.proofs.Places.{address_back}
use Rattle.commands.proofs.Done.{go_done, narrow}
use Rattle.driver.proofs.Driven.{drove}
use Rattle.driver.proofs.Driver.point.Goals as goal

-- every place of a window has an address
pub unwrap-requires : goal.unwrap-requires
unwrap-requires g c = let n = narrow _ _ c.requires.reached c.args.window c.args.place c.requires.taken.window c.requires.taken.within in grind (arith, nat_tests)

pub returns : goal.returns
returns g c = drove (rw (ap (λ p. p.y * 256 + p.x) (address_back c.args.place c.unwrap.result cc)) at c.send_go.ensures) (go_done _ _ _ c.requires.reached c.args.window c.args.place c.requires.taken)
