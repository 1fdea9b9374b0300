use Rattle.std.proofs.Common.{arith}
use Rattle.std.proofs.lemmas.Bool.Decides.{nat_tests}
use Rattle.calls.proofs.Chains.{next_did, next_told}
use Rattle.calls.proofs.run.Goals as goal

pub loop-step-preserved : goal.loop-step-preserved
loop-step-preserved g c =
    let next = c.give-told.ensures in
    record {
      stays = next.stays;
      left = next_did _ _ _ c.loop-step-test.true _ _ next.after _ c.loop-step.invariant.left;
      told = grind (arith, nat_tests, next.told, c.loop-step.invariant.told, next_told _ _ _ c.loop-step-test.true _ _ next.after);
    }
