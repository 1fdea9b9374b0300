use Rattle.std.proofs.Common.{◌≡◌, ◌&&◌, drop}
use Rattle.glass.specs.Panels.{Same}
use Rattle.calls.specs.Calling.{all_did, as_told}
use Rattle.calls.proofs.run.Given as goal

-- the calls that are left lead to where all of them lead
abbrev pub invariant-loop-step : goal.invariant-loop-step
invariant-loop-step g l = record {
  stays : g.G.Glass.reached l.glass;
  left : Same (all_did (drop l.step-index l.steps) (g.G.Glass.means l.glass)) (all_did l.steps (g.G.Glass.means l.initial.glass));
  told : (l.told && as_told (drop l.step-index l.steps) (g.G.Glass.means l.glass)) ≡ as_told l.steps (g.G.Glass.means l.initial.glass);
}
