use Rattle.std.proofs.Common.{arith}
use Rattle.std.proofs.lemmas.Bool.Decides.{nat_tests}
use Rattle.glass.proofs.Alike.{frame_answers, frame_same, go_answers, go_same, ink_answers, ink_same, look_answers, sleep_same}
use Rattle.glass.proofs.Keeps.{frame_keeps, go_keeps, ink_elsewhere, ink_keeps, ink_there, no_ink, nowhere, sleep_keeps}
use Rattle.glass.proofs.Sames.{possible_stands, same_itself, same_joined, same_turned}
use Rattle.glass.proofs.laws.Goals as goal

pub returns : goal.returns
returns c = record {
  known = λ e f h. grind (arith, nat_tests);
  itself = same_itself;
  turned = same_turned;
  joined = same_joined;
  stands = possible_stands;
  frame_alike = λ r m k p q s. (frame_answers p q s r m k, frame_same p q s r m k);
  go_alike = λ at p q s. (go_answers p q s at, go_same p q s at);
  ink_alike = λ k p q s. (ink_answers p q s k, ink_same p q s k);
  sleep_alike = λ sleeps p q s. sleep_same p q s sleeps;
  look_alike = λ at p q s. look_answers p q s at;
  frame_keeps = frame_keeps;
  go_keeps = go_keeps;
  ink_keeps = ink_keeps;
  sleep_keeps = sleep_keeps;
  ink_elsewhere = ink_elsewhere;
  ink_there = ink_there;
  nowhere = nowhere;
  no_ink = no_ink;
}
