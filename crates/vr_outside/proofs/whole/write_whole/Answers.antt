use Rattle.std.proofs.Common.{arith}
use Rattle.std.proofs.lemmas.Grind.{common_steps}
use Rattle.vr_outside.proofs.CallerLemmas.{Takes-prefix}
use Rattle.vr_outside.proofs.whole.write_whole.Goals as goal

pub loop-at-preserved : goal.loop-at-preserved
loop-at-preserved g c = record {
  within = grind (arith, common_steps);
  taken = Takes-prefix _ _ _ _ _ _ c.loop-at.invariant.taken c.in_ok-n.ensures.bytes;
  steady = grind (arith, common_steps);
}
