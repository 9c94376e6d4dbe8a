use Rattle.std.proofs.Common.{arith}
use Rattle.vr_split.proofs.Totals.{weight_more}
use Rattle.vr_split.proofs.weights.weight_of.Goals as goal

pub loop-i-preserved : goal.loop-i-preserved
loop-i-preserved c = record {
  sum = omega (
    arith,
    weight_more c.args.entries.now c.loop-i.i c.index-entries-i.result c.loop-i-test.true
        c.index-entries-i.is,
    c.loop-i.invariant.sum,
    c.weighs-sum.ensures.weight,
  );
  few = omega (arith, c.weighs-sum.ensures.few, c.loop-i.invariant.few);
}
