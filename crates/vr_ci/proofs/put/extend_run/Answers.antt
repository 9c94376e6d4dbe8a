use Rattle.std.proofs.Common.{◌∙◌, arith}
use Rattle.vr_ci.proofs.PlaceLemmas.{pair_begun, pair_more}
use Rattle.vr_ci.proofs.put.extend_run.Goals as goal

pub returns-then-count-eq1-clause-run : goal.returns-then-count-eq1-clause-run
returns-then-count-eq1-clause-run c = λ n stands.
    let done = pair_begun c.args.out.now c.args.at c.args.count n c.if-count-eq1.true
    c.requires.place c.requires.within stands in
    (done.0, c.put_number.ensures ∙ done.1)

pub returns-else-count-eq1-clause-run : goal.returns-else-count-eq1-clause-run
returns-else-count-eq1-clause-run c = λ n stands.
    let done = pair_more c.args.out.now c.args.at c.args.count n (omega arith) c.requires.within
    stands in
    (done.0, c.put_number-else-count-eq1.ensures ∙ done.1)
