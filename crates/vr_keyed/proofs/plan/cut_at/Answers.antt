use Rattle.std.proofs.Common.{arith}
use Rattle.vr_keyed.proofs.Planning.{past-all}
use Rattle.vr_keyed.proofs.plan.cut_at.Goals as goal
use Rattle.vr_keyed.proofs.plan.cut_at.Goals.{then-len-lt2-via-then-len-lt2}
use Rattle.vr_keyed.proofs.plan.cut_at.Goals.{then-len-lt2-via-else-len-lt2+then-at-len}

pub returns-then-len-lt2 : goal.returns-then-len-lt2
returns-then-len-lt2 c = record {
  none = λ two n there. elim c.then-len-lt2.branch [
    | then-len-lt2-via-then-len-lt2 w ↦
        absurd (omega (arith, two, w.if-len-lt2.true, c.len.ensures))
    | then-len-lt2-via-else-len-lt2+then-at-len w ↦
        past-all c.args.weights.now.lengths c.args.place.now c.position-at.result n
        c.position-at.ensures
        (omega (arith, w.if-at-len.true, w.len-else-len-lt2.ensures)) there
  ];
}
