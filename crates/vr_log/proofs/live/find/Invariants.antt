use Rattle.vr_log.proofs.Lives.{NoneBefore}
use Rattle.vr_log.proofs.live.find.Given as goal

abbrev pub invariant-loop-i : goal.invariant-loop-i
invariant-loop-i l = NoneBefore l.unit l.units l.i
