use Rattle.vr_space.specs.Keyed.{IsKept}
use Rattle.vr_attach.proofs.Passing.{Still, Rising}
use Rattle.vr_attach.proofs.interval.ascend.Given as goal

abbrev pub invariant-loop-bytes : goal.invariant-loop-bytes
invariant-loop-bytes l = record {
  kept : Still (IsKept l.layout) l.view.items l.bytes-iterator;
  rising : Rising l.layout l.view.items l.last l.bytes-iterator;
}
