use Rattle.vr_space.specs.Keyed.{IsKept}
use Rattle.vr_attach.proofs.Passing.{Still}
use Rattle.vr_attach.proofs.interval.are_kept.Given as goal

abbrev pub invariant-loop-bytes : goal.invariant-loop-bytes
invariant-loop-bytes l = Still (IsKept l.layout) l.view.items l.bytes-iterator
