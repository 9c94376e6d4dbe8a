use Rattle.std.proofs.Common.{◌≡◌, ◌-◌, drop, take, replicate}
use Rattle.std.specs.Prelude.{IsTrue}
use Rattle.vr_ci.proofs.walk.is_zero.Given as goal

abbrev pub invariant-loop-i : goal.invariant-loop-i
invariant-loop-i l = IsTrue l.zero
    → take (l.i - l.from) (drop l.from l.bytes) ≡ replicate (l.i - l.from) 0
