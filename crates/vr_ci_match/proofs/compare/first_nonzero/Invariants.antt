use Rattle.std.proofs.Common.{◌≡◌, ◌-◌, drop, take, replicate}
use Rattle.vr_ci_match.proofs.compare.first_nonzero.Given as goal

abbrev pub invariant-loop-i : goal.invariant-loop-i
invariant-loop-i l = take (l.i - l.from) (drop l.from l.bytes) ≡ replicate (l.i - l.from) 0
