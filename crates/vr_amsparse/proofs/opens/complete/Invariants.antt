use Rattle.std.proofs.Common.{◌≡◌, length}
use Rattle.vr_amsparse.specs.Opens.{completed}
use Rattle.vr_amsparse.proofs.opens.complete.Given as goal

-- what is left comes to the same
abbrev pub invariant-loop-one : goal.invariant-loop-one
invariant-loop-one l = completed l.opens ≡ completed l.fn.opens

abbrev pub decreases-loop-one : goal.decreases-loop-one
decreases-loop-one l = length l.opens
