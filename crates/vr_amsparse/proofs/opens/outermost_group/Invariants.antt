use Rattle.std.proofs.Common.{◌≡◌, length}
use Rattle.vr_amsparse.specs.Opens.{group_after, last_group}
use Rattle.vr_amsparse.proofs.opens.outermost_group.Given as goal

-- what is found and what is left come to the same
abbrev pub invariant-loop-one : goal.invariant-loop-one
invariant-loop-one l = group_after l.found l.opens ≡ last_group l.fn.opens

abbrev pub decreases-loop-one : goal.decreases-loop-one
decreases-loop-one l = length l.opens
