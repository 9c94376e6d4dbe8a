use Rattle.std.proofs.Common.{◌≡◌, length}
use Rattle.vr_amsparse.specs.Opens.{dropped}
use Rattle.vr_amsparse.proofs.opens.drop_singles.Given as goal

-- what is left comes to the same
abbrev pub invariant-loop-one : goal.invariant-loop-one
invariant-loop-one l = dropped l.opens ≡ dropped l.fn.opens

abbrev pub decreases-loop-one : goal.decreases-loop-one
decreases-loop-one l = length l.opens
