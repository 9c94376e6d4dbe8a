use Rattle.std.proofs.Common.{◌≡◌}
use Rattle.vr_amsparse.specs.Values.{names_below}
use Rattle.vr_amsparse.proofs.values.names_of.Given as goal

-- the names so far are those of the places so far
abbrev pub invariant-loop-place : goal.invariant-loop-place
invariant-loop-place l = l.names ≡ names_below l.tokens l.given l.place
