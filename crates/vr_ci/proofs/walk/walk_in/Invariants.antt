use Rattle.vr_ci.specs.Walk.{IsWalked}
use Rattle.vr_ci.proofs.walk.walk_in.Given as goal

abbrev pub invariant-rdfs : goal.invariant-rdfs
invariant-rdfs l = IsWalked l.form l.bytes l.walk

abbrev pub decreases-rdfs : goal.decreases-rdfs
decreases-rdfs l = l.walk.end
