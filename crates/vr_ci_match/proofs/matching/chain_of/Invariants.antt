use Rattle.vr_ci_match.proofs.WalkLemmas.{Walked}
use Rattle.vr_ci_match.proofs.matching.chain_of.Given as goal

abbrev pub invariant-rdfs : goal.invariant-rdfs
invariant-rdfs l = Walked l.form l.bytes l.end l.tally

abbrev pub decreases-rdfs : goal.decreases-rdfs
decreases-rdfs l = l.end
