use Rattle.std.proofs.Common.{◌≡◌, ◌*◌, drop, take}
use Rattle.vr_ci_match.specs.Rdf.{control}
use Rattle.vr_ci_match.proofs.ComparedLemmas.{empties}
use Rattle.vr_ci_match.proofs.compare.empty_difference.Given as goal

abbrev pub invariant-loop-slot : goal.invariant-loop-slot
invariant-loop-slot l = take (3 * l.slot) (drop l.from l.bytes) ≡ control
    (empties l.slot l.slot_length)
