use Rattle.std.proofs.Common.{[], ◌∷◌, ◌++◌, map}
use Rattle.std.specs.Prelude.{if◌then◌else◌}
use Rattle.vr_seqset.specs.Entry.{Entry}
use Rattle.vr_seqset.proofs.PlaceLemmas.{StillAscend}
use Rattle.vr_seqset.proofs.checks.ascend.Given as goal

abbrev pub invariant-loop-entry : goal.invariant-loop-entry
invariant-loop-entry l =
    StillAscend ((if l.fn.first then [] else l.fn.low ∷ [])
    ++ map (λ (e : Entry). e.high) l.fn.entries) l.below l.entry-iterator
