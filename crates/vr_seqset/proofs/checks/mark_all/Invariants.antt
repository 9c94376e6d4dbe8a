use Rattle.std.proofs.Common.{List, ℕ, ◌++◌, take}
use Rattle.vr_seqset.specs.Numbers.{AreOnceBelow, Marks}
use Rattle.vr_seqset.proofs.checks.mark_all.Given as goal

abbrev pub invariant-loop-j : goal.invariant-loop-j
invariant-loop-j l =
    (used : List ℕ) → AreOnceBelow l.limit used → Marks l.limit l.fn.seen used
    → AreOnceBelow l.limit (used ++ take l.j l.entry.intervals)
    × Marks l.limit l.seen (used ++ take l.j l.entry.intervals)
