use Rattle.std.proofs.Common.{◌≡◌, length}
use Rattle.vr_seqset.specs.Entry.{Entry}
use Rattle.vr_attach.proofs.Passing.{Still}
use Rattle.vr_attach.proofs.head.are_single.Given as goal

abbrev pub invariant-loop-entry : goal.invariant-loop-entry
invariant-loop-entry l =
    Still (λ (entry : Entry). length entry.intervals ≡ 1) l.fn.entries l.entry-iterator
