use Rattle.std.proofs.Common.{◌≡◌, ◌++◌, All, length}
use Rattle.vr_seqset.specs.Entry.{Entry}
use Rattle.vr_casplit.proofs.head.are_single.Given as goal

abbrev pub invariant-loop-entry : goal.invariant-loop-entry
invariant-loop-entry l = record {
  all : l.fn.entries ≡ l.yielded ++ l.entry-iterator;
  so_far : All (λ (entry : Entry). length entry.intervals ≡ 1) l.yielded;
}
