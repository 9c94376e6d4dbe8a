use Rattle.std.proofs.Common.{◌++◌, ◌≡◌}
use Rattle.std.specs.List.{flat_map}
use Rattle.vr_seqset.specs.Entry.{Entry}
use Rattle.vr_seqset.specs.Numbers.{AreOnceBelow, Marks}
use Rattle.vr_seqset.proofs.checks.mark_entries.Given as goal

abbrev pub invariant-loop-entry : goal.invariant-loop-entry
invariant-loop-entry l = record {
  all : l.fn.entries ≡ l.yielded ++ l.entry-iterator;
  once : AreOnceBelow l.limit (flat_map (λ (e : Entry). e.intervals) l.yielded);
  marks : Marks l.limit l.seen (flat_map (λ (e : Entry). e.intervals) l.yielded);
}
