use Rattle.std.proofs.Common.{◌≡◌, ◌++◌}
use Rattle.vr_split.specs.Halves.{AreSingleWithout}
use Rattle.vr_split.proofs.head.are_single_without.Given as goal

abbrev pub invariant-loop-entry : goal.invariant-loop-entry
invariant-loop-entry l = record {
  all : l.fn.entries ≡ l.yielded ++ l.entry-iterator;
  so_far : AreSingleWithout l.into l.yielded;
}
