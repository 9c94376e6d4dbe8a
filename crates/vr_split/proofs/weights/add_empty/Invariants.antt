use Rattle.std.proofs.Common.{◌≡◌, length}
use Rattle.vr_split.specs.Entries.{HaveBytes}
use Rattle.vr_split.proofs.weights.add_empty.Given as goal

abbrev pub invariant-loop : goal.invariant-loop
invariant-loop l = record {
  count : length l.entries.items ≡ l.counter;
  room : HaveBytes l.bytes l.entries.items;
}
