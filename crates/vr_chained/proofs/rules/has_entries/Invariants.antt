use Rattle.std.proofs.Common.{◌↔◌}
use Rattle.std.specs.List.{AllByRecursion}
use Rattle.vr_space.specs.Entries.{IsEntry}
use Rattle.vr_chained.proofs.rules.has_entries.Given as goal

abbrev pub invariant-loop-bytes : goal.invariant-loop-bytes
invariant-loop-bytes l = AllByRecursion (IsEntry l.layout) l.view.items
    ↔ AllByRecursion (IsEntry l.layout) l.bytes-iterator
