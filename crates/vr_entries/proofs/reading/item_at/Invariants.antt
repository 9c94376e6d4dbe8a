use Rattle.std.proofs.Common.{◌≡◌}
use Rattle.vr_space.specs.Entries.{entry_item}
use Rattle.vr_entries.proofs.reading.item_at.Given as goal

abbrev pub invariant-loop-item : goal.invariant-loop-item
invariant-loop-item l = entry_item l.at l.view.items ≡ entry_item l.left l.item-iterator
