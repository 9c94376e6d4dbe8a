use Rattle.std.proofs.Common.{◌≡◌, ◌+◌}
use Rattle.vr_space.specs.Entries.{bytes_in}
use Rattle.vr_entries.proofs.reading.taken_by.Given as goal

abbrev pub invariant-loop-item : goal.invariant-loop-item
invariant-loop-item l = l.bytes + bytes_in l.item-iterator ≡ bytes_in l.view.items
