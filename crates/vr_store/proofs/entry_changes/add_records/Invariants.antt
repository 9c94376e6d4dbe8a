use Rattle.std.proofs.Common.{◌≡◌, map, take}
use Rattle.vr_volume.specs.EntryChanges.{logged_for}
use Rattle.vr_store.proofs.entry_changes.add_records.Given as goal

abbrev pub invariant-loop-change : goal.invariant-loop-change
invariant-loop-change l =
    l.records.items ≡ map (logged_for l.fn.unit) (take l.change-index l.changes)
