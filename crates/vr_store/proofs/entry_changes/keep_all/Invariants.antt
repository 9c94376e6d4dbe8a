use Rattle.std.proofs.Common.{◌≡◌, map, take}
use Rattle.vr_undo.specs.Records.{images_in}
use Rattle.vr_volume.specs.EntryChanges.{image_for}
use Rattle.vr_store.proofs.entry_changes.keep_all.Given as goal

abbrev pub invariant-loop-change : goal.invariant-loop-change
invariant-loop-change l =
    images_in l.kept ≡ map (image_for l.fn.unit) (take l.change-index l.changes)
