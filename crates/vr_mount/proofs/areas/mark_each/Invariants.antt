use Rattle.std.proofs.Common.{◌≡◌, take}
use Rattle.std.specs.List.{fold}
use Rattle.vr_mount.specs.Areas.{part_of}
use Rattle.vr_mount.specs.Marks.{marked}
use Rattle.vr_mount.specs.Numbers.{laid_area}
use Rattle.vr_mount.proofs.areas.mark_each.Given as goal

-- the entries so far have marked their areas
abbrev pub invariant-loop-entry : goal.invariant-loop-entry
invariant-loop-entry l =
    l.owners ≡ fold (marked laid_area part_of) l.initial.owners (take l.entry-index l.entries)
