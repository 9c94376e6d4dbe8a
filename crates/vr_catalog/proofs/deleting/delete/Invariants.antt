use Rattle.std.proofs.Common.{◌≡◌, take}
use Rattle.std.specs.List.{flat_map}
use Rattle.vr_catalog.specs.Delete.{erase_of}
use Rattle.vr_catalog.proofs.deleting.delete.Given as goal

-- the erases of the entries so far
abbrev pub invariant-loop-entry : goal.invariant-loop-entry
invariant-loop-entry l = l.changes ≡ flat_map (λ entry. erase_of l.catalog l.names entry)
    (take l.entry-index l.entry-items)
