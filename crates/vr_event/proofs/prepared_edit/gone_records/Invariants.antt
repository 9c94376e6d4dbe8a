use Rattle.std.proofs.Common.{◌≡◌, map, take}
use Rattle.vr_catalog.specs.declared.entry.CatEntry.{CatEntry}
use Rattle.vr_event.specs.CatalogEdit.{record_gone}
use Rattle.vr_event.specs.PreparedEdit.{store_change}
use Rattle.vr_event.proofs.prepared_edit.gone_records.Given as goal

abbrev pub invariant-loop-entry : goal.invariant-loop-entry
invariant-loop-entry l = l.changes.items
    ≡ map (λ (entry : CatEntry). store_change (record_gone entry)) (take l.entry-index l.gone)
