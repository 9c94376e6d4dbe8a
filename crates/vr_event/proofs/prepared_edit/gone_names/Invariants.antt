use Rattle.std.proofs.Common.{◌≡◌, map, take}
use Rattle.vr_catalog.specs.declared.entry.CatEntry.{CatEntry}
use Rattle.vr_record_file.specs.CatalogEdit.{name_of}
use Rattle.vr_event.specs.CatalogEdit.{record_gone}
use Rattle.vr_event.proofs.prepared_edit.gone_names.Given as goal

abbrev pub invariant-loop-entry : goal.invariant-loop-entry
invariant-loop-entry l = l.names.items
    ≡ map (λ (entry : CatEntry). name_of (record_gone entry)) (take l.entry-index l.gone)
