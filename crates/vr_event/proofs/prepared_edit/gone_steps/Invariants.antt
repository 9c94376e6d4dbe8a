use Rattle.std.proofs.Common.{◌≡◌, map, take}
use Rattle.vr_catalog.specs.declared.entry.CatEntry.{CatEntry}
use Rattle.vr_event.specs.CatalogEdit.{record_gone, step_for}
use Rattle.vr_event.proofs.prepared_edit.gone_steps.Given as goal

abbrev pub invariant-loop-entry : goal.invariant-loop-entry
invariant-loop-entry l = l.steps.items
    ≡ map (λ (entry : CatEntry). step_for l.volume (record_gone entry)) (take l.entry-index l.gone)
