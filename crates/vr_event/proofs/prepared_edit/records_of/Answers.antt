use Rattle.std.proofs.Common.{◌≡◌, ◌∙◌, List, ap, map, sym}
use Rattle.std.proofs.lemmas.Result.{IfOk-weaker}
use Rattle.std.proofs.lemmas.Simd.{map-map}
use Rattle.vr_catalog.specs.declared.entry.CatEntry.{CatEntry}
use Rattle.vr_volume.specs.declared.setting.EntryChange.{EntryChange}
use Rattle.vr_event.specs.PreparedEdit.{store_change, store_order}
use Rattle.vr_edits.specs.declared.edit.CatalogEdit.{CatalogEdit}
use Rattle.vr_event.specs.CatalogEdit.{changes_of, record_gone}
use Rattle.vr_event.proofs.prepared_edit.records_of.Goals as goal

pub returns-in-Delete : goal.returns-in-Delete
returns-in-Delete c = IfOk-weaker c.gone_records.result _ _
    (λ those is. is ∙ sym (map-map store_change record_gone c.as_slice.result.now)
    ∙ ap (λ (gone : List CatEntry). map store_change (map record_gone gone)) c.as_slice.ensures
    ∙ sym (ap (λ (edit : CatalogEdit). map store_change (store_order edit)) c.in-Delete.is))
    c.gone_records.ensures
