use Rattle.std.proofs.Common.{◌≡◌, ◌∙◌, List, ap, map, sym}
use Rattle.std.proofs.lemmas.Result.{IfOk-weaker}
use Rattle.std.proofs.lemmas.Simd.{map-map}
use Rattle.vr_catalog.specs.declared.entry.CatEntry.{CatEntry}
use Rattle.vr_record_file.specs.declared.entry_step.EntryStep.{EntryStep}
use Rattle.vr_event.specs.CatalogEdit.{step_for}
use Rattle.vr_edits.specs.declared.edit.CatalogEdit.{CatalogEdit}
use Rattle.vr_event.specs.CatalogEdit.{changes_of, record_gone}
use Rattle.vr_event.proofs.prepared_edit.steps_of.Goals as goal

pub returns-in-Delete : goal.returns-in-Delete
returns-in-Delete c = IfOk-weaker c.gone_steps.result _ _
    (λ those is. is ∙ sym (map-map (step_for c.args.volume) record_gone c.as_slice.result.now)
    ∙ ap (λ (gone : List CatEntry). map (step_for c.args.volume) (map record_gone gone)) c.as_slice.ensures
    ∙ sym (ap (λ (edit : CatalogEdit). map (step_for c.args.volume) (changes_of edit)) c.in-Delete.is))
    c.gone_steps.ensures
