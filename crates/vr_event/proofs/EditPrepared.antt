-- What is prepared of an edit is what the edit says.
use Rattle.std.proofs.Common.{◌≡◌, ◌∙◌, ◌+◌, ◌*◌, ◌≤◌, ℕ, List, [], ◌∷◌, Option, Some, None, sym, subst}
use Rattle.std.proofs.Common.{arith, length, map, refl}
use Rattle.vr_types.specs.declared.request.Request.{Request}
use Rattle.vr_types.specs.declared.request.Request.TheVariants.{Commit}
use Rattle.vr_types.specs.declared.unit.Unit.{Unit as UnitOfRecovery}
use Rattle.vr_catalog.specs.declared.entry.CatEntry.{CatEntry}
use Rattle.vr_edits.specs.Edits.{edited}
use Rattle.vr_edits.specs.declared.edit.CatalogEdit.{CatalogEdit}
use Rattle.vr_history.specs.State.{State}
use Rattle.vr_record_file.specs.CatalogEdit.{MayEditCatalog, RecordChange, catalog_edited}
use Rattle.vr_record_file.specs.CatalogEdit.{entries_of, entries_of_step, failed_to_edit}
use Rattle.vr_record_file.specs.Now.{FileNow}
use Rattle.vr_record_file.specs.declared.entry_step.EntryStep.{EntryStep}
use Rattle.vr_event.specs.CatalogEdit.{file_edit_in_doubt, file_edited, step_by, step_for, steps_of}
use Rattle.vr_event.specs.PreparedEdit.{IsPreparedEdit}
use Rattle.vr_event.specs.declared.prepared_edit.PreparedEdit.{PreparedEdit}

-- a record takes two entries at most
two-entries : (volume : ℕ) (place : List ℕ) (old new : Option (List ℕ))
    → entries_of_step (step_by volume place old new) ≤ 2
two-entries volume place (Some before) new = omega arith
two-entries volume place None (Some bytes) = omega arith
two-entries volume place None None = omega arith

pub few-entries : (volume : ℕ) (changes : List RecordChange)
    → entries_of (map (step_for volume) changes) ≤ 2 * length changes
few-entries volume [] = omega arith
few-entries volume (change ∷ changes) = omega (
  arith,
  two-entries volume change.place change.old change.new,
  few-entries volume changes,
)

module _ (volume : ℕ) (file : FileNow) (edit : CatalogEdit) (prepared : PreparedEdit)
    (is : IsPreparedEdit volume file.catalog edit prepared) where
  -- what holds of the edit's holds of what is prepared
  prepared-all : (P : List EntryStep → Request → List CatEntry → Type 0)
      → P (steps_of volume edit) Commit (edited edit file.catalog)
      → P prepared.steps.items prepared.commit prepared.catalog
  prepared-all P holds =
      subst (λ (steps : List EntryStep). P steps prepared.commit prepared.catalog) (sym is.steps)
      (subst (λ (r : Request). P (steps_of volume edit) r prepared.catalog) (sym is.commit)
      (subst (P (steps_of volume edit) Commit) (sym is.catalog_is) holds))

  -- what it enters
  pub prepared-edited : (after : ℕ) (unit : UnitOfRecovery) (line : ℕ)
      → catalog_edited after unit line prepared.steps.items prepared.commit prepared.catalog file
      ≡ file_edited volume after unit line edit file
  prepared-edited after unit line = prepared-all
      (λ steps commit entries. catalog_edited after unit line steps commit entries file
      ≡ file_edited volume after unit line edit file) refl

  pub prepared-doubt : (after : ℕ) (unit : UnitOfRecovery) (line : ℕ)
      → failed_to_edit after unit line prepared.steps.items prepared.commit prepared.catalog file
      ≡ file_edit_in_doubt volume after unit line edit file
  prepared-doubt after unit line = prepared-all
      (λ steps commit entries. failed_to_edit after unit line steps commit entries file
      ≡ file_edit_in_doubt volume after unit line edit file) refl

  -- and that it may be entered
  pub prepared-may : (opening : State) (unit : UnitOfRecovery) (changes : List RecordChange)
      → MayEditCatalog opening file unit (steps_of volume edit) changes Commit
      (edited edit file.catalog)
      → MayEditCatalog opening file unit prepared.steps.items changes prepared.commit
      prepared.catalog
  prepared-may opening unit changes may = prepared-all
      (λ steps commit entries. MayEditCatalog opening file unit steps changes commit entries) may
