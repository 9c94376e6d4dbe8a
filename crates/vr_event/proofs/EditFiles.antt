-- What an edit that is entered keeps of the record file: the geometry, and whether it stopped.
use Rattle.std.proofs.Common.{◌≡◌, ◌∙◌, ℕ, List, [], ◌∷◌, refl}
use Rattle.vr_types.specs.declared.geometry.Geometry.{Geometry}
use Rattle.vr_types.specs.declared.unit.Unit.{Unit as UnitOfRecovery}
use Rattle.vr_edits.specs.declared.edit.CatalogEdit.{CatalogEdit}
use Rattle.vr_record_file.specs.CatalogEdit.{step_made, steps_made}
use Rattle.vr_record_file.specs.Now.{FileNow}
use Rattle.vr_record_file.specs.declared.entry_step.EntryStep.{EntryStep}
use Rattle.vr_record_file.specs.declared.entry_step.EntryStep.TheVariants as steps
use Rattle.vr_event.specs.CatalogEdit.{file_edit_in_doubt, file_edited, steps_of}

pub record IsKept (file to : FileNow) : Type 0 where
  pub geometry : to.geometry ≡ file.geometry
  pub stopped : to.stopped ≡ file.stopped

step-kept : (after : ℕ) (unit : UnitOfRecovery) (line : ℕ) (step : EntryStep) (file : FileNow)
    → IsKept file (step_made after unit line step file)
step-kept after unit line (steps.Change get change got changed shown) file =
    record { geometry = refl; stopped = refl }
step-kept after unit line (steps.Add add added) file = record { geometry = refl; stopped = refl }

steps-kept : (after : ℕ) (unit : UnitOfRecovery) (line : ℕ) (those : List EntryStep)
    (file : FileNow) → IsKept file (steps_made after unit line those file)
steps-kept after unit line [] file = record { geometry = refl; stopped = refl }
steps-kept after unit line (step ∷ those) file =
    let first = step-kept after unit line step file in
    let rest = steps-kept 0 unit line those (step_made after unit line step file) in
    record {
      geometry = rest.geometry ∙ first.geometry;
      stopped = rest.stopped ∙ first.stopped;
    }

module _ (volume after : ℕ) (unit : UnitOfRecovery) (line : ℕ) (edit : CatalogEdit)
    (file : FileNow) where
  pub edited-kept : IsKept file (file_edited volume after unit line edit file)
  edited-kept =
      let those = steps-kept after unit line (steps_of volume edit) file in
      record { geometry = those.geometry; stopped = those.stopped }

  pub doubt-geometry : (file_edit_in_doubt volume after unit line edit file).geometry
      ≡ file.geometry
  doubt-geometry = (steps-kept after unit line (steps_of volume edit) file).geometry
