-- A stage of the catalog, or a fault that met it, as an edit answers it.
use Rattle.std.proofs.Common.{◌≡◌, ℕ, refl, sym, subst, inl, ⊎_elim}
use Rattle.vr_types.specs.Faults.{Faults}
use Rattle.vr_types.specs.declared.fault.DeviceFault.{DeviceFault}
use Rattle.vr_types.specs.declared.fault.DeviceFault.TheVariants.{Read, Write}
use Rattle.vr_types.specs.declared.unit.Unit.{Unit as UnitOfRecovery}
use Rattle.vr_catalog.specs.declared.entry.CatEntry.{CatEntry}
use Rattle.vr_edits.specs.declared.edit.CatalogEdit.{CatalogEdit}
use Rattle.vr_record_file.specs.Now.{FileNow, faulted}
use Rattle.vr_event.specs.DefineSteps.{IsStageOrFault}
use Rattle.vr_event.specs.Defining.{EnteredBy, FaultsBy}
use Rattle.vr_event.specs.CatalogEdit.{EditFaultsBy, EnteredEdit}
use Rattle.vr_event.specs.EditSteps.{edit_of}
use Rattle.vr_event.specs.declared.define.Define.{Define}
use Rattle.vr_event.specs.declared.define.Define.TheVariants as defines

module _ (volume after : ℕ) (unit : UnitOfRecovery) (line : ℕ) (entry : CatEntry)
    (edit : CatalogEdit) (old new : FileNow) where
  by-fault : (fault : DeviceFault)
      → EnteredBy (defines.Fault fault) volume after unit line entry old new
      → (defines.Fault fault ≡ defines.Fault Write → new ≡ faulted after unit line old)
      → EnteredEdit (edit_of (defines.Fault fault)) volume after unit line edit old new
  by-fault Read entered stops = entered
  by-fault Write entered stops = inl (stops refl)

  pub stage-entered : (staged : Define) → IsStageOrFault staged
      → EnteredBy staged volume after unit line entry old new
      → (staged ≡ defines.Fault Write → new ≡ faulted after unit line old)
      → EnteredEdit (edit_of staged) volume after unit line edit old new
  stage-entered staged is entered stops = ⊎_elim
      (λ again. subst (λ (d : Define).
      EnteredEdit (edit_of d) volume after unit line edit old new) (sym again)
      (subst (λ (d : Define). EnteredBy d volume after unit line entry old new) again entered))
      (λ fault. subst (λ (d : Define).
      EnteredEdit (edit_of d) volume after unit line edit old new) (sym fault.1)
      (by-fault fault.0
      (subst (λ (d : Define). EnteredBy d volume after unit line entry old new) fault.1 entered)
      (subst (λ (d : Define). d ≡ defines.Fault Write → new ≡ faulted after unit line old) fault.1
      stops))) is

faults-by : (fault : DeviceFault) (before now : Faults)
    → FaultsBy (defines.Fault fault) before now
    → EditFaultsBy (edit_of (defines.Fault fault)) before now
faults-by Read before now is = is
faults-by Write before now is = is

pub stage-faults : (staged : Define) (before now : Faults) → IsStageOrFault staged
    → FaultsBy staged before now → EditFaultsBy (edit_of staged) before now
stage-faults staged before now is faults = ⊎_elim
    (λ again. subst (λ (d : Define). EditFaultsBy (edit_of d) before now) (sym again)
    (subst (λ (d : Define). FaultsBy d before now) again faults))
    (λ fault. subst (λ (d : Define). EditFaultsBy (edit_of d) before now) (sym fault.1)
    (faults-by fault.0 before now
    (subst (λ (d : Define). FaultsBy d before now) fault.1 faults))) is
