-- What goes on of a volume over an event of an edit of the catalog.
use Rattle.std.proofs.Common.{ℕ, Bool, IsTrue}
use Rattle.std.specs.Prelude.{Result, Ok, Err}
use Rattle.vr_types.specs.Faults.{Faults}
use Rattle.vr_types.specs.Seen.{Left, Seen}
use Rattle.vr_types.specs.declared.fault.DeviceFault.TheVariants.{Read, Write}
use Rattle.vr_types.specs.declared.memory.OutOfMemory.{OutOfMemory}
use Rattle.vr_edits.specs.declared.edit.CatalogEdit.{CatalogEdit}
use Rattle.vr_history.specs.State.{State}
use Rattle.vr_ams_define.specs.Grown.{HasEntered}
use Rattle.vr_event.specs.Defining.{utility_unit}
use Rattle.vr_event.specs.CatalogEdit.{HasEditFaults}
use Rattle.vr_event.specs.EditSteps.{HasEditCome, HasEditComeHeld, MayEditNow}
use Rattle.vr_event.specs.Nearer.{EntersSplits}
use Rattle.vr_event.specs.Volume.{IsHeld, VolumeNow}
use Rattle.vr_event.specs.declared.edit.Edit.{Edit}
use Rattle.vr_event.specs.declared.edit.Edit.TheVariants.{Again, Done, Fault, Full, Held, Live}
use Rattle.vr_event.specs.declared.edit.Edit.TheVariants.{NoRoom}
use Rattle.vr_job.specs.Going.{GoesOn, WentOn}
use Rattle.vr_job.specs.Serving.{IsServing}
use Rattle.vr_job.proofs.EditMade.{edit-made-by, edit_failed}
use Rattle.vr_job.proofs.EditRuns.{edited-run}
use Rattle.vr_job.proofs.Kept.{AreSized}
use Rattle.vr_job.proofs.UtilityGoing.{utility-entered, utility-goes, utility-serving}
use Rattle.vr_job.proofs.UtilityMade.{HasMadeBy, HasRisen, none-rose, read-rose, write-rose}

-- ---- the counts of faults

risen-by : (before now : Faults) (result : Result Edit OutOfMemory)
    → HasEditFaults before now result → HasRisen (edit_failed result) before now
risen-by before now (Ok Done) is = none-rose before now is
risen-by before now (Ok Again) is = none-rose before now is
risen-by before now (Ok NoRoom) is = none-rose before now is
risen-by before now (Ok Held) is = none-rose before now is
risen-by before now (Ok Live) is = none-rose before now is
risen-by before now (Ok Full) is = none-rose before now is
risen-by before now (Ok (Fault Read)) is = read-rose before now is.0 is.1
risen-by before now (Ok (Fault Write)) is = write-rose before now is.0 is.1
risen-by before now (Err why) is = none-rose before now is

-- ---- what goes on

module _ {B : Type 0} (seen : B → Seen) (faults : B → Faults) (after line : ℕ)
    (edit : CatalogEdit) (result : Result Edit OutOfMemory) (old new : VolumeNow B)
    (may : MayEditNow seen after edit old)
    (come : HasEditCome seen after (utility_unit old.file) line edit result old new) where
  edited-made : HasMadeBy (edit_failed result) after line old.file new.file
  edited-made = edit-made-by after line old.file old.number edit may.edit_is new.file result
      come.entered

  -- the entries of the event come next
  pub edited-entered : HasEntered line after old.file.entries new.file.entries
  edited-entered =
      utility-entered seen faults after line (edit_failed result) old new edited-made

  -- the volume serves on
  pub edited-serving : (tells : Bool)
      → (IsTrue tells → (opening : State) → IsHeld seen opening old
      → HasEditComeHeld seen opening after (utility_unit old.file) line edit old new)
      → IsServing tells seen old → IsServing tells seen new
  edited-serving tells held = utility-serving seen faults after line (edit_failed result) old new
      edited-made tells come.whole (λ told opening before. (held told opening before).held)

  -- and goes on
  module _ (cause : HasEditFaults (faults old.blocks) (faults new.blocks) result) where
    edited-goes : GoesOn seen faults old new
    edited-goes = utility-goes seen faults after line (edit_failed result) old new edited-made
        (risen-by (faults old.blocks) (faults new.blocks) result cause) may.going come.whole
        come.number

    pub edited-went : (tells : Bool)
        → (IsTrue tells → (opening : State) → IsHeld seen opening old
        → HasEditComeHeld seen opening after (utility_unit old.file) line edit old new)
        → (IsTrue tells → Left (seen old.blocks) (seen old.blocks).cur)
        → (IsTrue tells → AreSized (seen new.blocks))
        → (IsTrue tells → Left (seen new.blocks) (seen new.blocks).cur)
        → (IsTrue tells → EntersSplits old new) → WentOn tells seen faults old new
    edited-went tells held was sized cur enters = record {
      on = edited-goes;
      held = λ told opening before. (held told opening before).held;
      run = λ told opening first run. edited-run seen faults after line edit result old new may
          come cause (held told) (was told) (sized told) (cur told) (enters told)
          opening first run;
    }
