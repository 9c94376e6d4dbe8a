-- What the commands of IDCAMS see of a volume after an event of an edit of the catalog.
use Rattle.std.proofs.Common.{◌≡◌, ◌∙◌, ⊎_elim, ℕ, Bool, List, Option, ap, subst, sym}
use Rattle.std.specs.Prelude.{is_some, Ok, Err}
use Rattle.vr_types.specs.Faults.{Faults}
use Rattle.vr_types.specs.Seen.{Seen}
use Rattle.vr_types.specs.declared.fault.DeviceFault.TheVariants.{Read, Write}
use Rattle.vr_types.specs.declared.geometry.Geometry.{Geometry}
use Rattle.vr_types.specs.declared.memory.OutOfMemory.{OutOfMemory}
use Rattle.vr_catalog.specs.declared.entry.CatEntry.{CatEntry}
use Rattle.vr_edits.specs.Edits.{MayEdit, edited}
use Rattle.vr_edits.specs.declared.edit.CatalogEdit.{CatalogEdit}
use Rattle.vr_record_file.specs.Now.{FileNow}
use Rattle.vr_ams_define.specs.Edited.{IsShownEdited}
use Rattle.vr_event.specs.CatalogEdit.{EnteredEdit}
use Rattle.vr_event.specs.Defining.{utility_unit}
use Rattle.vr_event.specs.EditSteps.{HasEditCome}
use Rattle.vr_event.specs.Volume.{VolumeNow}
use Rattle.vr_event.specs.declared.edit.Edit.{Edit}
use Rattle.vr_event.specs.declared.edit.Edit.TheVariants.{Again, Done, Fault, Full, Held, Live}
use Rattle.vr_event.specs.declared.edit.Edit.TheVariants.{NoRoom}
use Rattle.vr_job.specs.Answering.{changed_of}
use Rattle.vr_job.specs.Serving.{StaysServing, shown_of}
use Rattle.vr_job.proofs.DefineShown.{ready-catalog, shown_in, staged-shown}
use Rattle.vr_job.proofs.EditEvents.{with-is}

module _ (after line volume : ℕ) (edit : CatalogEdit) (old new : FileNow) where
  shown-same : new ≡ old → shown_in new ≡ shown_in old
  shown-same same = ap shown_in same

  -- by what the event came to
  pub shown-edited : (answer : Edit)
      → EnteredEdit answer volume after (utility_unit old) line edit old new
      → IsShownEdited (changed_of answer) edit (shown_in old) (shown_in new)
  shown-edited Done is = ap shown_in is
      ∙ ap (λ (stopped : Option ℕ). record {
        catalog = edited edit old.catalog;
        stopped = is_some stopped;
      }) (with-is volume after line edit old).stopped
  shown-edited Again is =
      ap shown_in is.2 ∙ staged-shown after line (utility_unit old) old is.0 is.1
  shown-edited NoRoom is = shown-same is
  shown-edited Held is = shown-same is
  shown-edited Live is = shown-same is
  shown-edited Full is = shown-same is
  shown-edited (Fault Read) is = shown-same is
  shown-edited (Fault Write) is = ⊎_elim
      (λ alone. ap (λ (f : FileNow). is_some f.stopped) alone)
      (λ doubt. ap (λ (f : FileNow). is_some f.stopped) doubt) is

-- ---- a volume that is made ready for the event may be edited as before

pub ready-may : {B : Type 0} (tells : Bool) (seen : B → Seen) (faults : B → Faults)
    (old ready : VolumeNow B) → StaysServing tells seen faults old ready → (edit : CatalogEdit)
    → MayEdit old.file.geometry old.file.catalog edit
    → MayEdit ready.file.geometry ready.file.catalog edit
ready-may tells seen faults old ready stays edit may =
    subst (λ (geometry : Geometry). MayEdit geometry ready.file.catalog edit)
    (sym stays.went.on.geometry)
    (subst (λ (catalog : List CatEntry). MayEdit old.file.geometry catalog edit)
    (sym (ready-catalog tells seen faults old ready stays)) may)

module _ {B : Type 0} (seen : B → Seen) (after line : ℕ) (edit : CatalogEdit) where
  -- what they see after the event, by what it came to
  pub edit-shown : (answer : Edit) (old new : VolumeNow B)
      → HasEditCome seen after (utility_unit old.file) line edit (Ok answer) old new
      → IsShownEdited (changed_of answer) edit (shown_of old) (shown_of new)
  edit-shown answer old new come =
      shown-edited after line old.number edit old.file new.file answer come.entered

  -- and out of memory
  pub edit-refused : (why : OutOfMemory) (old new : VolumeNow B)
      → HasEditCome seen after (utility_unit old.file) line edit (Err why) old new
      → shown_of new ≡ shown_of old
  edit-refused why old new come = ap shown_in come.entered
