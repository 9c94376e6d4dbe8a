-- What an event of an edit of the catalog leaves of a run, from each opening.
use Rattle.std.proofs.Common.{◌≡◌, ◌∙◌, inl, inr, ℕ, List, [], ◌∷◌, ◌++◌, Result, ap}
use Rattle.std.proofs.Common.{append_assoc, refl, subst, sym, ⊎_elim}
use Rattle.std.proofs.lemmas.List.{append_cancel_left}
use Rattle.vr_types.specs.Faults.{Faults}
use Rattle.vr_types.specs.Image.{Image}
use Rattle.vr_types.specs.Moments.{Guards}
use Rattle.vr_types.specs.Seen.{Left, Seen}
use Rattle.vr_types.specs.declared.geometry.Geometry.{Geometry}
use Rattle.vr_types.specs.declared.memory.OutOfMemory.{OutOfMemory}
use Rattle.vr_types.specs.declared.unit.Unit.{Unit as UnitOfRecovery}
use Rattle.vr_types.proofs.CallerLemmas.{guards-weaken}
use Rattle.vr_edits.specs.declared.edit.CatalogEdit.{CatalogEdit}
use Rattle.vr_history.specs.Legal.{state_of}
use Rattle.vr_history.specs.State.{State}
use Rattle.vr_history.specs.declared.entry.Entry.{Entry}
use Rattle.vr_record_file.specs.Now.{FileNow, state_now}
use Rattle.vr_event.specs.CatalogEdit.{HasEditFaults, IsLeftEditing, file_edit_in_doubt, file_edited}
use Rattle.vr_event.specs.Defining.{utility_unit}
use Rattle.vr_event.specs.EditSteps.{HasEditCome, HasEditComeHeld, MayEditNow}
use Rattle.vr_event.specs.Nearer.{EntersSplits}
use Rattle.vr_event.specs.Volume.{IsHeld, VolumeNow}
use Rattle.vr_event.specs.declared.edit.Edit.{Edit}
use Rattle.vr_volume.specs.Crashes.{RecoversTo}
use Rattle.vr_job.specs.Committed.{KeepTheCatalog}
use Rattle.vr_job.specs.Crash.{IsLeftAt}
use Rattle.vr_job.specs.Crash.IsLeftAt.{Ended}
use Rattle.vr_job.specs.Events.{IsLeftWhile}
use Rattle.vr_job.specs.Going.{HasRun}
use Rattle.vr_job.proofs.Crashing.{left-while}
use Rattle.vr_job.proofs.EditCatalog.{changed-keep}
use Rattle.vr_job.proofs.EditEvents.{IsEditMade, changed-begun, changed-of, commit-of}
use Rattle.vr_job.proofs.EditEvents.{doubted-entries, edit-made, edited-entries, fault-of, refused-of}
use Rattle.vr_job.proofs.EditEvents.{with-is}
use Rattle.vr_job.proofs.Kept.{AreSized}
use Rattle.vr_job.proofs.UtilityRuns.{still-keep, utility-run}

module _ {B : Type 0} (seen : B → Seen) (faults : B → Faults) (after line : ℕ)
    (edit : CatalogEdit) (result : Result Edit OutOfMemory) (old new : VolumeNow B)
    (may : MayEditNow seen after edit old)
    (come : HasEditCome seen after (utility_unit old.file) line edit result old new)
    (cause : HasEditFaults (faults old.blocks) (faults new.blocks) result) where
  abbrev unit : UnitOfRecovery
  unit = utility_unit old.file

  abbrev geometry : Geometry
  geometry = old.file.geometry

  abbrev changed : List Entry
  changed = changed-of old.number after line edit old.file

  abbrev commit : Entry
  commit = commit-of old.number after line edit old.file

  abbrev refused : Entry
  refused = refused-of old.number after line edit old.file

  abbrev fault : Entry
  fault = fault-of old.number after line edit old.file

  -- what it adds to the history
  made-in : IsEditMade old.number after line edit old.file new.file (faults old.blocks)
      (faults new.blocks)
  made-in = edit-made old.number after line edit old.file new.file may.going
      (faults old.blocks) (faults new.blocks) result come.entered cause

  made-are : (made : List Entry) → new.file.entries ≡ old.file.entries ++ made
      → made-in.event.made ≡ made
  made-are made entries = append_cancel_left old.file.entries made-in.event.made made
      (sym made-in.event.entries ∙ entries)

  module _ (opening : State) (first : B) (run : HasRun seen faults opening first old)
      (held-by : HasEditComeHeld seen opening after (utility_unit old.file) line edit old new)
      (was : Left (seen old.blocks) (seen old.blocks).cur) (sized : AreSized (seen new.blocks))
      (cur : Left (seen new.blocks) (seen new.blocks).cur) (enters : EntersSplits old new) where
    abbrev before : State
    before = state_now opening old.file

    -- ---- what an image recovers to at each moment

    abbrev While : Image → Type 0
    While = IsLeftWhile geometry old.number opening old.file.entries made-in.event.made

    at-rest : (image : Image) → RecoversTo geometry old.number before [] image → While image
    at-rest image rests = left-while geometry old.number opening old.file.entries
        made-in.event.made [] image (inl refl) rests

    -- the history once the edit is made
    abbrev done : FileNow
    done = file_edited old.number after unit line edit old.file

    -- is that before its COMMIT, and the COMMIT
    done-is : state_now opening done
        ≡ state_of geometry opening ((old.file.entries ++ changed) ++ commit ∷ [])
    done-is = ap (λ (g : Geometry). state_of g opening done.entries)
        (with-is old.number after line edit old.file).geometry
        ∙ ap (state_of geometry opening)
        (edited-entries old.number after line edit old.file done refl
        ∙ sym (append_assoc old.file.entries changed (commit ∷ [])))

    -- what is there as the edit is made, is so before a COMMIT, whatever that is answered
    while-ended : (image : Image) (rest : List Entry) → made-in.event.made ≡ changed ++ rest
        → IsLeftAt geometry old.number opening (old.file.entries ++ changed) rest image
        → While image
    while-ended image rest are left = record {
      first = changed;
      rest = rest;
      made_are = are;
      begun = changed-begun old.number after line edit old.file;
      left = left;
    }

    recovers-done : (image : Image) → RecoversTo geometry old.number (state_now opening done) [] image
        → RecoversTo geometry old.number
        (state_of geometry opening ((old.file.entries ++ changed) ++ commit ∷ [])) [] image
    recovers-done image = subst (λ (s : State). RecoversTo geometry old.number s [] image) done-is

    while-done : (image : Image) → new.file ≡ done
        → RecoversTo geometry old.number (state_now opening done) [] image → While image
    while-done image is recovers = while-ended image (commit ∷ [])
        (made-are (changed ++ commit ∷ [])
        (edited-entries old.number after line edit old.file new.file is))
        (Ended commit [] refl refl (inl refl) (recovers-done image recovers))

    while-doubted : (image : Image)
        → new.file ≡ file_edit_in_doubt old.number after unit line edit old.file
        → RecoversTo geometry old.number (state_now opening done) [] image → While image
    while-doubted image is recovers = while-ended image (refused ∷ fault ∷ [])
        (made-are (changed ++ refused ∷ fault ∷ [])
        (doubted-entries old.number after line edit old.file new.file is))
        (Ended refused (fault ∷ []) refl refl (inr refl) (recovers-done image recovers))

    in-while : (image : Image) → IsLeftEditing geometry old.number opening after unit line edit
        old.file new.file image → While image
    in-while image is = ⊎_elim (at-rest image)
        (λ changed. ⊎_elim
        (λ ends. while-done image ends changed.1)
        (λ doubt. while-doubted image doubt changed.1) changed.0) is

    while-guards : Guards (seen old.blocks) (seen new.blocks) While
    while-guards = guards-weaken (seen old.blocks) (seen new.blocks)
        (IsLeftEditing geometry old.number opening after unit line edit old.file new.file) While
        (subst (λ (g : Geometry). Guards (seen old.blocks) (seen new.blocks)
        (IsLeftEditing g old.number opening after unit line edit old.file new.file))
        (may.whole.geometry may.going) held-by.moments) in-while

    -- ---- the catalog

    made-keep : KeepTheCatalog geometry before made-in.event.made
    made-keep = ⊎_elim (still-keep geometry before made-in.event.made)
        (λ is. subst (KeepTheCatalog geometry before) (sym is.1)
        (changed-keep seen opening old run.held may.whole may.going was edit may.edit_is after line
        is.0 (still-keep geometry _ is.0 is.2))) made-in.by

    -- ---- the run

    on-run : HasRun seen faults opening first new
    on-run = utility-run seen faults old new may.whole may.going come.whole come.number
        made-in.event opening first run held-by.held sized cur while-guards made-keep enters

-- An event of an edit goes on with what a crash leaves at each moment, event by event.
pub edited-run : {B : Type 0} (seen : B → Seen) (faults : B → Faults) (after line : ℕ)
    (edit : CatalogEdit) (result : Result Edit OutOfMemory) (old new : VolumeNow B)
    → MayEditNow seen after edit old
    → HasEditCome seen after (utility_unit old.file) line edit result old new
    → HasEditFaults (faults old.blocks) (faults new.blocks) result
    → ((opening : State) → IsHeld seen opening old
    → HasEditComeHeld seen opening after (utility_unit old.file) line edit old new)
    → Left (seen old.blocks) (seen old.blocks).cur → AreSized (seen new.blocks)
    → Left (seen new.blocks) (seen new.blocks).cur → EntersSplits old new
    → (opening : State) (first : B) → HasRun seen faults opening first old
    → HasRun seen faults opening first new
edited-run seen faults after line edit result old new may come cause held was sized cur enters
    opening first run = on-run seen faults after line edit result old new may come cause opening
    first run (held opening run.held) was sized cur enters
