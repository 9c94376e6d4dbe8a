-- What a step of an edit of the catalog leaves, from before the step that went before it.
use Rattle.std.proofs.Common.{◌≡◌, ◌≢◌, ◌∙◌, ◌+◌, ◌≤◌, ℕ, List, [], if◌then◌else◌}
use Rattle.std.proofs.Common.{Option, None, refl, sym, ap, subst, inl, inr, arith, ◌⊎◌}
use Rattle.std.proofs.Common.{⊎_elim}
use Rattle.std.specs.Prelude.{Bool, true, IfOk, IsTrue, Result, Ok, Err}
use Rattle.std.proofs.lemmas.Option.{none-some}
use Rattle.vr_types.specs.Blocks.{Keeps}
use Rattle.vr_types.specs.Faults.{Faults}
use Rattle.vr_types.specs.LogSpace.{IsLogFull}
use Rattle.vr_types.specs.Moments.{Guards}
use Rattle.vr_types.specs.Seen.{Seen}
use Rattle.vr_types.specs.declared.fault.DeviceFault.{DeviceFault}
use Rattle.vr_types.specs.declared.fault.DeviceFault.TheVariants.{Read, Write}
use Rattle.vr_types.specs.declared.geometry.Geometry.{Geometry}
use Rattle.vr_types.specs.declared.memory.OutOfMemory.{OutOfMemory}
use Rattle.vr_types.specs.declared.unit.Unit.{Unit as UnitOfRecovery}
use Rattle.vr_types.proofs.CallerLemmas.{guards-then, guards-weaken}
use Rattle.vr_attach.specs.Laid.{shape_in}
use Rattle.vr_edits.specs.Edits.{MayEdit, edited, goes, part_gone}
use Rattle.vr_edits.specs.declared.edit.CatalogEdit.{CatalogEdit}
use Rattle.vr_edits.proofs.CallerLemmas.{shapes-kept}
use Rattle.vr_catalog.specs.declared.entry.CatEntry.{CatEntry}
use Rattle.vr_log.specs.Live.{live_in, used_by}
use Rattle.vr_log.specs.LogNow.{LogNow}
use Rattle.vr_history.specs.State.{State}
use Rattle.vr_record_file.specs.Now.{FileNow, faulted, state_now}
use Rattle.vr_volume.specs.Crashes.{RecoversTo}
use Rattle.vr_store.specs.Store.{StoreNow, shape_among}
use Rattle.vr_event.specs.CatalogEdit.{EditFaultsBy, EnteredEdit, HasEditFaults}
use Rattle.vr_event.specs.CatalogEdit.{IsEditEntered, IsKeptOut, IsLeftEditing}
use Rattle.vr_event.specs.CatalogEdit.{file_edit_in_doubt, file_edited}
use Rattle.vr_event.specs.CatalogEdit.{log_for_edit}
use Rattle.vr_event.specs.EditSteps.{HasEditCome, HasEditComeHeld, IsEditStage}
use Rattle.vr_event.specs.EditSteps.{IsLaterEdit}
use Rattle.vr_event.specs.Volume.{AreServed, IsHeld, IsWhole, VolumeNow}
use Rattle.vr_event.specs.declared.edit.Edit.{Edit}
use Rattle.vr_event.specs.declared.edit.Edit.TheVariants.{Again, Done, Fault, Full}
use Rattle.vr_event.specs.declared.edit.Edit.TheVariants.{Held, Live, NoRoom}
use Rattle.vr_event.proofs.EditFiles.{doubt-geometry, edited-kept}
use Rattle.vr_event.proofs.Recovers.{recovers-keeps}
use Rattle.vr_event.proofs.Served.{served_same}
use Rattle.vr_event.proofs.Stepped.{held-at}
use Rattle.vr_event.proofs.Wholes.{whole-stopped}

-- ---- what a step answers

later-done : IsLaterEdit Done
later-done = record { not_live = λ is. cc; not_held = λ is. cc; not_full = λ is. cc }

later-again : IsLaterEdit Again
later-again = record { not_live = λ is. cc; not_held = λ is. cc; not_full = λ is. cc }

pub later-fault : (fault : DeviceFault) → IsLaterEdit (Fault fault)
later-fault fault = record { not_live = λ is. cc; not_held = λ is. cc; not_full = λ is. cc }

pub later-stage : (answer : Edit) → IsEditStage answer → IsLaterEdit answer
later-stage answer is = ⊎_elim (λ again. subst IsLaterEdit (sym again) later-again)
    (λ fault. subst IsLaterEdit (sym fault.1) (later-fault fault.0)) is

module _ {B : Type 0} (seen : B → Seen) (after : ℕ) (unit : UnitOfRecovery) (line : ℕ)
    (edit : CatalogEdit) where
  -- what was committed before
  pub left-before : (opening : State) (a b : Seen) (old : VolumeNow B) (file : FileNow)
      → Guards a b (RecoversTo old.store.log.geometry old.number (state_now opening old.file) [])
      → Guards a b (IsLeftEditing old.store.log.geometry old.number opening after unit line edit
      old.file file)
  left-before opening a b old file guards = guards-weaken a b
      (RecoversTo old.store.log.geometry old.number (state_now opening old.file) [])
      (IsLeftEditing old.store.log.geometry old.number opening after unit line edit old.file
      file) guards (λ image one. inl one)

  -- A step that entered nothing went before.
  pub come-after : (result : Result Edit OutOfMemory) (old mid new : VolumeNow B)
      → mid.file ≡ old.file → mid.number ≡ old.number → mid.store.log ≡ old.store.log
      → HasEditCome seen after unit line edit result mid new
      → HasEditCome seen after unit line edit result old new
  come-after result old mid new file number log come = record {
    whole = come.whole;
    entered = subst (λ (f : FileNow).
        IsEditEntered result old.number after unit line edit f new.file) file
        (subst (λ (n : ℕ).
        IsEditEntered result n after unit line edit mid.file new.file) number
        come.entered);
    live = subst (λ (l : LogNow). IfOk result (λ (answer : Edit). answer ≡ Live
        → live_in l.records ≢ [])) log come.live;
    kept_out = subst (λ (f : FileNow). IfOk result (λ (answer : Edit). answer ≡ Held
        → IsKeptOut f unit edit)) file
        come.kept_out;
    full = subst (λ (l : LogNow). IfOk result (λ (answer : Edit). answer ≡ Full
        → IsLogFull l.geometry (used_by l.records) (log_for_edit edit))) log come.full;
    number = come.number ∙ number;
    generation = subst (λ (l : LogNow). new.file.stopped ≡ None
        → new.store.log.generation ≤ l.generation + 1) log come.generation;
  }

  -- and what it recovers to
  pub come-held-after : (opening : State) (old mid new : VolumeNow B) → mid.file ≡ old.file
      → mid.number ≡ old.number → mid.store.log ≡ old.store.log
      → Guards (seen old.blocks) (seen mid.blocks) (RecoversTo old.store.log.geometry old.number
      (state_now opening old.file) [])
      → HasEditComeHeld seen opening after unit line edit mid new
      → HasEditComeHeld seen opening after unit line edit old new
  come-held-after opening old mid new file number log before come = record {
    held = come.held;
    moments = guards-then (seen old.blocks) (seen mid.blocks) (seen new.blocks)
        (IsLeftEditing old.store.log.geometry old.number opening after unit line edit
        old.file new.file)
        (left-before opening (seen old.blocks) (seen mid.blocks) old new.file before)
        (subst (λ (f : FileNow). Guards (seen mid.blocks) (seen new.blocks) (IsLeftEditing
        old.store.log.geometry old.number opening after unit line edit f new.file)) file
        (subst (λ (n : ℕ). Guards (seen mid.blocks) (seen new.blocks) (IsLeftEditing
        old.store.log.geometry n opening after unit line edit mid.file new.file)) number
        (subst (λ (l : LogNow). Guards (seen mid.blocks) (seen new.blocks) (IsLeftEditing
        l.geometry mid.number opening after unit line edit mid.file new.file)) log
        come.moments)));
  }

  -- ---- without an edit

  -- a step that isn't refused by what is in memory
  pub come-later : (answer : Edit) (old new : VolumeNow B) → IsWhole seen new
      → EnteredEdit answer old.number after unit line edit old.file new.file
      → IsLaterEdit answer → new.number ≡ old.number
      → (new.file.stopped ≡ None → new.store.log.generation ≤ old.store.log.generation + 1)
      → HasEditCome seen after unit line edit (Ok answer) old new
  come-later answer old new whole entered later number generation = record {
    whole = whole;
    entered = entered;
    live = λ is. absurd (later.not_live is);
    kept_out = λ is. absurd (later.not_held is);
    full = λ is. absurd (later.not_full is);
    number = number;
    generation = generation;
  }

  -- out of memory leaves all as it was
  pub come-memory : (why : OutOfMemory) (old new : VolumeNow B) → IsWhole seen new
      → new.file ≡ old.file → new.number ≡ old.number → new.store.log ≡ old.store.log
      → HasEditCome seen after unit line edit (Err why) old new
  come-memory why old new whole file number log = record {
    whole = whole;
    entered = file;
    live = tt;
    kept_out = tt;
    full = tt;
    number = number;
    generation = λ going. omega (arith, ap (λ (l : LogNow). l.generation) log);
  }

  -- a unit is live
  pub come-live : (old : VolumeNow B) → IsWhole seen old
      → live_in old.store.log.records ≢ []
      → HasEditCome seen after unit line edit (Ok Live) old old
  come-live old whole live = record {
    whole = whole;
    entered = refl;
    live = λ is. live;
    kept_out = λ is. cc;
    full = λ is. cc;
    number = refl;
    generation = λ going. omega arith;
  }

  -- what is in memory is in the way
  pub come-hindered : (answer : Edit) (old : VolumeNow B) → IsWhole seen old
      → (answer ≡ Held) ⊎ (answer ≡ Full)
      → (answer ≡ Held → IsKeptOut old.file unit edit)
      → (answer ≡ Full → IsLogFull old.store.log.geometry (used_by old.store.log.records)
      (log_for_edit edit))
      → HasEditCome seen after unit line edit (Ok answer) old old
  come-hindered answer old whole is kept-out full = record {
    whole = whole;
    entered = ⊎_elim
        (λ held. subst (λ (c : Edit). EnteredEdit c old.number after unit line edit
        old.file old.file) (sym held) refl)
        (λ lacks. subst (λ (c : Edit). EnteredEdit c old.number after unit line edit
        old.file old.file) (sym lacks) refl) is;
    live = λ live. absurd (⊎_elim (λ held. held-not-live (sym held ∙ live))
        (λ lacks. full-not-live (sym lacks ∙ live)) is);
    kept_out = kept-out;
    full = full;
    number = refl;
    generation = λ going. omega arith;
  }
    where
      held-not-live : Held ≡ Live → ⊥
      held-not-live same = cc

      full-not-live : Full ≡ Live → ⊥
      full-not-live same = cc

  -- a stage was done, or a fault met it
  pub come-staged : (answer : Edit) (old mid new : VolumeNow B) → mid.file ≡ old.file
      → mid.number ≡ old.number → mid.store.log ≡ old.store.log → IsWhole seen new
      → EnteredEdit answer mid.number after unit line edit mid.file new.file
      → IsEditStage answer → new.number ≡ mid.number
      → new.store.log.generation ≡ mid.store.log.generation
      → HasEditCome seen after unit line edit (Ok answer) old new
  come-staged answer old mid new file number log whole entered is numbers generation =
      come-after (Ok answer) old mid new file number log
      (come-later answer mid new whole entered (later-stage answer is) numbers
      (λ going. omega (arith, generation)))

  -- a read failed
  pub come-unread : (old new : VolumeNow B) → IsWhole seen new → new.file ≡ old.file
      → new.number ≡ old.number → new.store.log ≡ old.store.log
      → HasEditCome seen after unit line edit (Ok (Fault Read)) old new
  come-unread old new whole file number log = come-later (Fault Read) old new whole file
      (later-fault Read) number
      (λ going. omega (arith, ap (λ (l : LogNow). l.generation) log))

  -- ---- with a fault of a write

  come-failed : (answer : Edit) (old final : VolumeNow B) → answer ≡ Fault Write
      → EnteredEdit (Fault Write) old.number after unit line edit old.file final.file
      → final.number ≡ old.number → AreServed final.file.geometry final.file.catalog
      → (final.file.stopped ≡ None → ⊥)
      → HasEditCome seen after unit line edit (Ok answer) old final
  come-failed answer old final fault entered number served stopped =
      come-later answer old final (whole-stopped seen final served stopped)
      (subst (λ (c : Edit).
      EnteredEdit c old.number after unit line edit old.file final.file) (sym fault) entered)
      (subst IsLaterEdit (sym fault) (later-fault Write)) number
      (λ going. absurd (stopped going))

  -- nothing of the edit was done
  pub come-faulted : (answer : Edit) (old final : VolumeNow B) → answer ≡ Fault Write
      → final.file ≡ faulted after unit line old.file → final.number ≡ old.number
      → AreServed old.file.geometry old.file.catalog
      → HasEditCome seen after unit line edit (Ok answer) old final
  come-faulted answer old final fault file number served = come-failed answer old final fault
      (inl file) number
      (served_same old.file.geometry final.file.geometry _ final.file.catalog
      (ap (λ (f : FileNow). f.geometry) file) (ap (λ (f : FileNow). f.catalog) file) served)
      (λ going. none-some _ (sym going ∙ ap (λ (f : FileNow). f.stopped) file))

  pub come-unwritten : (old mid final : VolumeNow B) → mid.file ≡ old.file
      → mid.number ≡ old.number → mid.store.log ≡ old.store.log → IsWhole seen mid
      → final.file ≡ faulted after unit line mid.file → final.number ≡ mid.number
      → HasEditCome seen after unit line edit (Ok (Fault Write)) old final
  come-unwritten old mid final file number log whole leaves numbers =
      come-after (Ok (Fault Write)) old mid final file number log
      (come-faulted (Fault Write) mid final refl leaves numbers whole.served)

  -- or the unit is in doubt
  pub come-in-doubt : (answer : Edit) (old final : VolumeNow B) → answer ≡ Fault Write
      → final.file ≡ file_edit_in_doubt old.number after unit line edit old.file
      → final.number ≡ old.number
      → AreServed old.file.geometry (edited edit old.file.catalog)
      → HasEditCome seen after unit line edit (Ok answer) old final
  come-in-doubt answer old final fault file number served = come-failed answer old final fault
      (inr file) number
      (served_same old.file.geometry final.file.geometry _ final.file.catalog
      (ap (λ (f : FileNow). f.geometry) file
      ∙ doubt-geometry old.number after unit line edit old.file)
      (ap (λ (f : FileNow). f.catalog) file) served)
      (λ going. none-some _ (sym going ∙ ap (λ (f : FileNow). f.stopped) file))

  -- ---- with an edit

  -- a volume is what its fields are
  whole-at : (final : VolumeNow B) (number : ℕ) (store : StoreNow) (blocks : B)
      → final.number ≡ number → final.store ≡ store → final.blocks ≡ blocks
      → IsWhole seen (record { blocks = blocks; number = number; store = store; file = final.file })
      → IsWhole seen final
  whole-at final number store blocks numbers stores same whole =
      subst (λ (b : B). IsWhole seen (record final { blocks = b })) (sym same)
      (subst (λ (n : ℕ). IsWhole seen (record final { blocks = blocks; number = n })) (sym numbers)
      (subst (λ (s : StoreNow). IsWhole seen
      (record final { blocks = blocks; number = number; store = s })) (sym stores) whole))

  pub come-done : (answer : Edit) (old final : VolumeNow B) (store : StoreNow) (blocks : B)
      → answer ≡ Done
      → final.file ≡ file_edited old.number after unit line edit old.file
      → final.number ≡ old.number → final.store ≡ store → final.blocks ≡ blocks
      → IsWhole seen (record old { blocks = blocks; store = store; file = final.file })
      → store.log.generation ≤ old.store.log.generation + 1
      → HasEditCome seen after unit line edit (Ok answer) old final
  come-done answer old final store blocks done file number stores same whole generation =
      come-later answer old final (whole-at final old.number store blocks number stores same whole)
      (subst (λ (c : Edit).
      EnteredEdit c old.number after unit line edit old.file final.file) (sym done) file)
      (subst IsLaterEdit (sym done) later-done) number
      (λ going. subst (λ (s : StoreNow). s.log.generation ≤ old.store.log.generation + 1)
      (sym stores) generation)

  -- ---- what is held

  -- nothing was done
  pub still-held : (opening : State) (volume : VolumeNow B) (tells : Bool) → IsTrue tells
      → Keeps tells (seen volume.blocks) (seen volume.blocks) → volume.file.stopped ≡ None
      → IsHeld seen opening volume
      → HasEditComeHeld seen opening after unit line edit volume volume
  still-held opening volume tells told keeps going held = record {
    held = held;
    moments = left-before opening (seen volume.blocks) (seen volume.blocks) volume volume.file
        (recovers-keeps volume.number volume.store (state_now opening volume.file)
        (seen volume.blocks) (seen volume.blocks) (held.stored going) tells told keeps);
  }

  -- a step that entered a stage, a fault, or nothing
  pub stepped-held : (opening : State) (old final : VolumeNow B) → IsHeld seen opening final
      → Guards (seen old.blocks) (seen final.blocks) (RecoversTo old.store.log.geometry old.number
      (state_now opening old.file) [])
      → HasEditComeHeld seen opening after unit line edit old final
  stepped-held opening old final held moments = record {
    held = held;
    moments = left-before opening (seen old.blocks) (seen final.blocks) old final.file moments;
  }

  -- by the fields of the volume after it
  pub come-held : (opening : State) (old final : VolumeNow B) (store : StoreNow) (blocks : B)
      (file : FileNow) → final.file ≡ file → final.number ≡ old.number → final.store ≡ store
      → final.blocks ≡ blocks
      → IsHeld seen opening (record old { blocks = blocks; store = store; file = file })
      → Guards (seen old.blocks) (seen blocks) (IsLeftEditing old.store.log.geometry old.number
      opening after unit line edit old.file file)
      → HasEditComeHeld seen opening after unit line edit old final
  come-held opening old final store blocks file files number stores same held moments = record {
    held = held-at seen opening final blocks old.number store same number stores
        (subst (λ (f : FileNow). IsHeld seen opening
        (record { blocks = blocks; number = old.number; store = store; file = f })) (sym files)
        held);
    moments = subst (λ (b : B). Guards (seen old.blocks) (seen b) (IsLeftEditing
        old.store.log.geometry old.number opening after unit line edit old.file final.file))
        (sym same)
        (subst (λ (f : FileNow). Guards (seen old.blocks) (seen blocks) (IsLeftEditing
        old.store.log.geometry old.number opening after unit line edit old.file f)) (sym files)
        moments);
  }

  -- ---- what follows for the part, and of the faults

  -- the part that goes isn't laid
  pub parts-gone : (result : Result Edit OutOfMemory) (old new : VolumeNow B)
      → old.file.stopped ≡ None → MayEdit old.file.geometry old.file.catalog edit
      → HasEditCome seen after unit line edit result old new
      → IfOk result (λ (answer : Edit). answer ≡ Done → (part : ℕ) → goes edit part ≡ true
      → shape_among new.store.parts part ≡ None)
  parts-gone (Err why) old new going may come = tt
  parts-gone (Ok answer) old new going may come = λ done part out.
      let file : new.file ≡ file_edited old.number after unit line edit old.file =
      subst (λ (c : Edit). EnteredEdit c old.number after unit line edit old.file new.file) done
      come.entered in
      let kept = edited-kept old.number after unit line edit old.file in
      let on : new.file.stopped ≡ None =
      ap (λ (f : FileNow). f.stopped) file ∙ kept.stopped ∙ going in
      come.whole.laid on part
      ∙ ap (λ (f : FileNow). shape_in f.geometry f.catalog part) file
      ∙ ap (λ (g : Geometry). shape_in g (edited edit old.file.catalog) part) kept.geometry
      ∙ shapes-kept old.file.geometry old.file.catalog edit may part
      ∙ ap (λ (b : Bool). if b then None
      else shape_in old.file.geometry old.file.catalog part) out

module _ (volume after : ℕ) (unit : UnitOfRecovery) (line : ℕ) (edit : CatalogEdit) (old new : FileNow) (before now : Faults) (going : old.stopped ≡ None)
  where
    -- where the volume didn't stop no write failed
    by-fault : (fault : DeviceFault)
        → EnteredEdit (Fault fault) volume after unit line edit old new
        → EditFaultsBy (Fault fault) before now → new.stopped ≡ old.stopped
        → now.writes ≡ before.writes
    by-fault Read entered faults same = faults.1
    by-fault Write entered faults same = absurd (⊎_elim
        (λ file. none-some _ (sym going ∙ sym same ∙ ap (λ (f : FileNow). f.stopped) file))
        (λ file. none-some _ (sym going ∙ sym same ∙ ap (λ (f : FileNow). f.stopped) file))
        entered)

    pub quiet-edited : (result : Result Edit OutOfMemory)
        → IsEditEntered result volume after unit line edit old new
        → HasEditFaults before now result → new.stopped ≡ old.stopped
        → now.writes ≡ before.writes
    quiet-edited (Err why) entered faults same = ap (λ (f : Faults). f.writes) faults
    quiet-edited (Ok Done) entered faults same = ap (λ (f : Faults). f.writes) faults
    quiet-edited (Ok Again) entered faults same = ap (λ (f : Faults). f.writes) faults
    quiet-edited (Ok Held) entered faults same = ap (λ (f : Faults). f.writes) faults
    quiet-edited (Ok Live) entered faults same = ap (λ (f : Faults). f.writes) faults
    quiet-edited (Ok NoRoom) entered faults same = ap (λ (f : Faults). f.writes) faults
    quiet-edited (Ok Full) entered faults same = ap (λ (f : Faults). f.writes) faults
    quiet-edited (Ok (Fault fault)) entered faults same = by-fault fault entered faults same
