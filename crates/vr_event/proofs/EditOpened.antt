-- What was met, or answered, at the places of an edit, one after another.
use Rattle.std.proofs.Common.{◌≡◌, ◌∙◌, ◌⊎◌, ℕ, List, [], Option, Some, None}
use Rattle.std.proofs.Common.{refl, sym, ap, subst, arith, inl, inr, ⊎_elim}
use Rattle.std.proofs.Common.{map}
use Rattle.std.specs.Prelude.{Err, Ok, Result}
use Rattle.std.proofs.lemmas.Option.{none-some}
use Rattle.vr_types.specs.Faults.{Faults, HasCause}
use Rattle.vr_types.specs.Image.{Image}
use Rattle.vr_types.specs.Moments.{Guards}
use Rattle.vr_types.specs.Seen.{Seen}
use Rattle.vr_types.specs.declared.fault.DeviceFault.{DeviceFault}
use Rattle.vr_types.specs.declared.fault.DeviceFault.TheVariants.{Read, Write}
use Rattle.vr_types.specs.declared.unit.Unit.{Unit as UnitOfRecovery}
use Rattle.vr_types.proofs.CallerLemmas.{guards-then}
use Rattle.vr_catalog.specs.declared.entry.CatEntry.{CatEntry}
use Rattle.vr_edits.specs.declared.edit.CatalogEdit.{CatalogEdit}
use Rattle.vr_log.specs.LogNow.{LogNow}
use Rattle.vr_history.specs.State.{State}
use Rattle.vr_record_file.specs.Now.{FileNow, state_now}
use Rattle.vr_space.specs.declared.room.Room.{Room}
use Rattle.vr_space.specs.declared.room.Room.TheVariants.{NoSpace, Ready}
use Rattle.vr_volume.specs.Crashes.{RecoversTo}
use Rattle.vr_volume.specs.declared.setting.EntryChange.{EntryChange}
use Rattle.vr_store.specs.Room.{IsRoomAt}
use Rattle.vr_store.specs.Store.{StoreNow}
use Rattle.vr_event.specs.CatalogEdit.{AreUnlocked, EditFaultsBy, EnteredEdit, LacksRoomForEdit}
use Rattle.vr_event.specs.CatalogEdit.{changes_of}
use Rattle.vr_event.specs.EditSteps.{HasEditCome, HasMetOrAnswered}
use Rattle.vr_event.specs.EditSteps.{HasMetOnly, HasMetPlace, HasOpened, HasOpenedHeld, IsEditReady, IsLaterEdit}
use Rattle.vr_event.specs.EditSteps.{IsOpenAt}
use Rattle.vr_event.specs.Defining.{HasNoRoomAt, record_length}
use Rattle.vr_event.specs.EditSteps.{HasOpeningFaults, IsEditStage, IsOpenBy, IsWithoutSpace}
use Rattle.vr_event.specs.EditSteps.{LacksRoomForOne}
use Rattle.vr_event.specs.PreparedEdit.{store_change, store_order}
use Rattle.vr_event.specs.Volume.{IsWhole, VolumeNow}
use Rattle.vr_event.specs.declared.prepared_edit.PreparedEdit.{PreparedEdit}
use Rattle.vr_event.specs.declared.edit.Edit.{Edit}
use Rattle.vr_event.specs.declared.edit.Edit.TheVariants.{Again, Fault, NoRoom}
use Rattle.vr_event.proofs.EditAsked.{one-added}
use Rattle.vr_event.proofs.EditCome.{come-later}

pub later-full : IsLaterEdit NoRoom
later-full = record { not_live = λ is. cc; not_held = λ is. cc; not_full = λ is. cc }

-- ---- room at a place

pub space-ready : (store : StoreNow) (image : Image) (change : EntryChange) (room : Room)
    → IsRoomAt store image 0 change.place record_length room → room ≡ Ready
    → IsOpenAt store image change
space-ready store image change room is ready = (room, is, of change.before)
  where
    of : (before : Option (List ℕ)) → IsOpenBy room before
    of None = ready
    of (Some bytes) = inl ready

pub space-open : (store : StoreNow) (image : Image) (change : EntryChange) (room : Room)
    (answer : Option Edit) → IsWithoutSpace change.before answer → answer ≡ None
    → IsRoomAt store image 0 change.place record_length room → (need free : ℕ)
    → room ≡ NoSpace need free → IsOpenAt store image change
space-open store image change room answer without none is need free full =
    (room, is, of change.before without)
  where
    of : (before : Option (List ℕ)) → IsWithoutSpace before answer → IsOpenBy room before
    of None some = absurd (none-some NoRoom (sym none ∙ some))
    of (Some bytes) same = inr (need, free, full)

pub space-room : (before : Option (List ℕ)) (answer : Option Edit) → IsWithoutSpace before answer
    → answer ≡ Some NoRoom → before ≡ None
space-room None answer without some = refl
space-room (Some bytes) answer without some = absurd (none-some NoRoom (sym without ∙ some))

pub space-faults : (before : Option (List ℕ)) (answer : Option Edit)
    → IsWithoutSpace before answer → (was now : Faults) → now ≡ was
    → HasOpeningFaults answer was now
space-faults None answer without was now same =
    subst (λ (o : Option Edit). HasOpeningFaults o was now) (sym without) same
space-faults (Some bytes) answer without was now same =
    subst (λ (o : Option Edit). HasOpeningFaults o was now) (sym without) same

pub space-less : (before : Option (List ℕ)) (answer : Option Edit) → IsWithoutSpace before answer
    → answer ≡ Some Again → ⊥
space-less None answer without again = cc
space-less (Some bytes) answer without again = none-some Again (sym without ∙ again)

pub space-answer : (store : StoreNow) (image : Image) (place : List ℕ) (room : Room)
    → IsRoomAt store image 0 place record_length room → (need free : ℕ) → room ≡ NoSpace need free
    → HasNoRoomAt store image place
space-answer store image place room is need free full = (
  need,
  free,
  subst (λ (r : Room). IsRoomAt store image 0 place record_length r) full is,
)

-- a stage, or a fault, is no lack of room
pub fault-room : (fault : DeviceFault) → Fault fault ≡ NoRoom → ⊥
fault-room fault is = cc

pub stage-room : (answer : Edit) → IsEditStage answer → answer ≡ NoRoom → ⊥
stage-room answer is none = ⊎_elim (λ again. apart (sym again ∙ none))
    (λ fault. fault-room fault.0 (sym fault.1 ∙ none)) is
  where
    apart : Again ≡ NoRoom → ⊥
    apart is = cc

-- the counts of faults of what was asked
pub asked-same : {T : Type 0} (before now : Faults) (result : Result T DeviceFault) (room : T)
    → HasCause before now result → result ≡ Ok room → now ≡ before
asked-same before now (Ok other) room cause is = cause.ok
asked-same before now (Err fault) room cause is = absurd cc

pub unasked-faults : {T : Type 0} (before now : Faults) (result : Result T DeviceFault)
    (fault : DeviceFault) (answer : Edit) → HasCause before now result → result ≡ Err fault
    → answer ≡ Fault fault → EditFaultsBy answer before now
unasked-faults before now (Ok room) fault answer cause is same = absurd cc
unasked-faults before now (Err Read) Read answer cause is same =
    subst (λ (a : Edit). EditFaultsBy a before now) (sym same) (cause.read refl, cause.unwritten refl)
unasked-faults before now (Err Write) Write answer cause is same =
    subst (λ (a : Edit). EditFaultsBy a before now) (sym same) (cause.reads, cause.write refl)
unasked-faults before now (Err Read) Write answer cause is same = absurd cc
unasked-faults before now (Err Write) Read answer cause is same = absurd cc

module _ {B : Type 0} (seen : B → Seen) (after : ℕ) (unit : UnitOfRecovery) (line : ℕ) where
  -- nothing is in the way at a place that was met
  pub opened-met : (old new : VolumeNow B) → IsWhole seen new → new.file ≡ old.file
      → new.number ≡ old.number → new.store.log ≡ old.store.log
      → HasOpened seen after unit line None old new
  opened-met old new whole file number log = record {
    whole = whole;
    entered = file;
    later = tt;
    number = number;
    log = λ none. log;
    generation = ap (λ (l : LogNow). l.generation) log;
  }

  -- the record that is added has no room
  pub opened-full : (old new : VolumeNow B) → IsWhole seen new → new.file ≡ old.file
      → new.number ≡ old.number → new.store.log ≡ old.store.log
      → HasOpened seen after unit line (Some NoRoom) old new
  opened-full old new whole file number log = record {
    whole = whole;
    entered = λ entry edit. file;
    later = later-full;
    number = number;
    log = λ none. absurd (none-some NoRoom (sym none));
    generation = ap (λ (l : LogNow). l.generation) log;
  }

  pub by-space : (old new : VolumeNow B) (before : Option (List ℕ)) (answer : Option Edit)
      → IsWithoutSpace before answer → IsWhole seen new → new.file ≡ old.file
      → new.number ≡ old.number → new.store.log ≡ old.store.log
      → HasOpened seen after unit line answer old new
  by-space old new None answer without whole file number log =
      subst (λ (o : Option Edit). HasOpened seen after unit line o old new) (sym without)
      (opened-full old new whole file number log)
  by-space old new (Some bytes) answer without whole file number log =
      subst (λ (o : Option Edit). HasOpened seen after unit line o old new) (sym without)
      (opened-met old new whole file number log)

  -- a stage was done, or a fault met it
  pub opened-answered : (answer : Edit) (old mid new : VolumeNow B) → mid.file ≡ old.file
      → mid.number ≡ old.number → mid.store.log ≡ old.store.log → IsWhole seen new
      → ((entry : CatEntry) (edit : CatalogEdit)
      → EnteredEdit answer mid.number after unit line edit mid.file new.file)
      → IsLaterEdit answer → new.number ≡ mid.number
      → new.store.log.generation ≡ mid.store.log.generation
      → HasOpened seen after unit line (Some answer) old new
  opened-answered answer old mid new file number log whole entered later numbers generation = record {
    whole = whole;
    entered = λ entry edit. subst (λ (f : FileNow).
        EnteredEdit answer old.number after unit line edit f new.file) file
        (subst (λ (n : ℕ). EnteredEdit answer n after unit line edit mid.file new.file) number
        (entered entry edit));
    later = later;
    number = numbers ∙ number;
    log = λ none. absurd (none-some answer (sym none));
    generation = generation ∙ ap (λ (l : LogNow). l.generation) log;
  }

  -- a place was met before
  pub opened-then : (result : Option Edit) (old mid new : VolumeNow B)
      → HasOpened seen after unit line None old mid → HasOpened seen after unit line result mid new
      → HasOpened seen after unit line result old new
  opened-then result old mid new first next = record {
    whole = next.whole;
    entered = subst (λ (f : FileNow).
        HasMetOrAnswered after unit line result old.number f new.file) first.entered
        (subst (λ (n : ℕ). HasMetOrAnswered after unit line result n mid.file new.file)
        first.number next.entered);
    later = next.later;
    number = next.number ∙ first.number;
    log = λ none. next.log none ∙ first.log refl;
    generation = next.generation ∙ first.generation;
  }

  -- what it comes to for an edit
  pub come-answered : (entry : CatEntry) (edit : CatalogEdit) (answer : Edit)
      (old new : VolumeNow B) → HasOpened seen after unit line (Some answer) old new
      → HasEditCome seen after unit line edit (Ok answer) old new
  come-answered entry edit answer old new opened = come-later seen after unit line edit answer old
      new opened.whole (opened.entered entry edit) opened.later opened.number
      (λ going. omega (arith, opened.generation))

  -- and where the record that is added has no room
  pub lacks-room : (edit : CatalogEdit) (prepared : PreparedEdit) (old : VolumeNow B)
      → IsEditReady seen after unit edit prepared old
      → LacksRoomForOne (map store_change (store_order edit)) old.store (seen old.blocks).cur
      → LacksRoomForEdit seen edit old
  lacks-room edit prepared old ready lacks =
      let added = one-added edit lacks.0 lacks.1 lacks.2 in
      record {
        entry = added.0;
        is = added.1;
        no_room = subst (HasNoRoomAt old.store (seen old.blocks).cur) added.2 lacks.3;
        unlocked = subst (λ (u : UnitOfRecovery). AreUnlocked old.file u (changes_of edit))
            ready.unit_is ready.unlocked;
        log = ready.log;
      }

-- ---- what is held

module _ {B : Type 0} (seen : B → Seen) (opening : State) where
  pub held-then : (old mid new : VolumeNow B) → mid.file ≡ old.file → mid.number ≡ old.number
      → mid.store.log ≡ old.store.log
      → Guards (seen old.blocks) (seen mid.blocks)
      (RecoversTo old.store.log.geometry old.number (state_now opening old.file) [])
      → HasOpenedHeld seen opening mid new → HasOpenedHeld seen opening old new
  held-then old mid new file number log before next = record {
    held = next.held;
    moments = guards-then (seen old.blocks) (seen mid.blocks) (seen new.blocks)
        (RecoversTo old.store.log.geometry old.number (state_now opening old.file) []) before
        (subst (λ (f : FileNow). Guards (seen mid.blocks) (seen new.blocks)
        (RecoversTo old.store.log.geometry old.number (state_now opening f) [])) file
        (subst (λ (n : ℕ). Guards (seen mid.blocks) (seen new.blocks)
        (RecoversTo old.store.log.geometry n (state_now opening mid.file) [])) number
        (subst (λ (l : LogNow). Guards (seen mid.blocks) (seen new.blocks)
        (RecoversTo l.geometry mid.number (state_now opening mid.file) [])) log next.moments)));
  }

pub only-one : {B : Type 0} (seen : B → Seen) (place : List ℕ) (old new : VolumeNow B)
    → HasMetPlace seen place old new → HasMetOnly seen old new
only-one seen place old new one = record { file = one.file; only = one.only; rest = one.rest }
