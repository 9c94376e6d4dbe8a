-- The catalog was asked for room for the record of a cluster: what follows from the answer, and
-- what a step after it leaves.
use Rattle.std.proofs.Common.{◌≡◌, ◌∙◌, ℕ, List, [], Option, Some, None, refl, sym, ap, subst}
use Rattle.std.proofs.Common.{length}
use Rattle.std.proofs.Common.{⊎_elim}
use Rattle.std.specs.Prelude.{Bool, IfSome, IsTrue, Ok, Result}
use Rattle.vr_types.specs.Blocks.{Keeps}
use Rattle.vr_types.specs.Image.{Image}
use Rattle.vr_types.specs.Moments.{Guards}
use Rattle.vr_types.specs.Seen.{Seen}
use Rattle.vr_types.specs.Space.{free_count, least_free}
use Rattle.vr_types.specs.declared.fault.DeviceFault.{DeviceFault}
use Rattle.vr_types.specs.declared.fault.DeviceFault.TheVariants.{Read, Write}
use Rattle.vr_types.specs.declared.memory.OutOfMemory.{OutOfMemory}
use Rattle.vr_types.specs.declared.unit.Unit.{Unit as UnitOfRecovery}
use Rattle.vr_catalog.specs.declared.entry.CatEntry.{CatEntry}
use Rattle.vr_log.specs.LogNow.{LogNow}
use Rattle.vr_history.specs.State.{State}
use Rattle.vr_record_file.specs.Now.{FileNow, faulted, state_now}
use Rattle.vr_space.specs.Part.{CanSet, room_of}
use Rattle.vr_space.specs.declared.room.Room.{Room}
use Rattle.vr_space.specs.declared.room.Room.TheVariants.{NoSpace, Ready}
use Rattle.vr_space.proofs.CallerLemmas.{can-set}
use Rattle.vr_undo.specs.Records.{images_in}
use Rattle.vr_volume.specs.Crashes.{RecoversTo}
use Rattle.vr_volume.specs.PutBack.{lengths_kept}
use Rattle.vr_store.specs.Change.{IsSettable}
use Rattle.vr_store.specs.Room.{IsRoomAt}
use Rattle.vr_store.specs.Store.{PartNow, StoreNow, part_among}
use Rattle.vr_event.specs.DefineSteps.{HasCome, HasComeHeld, IsLater, IsStageOrFault}
use Rattle.vr_event.specs.Defining.{EnteredBy, HasNoRoomAt, record_length}
use Rattle.vr_event.specs.Volume.{Holds, IsFileHeld, IsHeld, IsWhole, VolumeNow}
use Rattle.vr_event.specs.declared.define.Define.{Define}
use Rattle.vr_event.specs.declared.define.Define.TheVariants.{Again, Fault, NoRoom}
use Rattle.vr_event.proofs.DefineCome.{come-after, come-faulted, come-held-after, come-later}
use Rattle.vr_event.proofs.DefineCome.{left-before}
use Rattle.vr_event.proofs.Recovers.{recovers-keeps}

-- ---- the answer

-- there is room
pub room-settable : (store : StoreNow) (image : Image) (place bytes : List ℕ) (room : Room)
    → IsRoomAt store image 0 place record_length room → room ≡ Ready
    → length bytes ≡ record_length → IsSettable store image 0 place (Some bytes)
room-settable store image place bytes room is ready long = of (part_among store.parts 0) is
  where
    of : (o : Option PartNow)
        → IfSome o (λ (part : PartNow). room ≡ room_of part.shape part.known image
        (free_count store.space) (lengths_kept (images_in store.undo) 0) place record_length)
        → IfSome o (λ (part : PartNow). CanSet part.shape part.known image
        (lengths_kept (images_in store.undo) 0) place (Some bytes))
    of None is = tt
    of (Some part) is = can-set part.shape part.known image (free_count store.space)
        (lengths_kept (images_in store.undo) 0) place bytes
        (ap (room_of part.shape part.known image (free_count store.space)
        (lengths_kept (images_in store.undo) 0) place) long ∙ sym is ∙ ready)

-- there is none
pub room-lacks : (store : StoreNow) (image : Image) (place at : List ℕ) (room : Room)
    (need free : ℕ) → IsRoomAt store image 0 place record_length room → room ≡ NoSpace need free
    → place ≡ at → HasNoRoomAt store image at
room-lacks store image place at room need free is lacks same = (
  need,
  free,
  subst (λ (p : List ℕ). IsRoomAt store image 0 p record_length (NoSpace need free)) same
      (subst (IsRoomAt store image 0 place record_length) lacks is),
)

-- ---- what is held

module _ {B : Type 0} (seen : B → Seen) where
  pub holds-later : (old mid : VolumeNow B) → Holds seen old
      → ((opening : State) → IsHeld seen opening old → IsHeld seen opening mid) → Holds seen mid
  holds-later old mid holds held = record {
    opening = holds.opening;
    held = held holds.opening holds.held;
  }

  -- nothing was done
  pub still-held : (opening : State) (after : ℕ) (unit : UnitOfRecovery) (line : ℕ)
      (entry : CatEntry) (volume : VolumeNow B) (tells : Bool) → IsTrue tells
      → Keeps tells (seen volume.blocks) (seen volume.blocks) → volume.file.stopped ≡ None
      → IsHeld seen opening volume
      → HasComeHeld seen opening after unit line entry volume volume
  still-held opening after unit line entry volume tells told keeps going held = record {
    held = held;
    moments = left-before seen after unit line entry opening (seen volume.blocks)
        (seen volume.blocks) volume volume.file
        (recovers-keeps volume.number volume.store (state_now opening volume.file)
        (seen volume.blocks) (seen volume.blocks) (held.stored going) tells told keeps);
  }

  pub file-held : (opening : State) (volume : VolumeNow B) → IsHeld seen opening volume
      → IsFileHeld opening volume
  file-held opening volume held = record {
    file = held.file;
    free = held.free;
    owned = held.owned;
  }

  module _ (opening : State) (after : ℕ) (unit : UnitOfRecovery) (line : ℕ) (entry : CatEntry)
      (old mid : VolumeNow B)
      (asked : Guards (seen old.blocks) (seen mid.blocks) (RecoversTo old.store.log.geometry
      old.number (state_now opening old.file) [])) where
    -- nothing was done after it
    pub asked-held : IsHeld seen opening mid
        → HasComeHeld seen opening after unit line entry old mid
    asked-held held = record {
      held = held;
      moments = left-before seen after unit line entry opening (seen old.blocks) (seen mid.blocks)
          old mid.file asked;
    }

    -- a fault is entered
    pub fault-held : (final : VolumeNow B) → final.blocks ≡ mid.blocks
        → IsHeld seen opening final → HasComeHeld seen opening after unit line entry old final
    fault-held final same held = record {
      held = held;
      moments = left-before seen after unit line entry opening (seen old.blocks)
          (seen final.blocks) old final.file
          (subst (λ (b : B). Guards (seen old.blocks) (seen b) (RecoversTo old.store.log.geometry
          old.number (state_now opening old.file) [])) (sym same) asked);
    }

    -- a stage was done
    pub staged-held : (final : VolumeNow B) → mid.file ≡ old.file → mid.number ≡ old.number
        → mid.store ≡ record old.store { parts = mid.store.parts } → IsHeld seen opening final
        → Guards (seen mid.blocks) (seen final.blocks) (RecoversTo mid.store.log.geometry
        mid.number (state_now opening mid.file) [])
        → HasComeHeld seen opening after unit line entry old final
    staged-held final file number rest held moments = come-held-after seen after unit line entry
        opening old mid final file number (ap (λ (s : StoreNow). s.log) rest) asked
        (record {
          held = held;
          moments = left-before seen after unit line entry opening (seen mid.blocks)
              (seen final.blocks) mid final.file moments;
        })

-- ---- what it came to

-- neither done nor refused by what is in memory: a stage, or a fault,
later-again : IsLater Again
later-again = record {
  not_done = λ area is. cc;
  not_area = λ is. cc;
  not_held = λ is. cc;
  not_full = λ is. cc;
}

later-fault : (fault : DeviceFault) → IsLater (Fault fault)
later-fault fault = record {
  not_done = λ area is. cc;
  not_area = λ is. cc;
  not_held = λ is. cc;
  not_full = λ is. cc;
}

-- or no room in the catalog
later-no-room : IsLater NoRoom
later-no-room = record {
  not_done = λ area is. cc;
  not_area = λ is. cc;
  not_held = λ is. cc;
  not_full = λ is. cc;
}

later-staged : (define : Define) → IsStageOrFault define → IsLater define
later-staged define is = ⊎_elim (λ again. subst IsLater (sym again) later-again)
    (λ fault. subst IsLater (sym fault.1) (later-fault fault.0)) is

-- the catalog was asked
module _ {B : Type 0} (seen : B → Seen) (after : ℕ) (unit : UnitOfRecovery) (line : ℕ)
    (entry : CatEntry) (old mid : VolumeNow B) (file : mid.file ≡ old.file)
    (number : mid.number ≡ old.number)
    (rest : mid.store ≡ record old.store { parts = mid.store.parts }) where
  log : mid.store.log ≡ old.store.log
  log = ap (λ (s : StoreNow). s.log) rest

  pub come-asked : (result : Result Define OutOfMemory) (final : VolumeNow B)
      → HasCome seen after unit line entry result mid final
      → HasCome seen after unit line entry result old final
  come-asked result final = come-after seen after unit line entry result old mid final file number
      (λ none. ap (λ (s : StoreNow). least_free s.space) (sym rest) ∙ none) log

  -- a stage was done, or a fault met it
  pub come-staged : (define : Define) (final : VolumeNow B) → IsWhole seen final
      → EnteredBy define mid.number after unit line entry mid.file final.file
      → IsStageOrFault define → final.number ≡ mid.number
      → final.store.log.generation ≡ mid.store.log.generation
      → HasCome seen after unit line entry (Ok define) old final
  come-staged define final whole entered is numbers generation = come-asked (Ok define) final
      (come-later seen after unit line entry define mid final whole entered
      (later-staged define is) numbers generation)

  -- it was refused
  refused : (define : Define) → IsWhole seen mid → IsLater define
      → EnteredBy define old.number after unit line entry old.file old.file
      → HasCome seen after unit line entry (Ok define) old mid
  refused define whole later entered = come-later seen after unit line entry define old mid whole
      (subst (λ (f : FileNow). EnteredBy define old.number after unit line entry old.file f)
      (sym file) entered) later number (ap (λ (l : LogNow). l.generation) log)

  pub come-no-room : IsWhole seen mid → HasCome seen after unit line entry (Ok NoRoom) old mid
  come-no-room whole = refused NoRoom whole later-no-room refl

  pub come-unread : IsWhole seen mid → HasCome seen after unit line entry (Ok (Fault Read)) old mid
  come-unread whole = refused (Fault Read) whole (later-fault Read) refl

  -- a write failed
  pub come-unwritten : (final : VolumeNow B) → IsWhole seen mid
      → final.file ≡ faulted after unit line mid.file → final.number ≡ mid.number
      → HasCome seen after unit line entry (Ok (Fault Write)) old final
  come-unwritten final whole leaves numbers = come-asked (Ok (Fault Write)) final
      (come-faulted seen after unit line entry (Fault Write) mid final refl leaves numbers
      whole.served)
