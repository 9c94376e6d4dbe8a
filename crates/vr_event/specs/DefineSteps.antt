-- What holds of a volume before a step of a DEFINE, and what the step leaves of it: the words that
-- its steps share. The rules are this project's own.
use Rattle.std.specs.Prelude.{◌≡◌, ◌≢◌, ◌⊎◌, ◌+◌, ◌-◌, ◌^◌, ◌<◌, ◌≤◌, ℕ, true, IfOk}
use Rattle.std.specs.Prelude.{None, Result, Some}
use Rattle.vr_types.specs.Geometry.{area_count}
use Rattle.vr_types.specs.Locks.{first_conflict}
use Rattle.vr_types.specs.LogSpace.{IsLogFull, log_size}
use Rattle.vr_types.specs.Moments.{Guards}
use Rattle.vr_types.specs.Seen.{Seen}
use Rattle.vr_types.specs.Space.{least_free}
use Rattle.vr_types.specs.declared.fault.DeviceFault.{DeviceFault}
use Rattle.vr_types.specs.declared.memory.OutOfMemory.{OutOfMemory}
use Rattle.vr_types.specs.declared.unit.AreaNo.{AreaNo}
use Rattle.vr_types.specs.declared.unit.Mode.TheVariants.{Exclusive}
use Rattle.vr_types.specs.declared.unit.Unit.{Unit as UnitOfRecovery}
use Rattle.vr_attach.specs.Laid.{shape_of}
use Rattle.vr_catalog.specs.declared.entry.CatEntry.{CatEntry}
use Rattle.vr_log.specs.Live.{used_by}
use Rattle.vr_history.specs.Merged.{last_stamp}
use Rattle.vr_history.specs.State.{State}
use Rattle.vr_record_file.specs.Defining.{entry_name, need_to_define}
use Rattle.vr_record_file.specs.Now.{has_deck, number_of}
use Rattle.vr_space.specs.Part.{owned_count}
use Rattle.vr_store.specs.Store.{shape_among}
use Rattle.vr_event.specs.Defining.{HasNoRoomAt, IsDefineEntered, IsLeftDefining}
use Rattle.vr_event.specs.Defining.{IsNewCluster, entry_place, entry_with_area, utility_unit}
use Rattle.vr_event.specs.NewCluster.{IsPreparedFor}
use Rattle.vr_event.specs.Volume.{IsHeld, IsWhole, VolumeNow}
use Rattle.vr_event.specs.declared.define.Define.{Define}
use Rattle.vr_event.specs.declared.define.Define.TheVariants.{Again, Done, Fault, Full, Held}
use Rattle.vr_event.specs.declared.define.Define.TheVariants.{NoArea, NoRoom}
use Rattle.vr_event.specs.declared.new_cluster.NewCluster.{NewCluster}

-- An event of a DEFINE may begin: the volume is whole and goes on, there is room for its entries,
-- and deck 0, and the log, have a further number.
pub record MayDefineNow {B : Type 0} (seen : B → Seen) (after : ℕ) (volume : VolumeNow B) : Type 0
  where
    pub whole : IsWhole seen volume
    pub going : volume.file.stopped ≡ None
    pub room : 4 ≤ volume.file.room
    pub last : last_stamp 0 volume.file.entries < 2 ^ 64 - 4
    pub after_is : after < 2 ^ 64 - 4
    pub deck : has_deck 0 volume.file.numbers ≡ true
    pub number : number_of volume.file.numbers 0 < 2 ^ 32 - 1
    pub generation : volume.store.log.generation + 1 < 2 ^ 63

-- A prepared cluster may be added, once the catalog has room: the event may begin, the volume
-- doesn't have the cluster, its area is the least that is free, no lock is in its way, and the log
-- has room for what is logged of it.
pub record MayAdd {B : Type 0} (seen : B → Seen) (after : ℕ) (unit : UnitOfRecovery)
    (entry : CatEntry) (new : NewCluster) (volume : VolumeNow B) : Type 0 where
  pub may : MayDefineNow seen after volume
  pub unit_is : unit ≡ utility_unit volume.file
  pub entry_is : IsNewCluster volume.file.geometry volume.file.catalog entry
  pub new_is : IsPreparedFor volume.number volume.file.catalog entry new.area new
  pub least : least_free volume.store.space ≡ Some new.area.0
  pub unowned : owned_count new.part volume.store.space ≡ 0
  pub unlocked : first_conflict volume.file.locks unit Exclusive new.name ≡ None
  pub log : used_by volume.store.log.records + need_to_define new.place
      ≤ log_size volume.file.geometry

-- What it came to, whether or not the device reports its contents.
pub record HasCome {B : Type 0} (seen : B → Seen) (after : ℕ) (unit : UnitOfRecovery) (line : ℕ)
    (entry : CatEntry) (result : Result Define OutOfMemory) (old new : VolumeNow B) : Type 0
  where
    pub whole : IsWhole seen new
    pub entered : IsDefineEntered result old.number after unit line entry old.file new.file
    pub parts : IfOk result (λ define. (area : AreaNo) → define ≡ Done area
        → shape_among new.store.parts entry.part.0
        ≡ shape_of old.file.geometry (entry_with_area entry area))
    pub within : IfOk result (λ define. (area : AreaNo) → define ≡ Done area
        → area.0 < area_count old.file.geometry)
    pub no_area : IfOk result (λ define. define ≡ NoArea → least_free old.store.space ≡ None)
    pub kept_out : IfOk result (λ define. define ≡ Held → first_conflict old.file.locks unit
        Exclusive (entry_name (entry_place entry)) ≢ None)
    pub full : IfOk result (λ define. define ≡ Full → IsLogFull old.store.log.geometry
        (used_by old.store.log.records) (need_to_define (entry_place entry)))
    pub number : new.number ≡ old.number
    pub generation : new.file.stopped ≡ None
        → new.store.log.generation ≤ old.store.log.generation + 1

-- And where it does: the volume is held as it was, and what each image of each moment recovers to.
pub record HasComeHeld {B : Type 0} (seen : B → Seen) (opening : State) (after : ℕ)
    (unit : UnitOfRecovery) (line : ℕ) (entry : CatEntry) (old new : VolumeNow B) : Type 0 where
  pub held : IsHeld seen opening new
  pub moments : Guards (seen old.blocks) (seen new.blocks) (IsLeftDefining
      old.store.log.geometry old.number opening after unit line entry old.file new.file)

-- There is no room in the catalog, and nothing that is tried before is in the way: neither a lock on
-- the place of the record nor the log.
pub record LacksCatalogRoom {B : Type 0} (seen : B → Seen) (entry : CatEntry) (old : VolumeNow B)
    : Type 0 where
  pub no_room : HasNoRoomAt old.store (seen old.blocks).cur (entry_place entry)
  pub unlocked : first_conflict old.file.locks (utility_unit old.file) Exclusive
      (entry_name (entry_place entry)) ≡ None
  pub log : used_by old.store.log.records + need_to_define (entry_place entry)
      ≤ log_size old.file.geometry

-- where that is the answer
abbrev pub LacksRoomWhere : {B : Type 0} → (B → Seen) → CatEntry → Result Define OutOfMemory
    → VolumeNow B → Type 0
LacksRoomWhere seen entry result old =
    IfOk result (λ define. define ≡ NoRoom → LacksCatalogRoom seen entry old)

-- ---- what a step answers

-- a stage of the catalog, or a fault
abbrev pub IsStageOrFault : Define → Type 0
IsStageOrFault define = (define ≡ Again) ⊎ ((fault : DeviceFault) × (define ≡ Fault fault))

-- no definition, and no refusal by what is in memory
pub record IsLater (define : Define) : Type 0 where
  pub not_done : (area : AreaNo) → define ≢ Done area
  pub not_area : define ≢ NoArea
  pub not_held : define ≢ Held
  pub not_full : define ≢ Full
