-- What several changes of the catalog make of a store, as one event (DFSMS Access Method Services
-- Commands, ALTER and DELETE, for what is there once the command is done): records of entries are
-- added, replaced and taken away, and a part of theirs is no longer laid and its areas are free. That
-- all of it is one event, by a unit of recovery that ends in it, is this project's own rule.
use Rattle.std.specs.Prelude.{◌≡◌, ℕ, All, IfSome, List, [], map, Option}
use Rattle.std.specs.Option.{option_map}
use Rattle.vr_types.specs.Content.{Standing, item_at}
use Rattle.vr_types.specs.Image.{Image}
use Rattle.vr_types.specs.Seen.{Seen}
use Rattle.vr_types.specs.declared.unit.PartNo.{PartNo}
use Rattle.vr_types.specs.declared.unit.Unit.{Unit as UnitOfRecovery}
use Rattle.vr_space.specs.Part.{HasKeptRoom, Knows}
use Rattle.vr_space.specs.Room.{Lengths}
use Rattle.vr_log.specs.Live.{live_in, need_of_all}
use Rattle.vr_log.specs.LogNow.{LogNow}
use Rattle.vr_log.specs.Standing.{LogStands}
use Rattle.vr_history.specs.State.{State}
use Rattle.vr_volume.specs.EntryChanges.{AreEntriesChanged, CanChangeEntries, CanSetAll, StandsAt}
use Rattle.vr_volume.specs.EntryChanges.{image_for, logged_for}
use Rattle.vr_volume.specs.PutBack.{lengths_kept}
use Rattle.vr_volume.specs.Rests.{RestsPastLog}
use Rattle.vr_volume.specs.declared.setting.EntryChange.{EntryChange}
use Rattle.vr_store.specs.EntryChange.{number_gone}
use Rattle.vr_store.specs.Store.{IsStored, PartNow, StoreNow, part_among}

-- what the before-images of all of them take of the log
abbrev pub entries_need : LogNow → UnitOfRecovery → List EntryChange → ℕ
entries_need log unit changes =
    need_of_all (live_in log.records) (map (logged_for unit) changes)

-- what is kept while they are made: what stands at their places
abbrev pub entries_kept : UnitOfRecovery → List EntryChange → Lengths
entries_kept unit changes = lengths_kept (map (image_for unit) changes) 0

-- The store is that of a state in whose catalog the changes may be made. Then all of them are, the
-- part that goes has nothing, and the unit has ended.
pub record IsChangingEntries (number : ℕ) (store : StoreNow) (unit : UnitOfRecovery)
    (changes : List EntryChange) (gone : Option PartNo) (old new : State) (now : Seen) : Type 0
  where
    pub stored : IsStored number store old now
    pub can : CanChangeEntries store.log.geometry store.log unit changes (number_gone gone) old
    pub changed : AreEntriesChanged unit changes (number_gone gone) old new

-- the store is that of a state in whose catalog what is said stands at each place, or nothing does
pub record HaveEntries (store : StoreNow) (changes : List EntryChange) (now : Seen) : Type 0 where
  pub number : ℕ
  pub state : State
  pub stored : IsStored number store state now
  pub there : All (λ (change : EntryChange). item_at (state.contents 0) change.place
      ≡ option_map Standing change.before) changes

-- What is given may be set in the catalog in the order of the changes, with room kept for what stands
-- at their places.
abbrev pub AreEntriesSettable : StoreNow → UnitOfRecovery → Image → List EntryChange → Type 0
AreEntriesSettable store unit image changes = IfSome (part_among store.parts 0)
    (λ (part : PartNow).
    CanSetAll part.shape part.known image (entries_kept unit changes) changes)

-- The log and the catalog stand so that the changes may be made.
pub record AreChangesReady (store : StoreNow) (unit : UnitOfRecovery) (changes : List EntryChange)
    (now : Seen) (catalog : PartNow) : Type 0 where
  pub log : LogStands store.log now
  pub rests : RestsPastLog store.log.geometry catalog.shape catalog.known now
  pub room : HasKeptRoom catalog.shape [] now
  pub firm : All (StandsAt catalog.shape now) changes
  pub knows : Knows catalog.shape catalog.known now
  pub can : CanSetAll catalog.shape catalog.known now.cur (entries_kept unit changes) changes
