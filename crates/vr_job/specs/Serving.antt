-- A volume that a latch guards, while decks run: what is known of it whenever the latch is free. The
-- rules are this project's own.
use Rattle.std.specs.Prelude.{◌≡◌, ◌<◌, ℕ, Bool, true, false, IsTrue, is_some}
use Rattle.vr_types.specs.Faults.{Faults}
use Rattle.vr_types.specs.Seen.{Seen}
use Rattle.vr_types.specs.declared.unit.Unit.{Unit as UnitOfRecovery}
use Rattle.vr_trace.specs.Shown.{Shown}
use Rattle.vr_record_file.specs.Now.{FileNow, is_undoing, number_of}
use Rattle.vr_store.specs.Left.{left_for}
use Rattle.vr_event.specs.Volume.{Holds, IsWhole, VolumeNow}
use Rattle.vr_event.specs.declared.act.Act.{Act}
use Rattle.vr_event.specs.declared.act.Act.TheVariants.{Again, Done}
use Rattle.vr_trace.specs.Laws.{deck_entries}
use Rattle.vr_worker.specs.Asked.{undoes}
use Rattle.vr_job.specs.Going.{WentOn}

-- the current unit of recovery of a deck
abbrev pub unit_of : ℕ → FileNow → UnitOfRecovery
unit_of deck file = record { deck = deck; number = number_of file.numbers deck }

-- A unit that has begun to undo is its deck's current one, and the deck's own entries show it.
abbrev pub ShowUndoing : FileNow → Type 0
ShowUndoing file = (unit : UnitOfRecovery) → is_undoing unit file.entries ≡ true
    → (unit ≡ unit_of unit.deck file) × (undoes (deck_entries unit.deck file.entries) ≡ true)

-- what the commands of IDCAMS see of it
abbrev pub shown_of : {B : Type 0} → VolumeNow B → Shown
shown_of volume = record {
  catalog = volume.file.catalog;
  stopped = is_some volume.file.stopped;
}

-- The volume is whole, and where the device reports its contents it holds from some opening; and
-- what has begun to undo shows it.
pub record IsServing {B : Type 0} (tells : Bool) (seen : B → Seen) (volume : VolumeNow B) : Type 0
  where
    pub whole : IsWhole seen volume
    pub holds : IsTrue tells → Holds seen volume
    pub shows : ShowUndoing volume.file

-- It serves as before, and nothing was entered in its history; its store stays, and each deck's
-- current unit.
pub record StaysServing {B : Type 0} (tells : Bool) (seen : B → Seen) (faults : B → Faults)
    (old new : VolumeNow B) : Type 0 where
  pub serving : IsServing tells seen new
  pub went : WentOn tells seen faults old new
  pub entries : new.file.entries ≡ old.file.entries
  pub store : new.store ≡ old.store
  pub units : (deck : ℕ) → unit_of deck new.file ≡ unit_of deck old.file

-- Fewer steps are left, whichever unit waits for them.
abbrev pub LeavesLess : {B : Type 0} → VolumeNow B → VolumeNow B → Type 0
LeavesLess old new = (unit : UnitOfRecovery) → left_for unit new.store < left_for unit old.store

-- Where the device reports its contents, fewer are left for the current unit of the deck.
abbrev pub IsNearerFor : {B : Type 0} → Bool → VolumeNow B → VolumeNow B → ℕ → Type 0
IsNearerFor tells old new deck = IsTrue tells
    → left_for (unit_of deck old.file) new.store < left_for (unit_of deck old.file) old.store

-- an event entered its request
abbrev pub is_done : Act → Bool
is_done Done = true
is_done (Again request) = false
