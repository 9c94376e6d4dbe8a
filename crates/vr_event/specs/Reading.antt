-- What reading a cluster through hands to a visitor: its records from one on, in the order of their
-- keys, addresses or numbers, as PRINT, REPRO and BLDINDEX of Access Method Services Commands take
-- those of a data set. That a visitor takes them, and what is entered, is this project's own.
use Rattle.std.specs.Prelude.{◌≡◌, ◌<◌, ◌≤◌, ◌-◌, ◌^◌, ℕ, Bool, List, Option, Some, None}
use Rattle.std.specs.Prelude.{Result, Ok, Err, IsTrue, filter, take}
use Rattle.vr_types.specs.Content.{Content, records_of}
use Rattle.vr_types.specs.Faults.{Faults}
use Rattle.vr_types.specs.Seen.{Seen}
use Rattle.vr_types.specs.declared.fault.DeviceFault.TheVariants.{Read, Write}
use Rattle.vr_types.specs.declared.memory.OutOfMemory.{OutOfMemory}
use Rattle.vr_types.specs.declared.unit.Unit.{Unit as UnitOfRecovery}
use Rattle.vr_history.specs.State.{State}
use Rattle.vr_trace.specs.Visitors.{Visited, visited_by}
use Rattle.vr_record_file.specs.Now.{FileNow, faulted, state_now}
use Rattle.vr_store.specs.declared.no.LookNo.{LookNo}
use Rattle.vr_store.specs.declared.no.LookNo.TheVariants.{Fault as DeviceFails, Memory}
use Rattle.vr_event.specs.Volume.{IsHeld, VolumeNow}
use Rattle.vr_event.specs.Walking.{is_from}
use Rattle.vr_event.specs.declared.reading.ReadThrough.{ReadThrough}
use Rattle.vr_event.specs.declared.reading.ReadThrough.TheVariants.{Done, Fault}

-- ---- records

-- The records of a content, in order, with their places: all, or those at this place or past it.
-- What was withdrawn is none.
abbrev pub records_from : Option (List ℕ) → Content → List Visited
records_from None content = records_of content
records_from (Some from) content =
    filter (λ (one : Visited). is_from (Some from) one.0) (records_of content)

-- the first of them
abbrev pub first_records : ℕ → Option (List ℕ) → Content → List Visited
first_records n from content = take n (records_from from content)

-- ---- what is handed over

-- Whatever the device reports: some records were handed over, one after another.
pub record HasVisited {V : Type 0} (after : V → List ℕ → List ℕ → V) (done : V → Bool)
    (old new : V) : Type 0 where
  pub records : List Visited
  pub visited : new ≡ visited_by after done records old

-- They are the first of these.
pub record HasVisitedSome {V : Type 0} (after : V → List ℕ → List ℕ → V) (done : V → Bool)
    (from : Option (List ℕ)) (content : Content) (old new : V) : Type 0 where
  pub count : ℕ
  pub visited : new ≡ visited_by after done (first_records count from content) old

-- All were handed over, as far as a number of 64 bits counts them; or where the device failed, the
-- first of them.
abbrev pub IsReadThrough : {V : Type 0} → (V → List ℕ → List ℕ → V) → (V → Bool) → ReadThrough
    → Option (List ℕ) → Content → V → V → Type 0
IsReadThrough after done Done from content old new =
    new ≡ visited_by after done (first_records (2 ^ 64 - 1) from content) old
IsReadThrough after done (Fault fault) from content old new =
    HasVisitedSome after done from content old new

-- ---- a walk of them

-- what is said of a walk that didn't run out of memory
abbrev pub UnlessMemory : {T : Type 0} → Result T LookNo → Type 0 → Type 0
UnlessMemory (Ok found) fact = fact
UnlessMemory (Err (DeviceFails fault)) fact = fact
UnlessMemory (Err Memory) fact = Unit {0}

-- ---- what it enters

-- nothing, but that a fault of a write stops the volume
abbrev pub ReadBy : ReadThrough → ℕ → UnitOfRecovery → ℕ → FileNow → FileNow → Type 0
ReadBy Done after unit line old new = new ≡ old
ReadBy (Fault Read) after unit line old new = new ≡ old
ReadBy (Fault Write) after unit line old new = new ≡ faulted after unit line old

abbrev pub IsReadEntered : Result ReadThrough OutOfMemory → ℕ → UnitOfRecovery → ℕ → FileNow
    → FileNow → Type 0
IsReadEntered (Ok through) after unit line old new = ReadBy through after unit line old new
IsReadEntered (Err why) after unit line old new = new ≡ old

-- the counts of faults: none rose, or that of the fault that it is
abbrev pub ReadFaultsBy : ReadThrough → Faults → Faults → Type 0
ReadFaultsBy Done before now = now ≡ before
ReadFaultsBy (Fault Read) before now = (before.reads < now.reads) × (now.writes ≡ before.writes)
ReadFaultsBy (Fault Write) before now = (before.reads ≤ now.reads) × (before.writes < now.writes)

abbrev pub HasReadFaults : Faults → Faults → Result ReadThrough OutOfMemory → Type 0
HasReadFaults before now (Ok through) = ReadFaultsBy through before now
HasReadFaults before now (Err why) = now ≡ before

-- ---- by the states from which the volume is held

-- All that come, as far as a number of 64 bits counts them; or where the device failed, the first of
-- them.
abbrev pub AreRead : ReadThrough → Option (List ℕ) → Content → List Visited → Type 0
AreRead Done from content records = records ≡ first_records (2 ^ 64 - 1) from content
AreRead (Fault fault) from content records =
    (count : ℕ) × (records ≡ first_records count from content)

-- Some records were handed over, one after another; of a device that reports its contents those that
-- the part has in each state from which the volume is held.
pub record HasReadFrom {B V : Type 0} (after : V → List ℕ → List ℕ → V) (done : V → Bool)
    (tells : Bool) (seen : B → Seen) (through : ReadThrough) (from : Option (List ℕ)) (part : ℕ)
    (volume : VolumeNow B) (old new : V) : Type 0 where
  pub records : List Visited
  pub visited : new ≡ visited_by after done records old
  pub are : IsTrue tells → (opening : State) → IsHeld seen opening volume
      → AreRead through from ((state_now opening volume.file).contents part) records
