-- What is counted of a cluster, for LISTCAT ALL of Access Method Services Commands: its records,
-- its areas, and its splits in this run. What counts as a split is this project's own.
use Rattle.std.specs.Prelude.{◌≡◌, ◌⊎◌, ◌+◌, ◌-◌, ◌^◌, ◌<◌, ◌≤◌, ◌==◌, ◌&&◌, ℕ, Bool, false, cond}
use Rattle.std.specs.Prelude.{List, [], ◌∷◌, Option, Some, None, Result, Ok, Err, filter, length, min}
use Rattle.std.specs.Prelude.{nat_le}
use Rattle.vr_types.specs.Content.{Content, Placed}
use Rattle.vr_types.specs.Faults.{Faults}
use Rattle.vr_types.specs.Fields.{four_at}
use Rattle.vr_types.specs.declared.fault.DeviceFault.TheVariants.{Read, Write}
use Rattle.vr_types.specs.declared.memory.OutOfMemory.{OutOfMemory}
use Rattle.vr_types.specs.declared.reply.Reply.{Reply}
use Rattle.vr_types.specs.declared.reply.Reply.TheVariants.{Done, Refused}
use Rattle.vr_types.specs.declared.request.Request.{Request}
use Rattle.vr_types.specs.declared.request.Request.TheVariants.{Add, Backout, Commit, EndReq, Erase}
use Rattle.vr_types.specs.declared.request.Request.TheVariants.{Get, Point, Update}
use Rattle.vr_types.specs.declared.unit.Kind.{Kind}
use Rattle.vr_types.specs.declared.unit.Kind.TheVariants.{Keyed, Entry as EntrySequenced, Relative}
use Rattle.vr_types.specs.declared.unit.Unit.{Unit as UnitOfRecovery}
use Rattle.vr_catalog.specs.declared.entry.CatEntry.{CatEntry}
use Rattle.vr_history.specs.State.{State, areas_of}
use Rattle.vr_history.specs.declared.entry.Entry.{Entry}
use Rattle.vr_history.specs.declared.entry.What.{What}
use Rattle.vr_history.specs.declared.entry.What.TheVariants.{Asked, Undone, Claimed, Split, Faulted}
use Rattle.vr_record_file.specs.Now.{FileNow, faulted}
use Rattle.vr_volume.specs.PutBack.{standing}
use Rattle.vr_event.specs.Walking.{is_coming}
use Rattle.vr_event.specs.declared.counts.Count.{Count}
use Rattle.vr_event.specs.declared.counts.Count.TheVariants.{Counted, Fault}
use Rattle.vr_event.specs.declared.counts.Counts.{Counts}
use Rattle.vr_event.specs.declared.splits.Splits.{Splits}

-- ---- records

-- how many records a content has; what was withdrawn is none
abbrev pub records_in : Content → ℕ
records_in content = length (standing content)

-- as far as a number of 64 bits can say it
abbrev pub as_told : ℕ → ℕ
as_told count = min count (2 ^ 64 - 1)

-- ---- a walk of them

-- how many records come after this place, or from the start on
abbrev pub records_after : Option (List ℕ) → Content → ℕ
records_after last content =
    length (filter (λ (entry : Placed). is_coming None last entry.0) (standing content))

-- Those that the walk counted and those that come after are all of them.
abbrev pub IsWalked : ℕ → Option (List ℕ) → Content → Type 0
IsWalked count last content = count + records_after last content ≡ records_in content

-- ---- splits

-- of control intervals, and of control areas
abbrev pub no_splits : Splits
no_splits = record { intervals = 0; areas = 0 }

-- The record of an entry of the catalog, which has its part in the four bytes at 48, is of this part.
abbrev pub has_part : ℕ → List ℕ → Bool
has_part part bytes = nat_le 52 (length bytes) && four_at 48 bytes == part

-- a request that adds such a record to the catalog, which is part 0
abbrev pub adds_part : ℕ → Request → Bool
adds_part part (Get file find update integrity) = false
adds_part part (Point file find) = false
adds_part part (Add file place bytes) = file.base.0 == 0 && has_part part bytes
adds_part part (Update file bytes) = false
adds_part part (Erase file) = false
adds_part part (EndReq file) = false
adds_part part Commit = false
adds_part part Backout = false

-- Splits are counted from the definition that stands: from where the record of the entry was added
-- to the catalog, as it is by DEFINE and under another name by ALTER.
abbrev pub answered : ℕ → Request → Reply → Splits → Splits
answered part request (Done feedback place bytes) splits =
    cond (adds_part part request) no_splits splits
answered part request (Refused refusal) splits = splits

-- after an entry
abbrev pub splits_after : ℕ → What → Splits → Splits
splits_after part (Asked request reply) splits = answered part request reply splits
splits_after part (Undone of place) splits = splits
splits_after part (Claimed of area) splits =
    cond (of.0 == part) (record splits { areas = splits.areas + 1 }) splits
splits_after part (Split of) splits =
    cond (of.0 == part) (record splits { intervals = splits.intervals + 1 }) splits
splits_after part (Faulted fault) splits = splits

-- and after entries, first to last
abbrev pub splits_by : ℕ → Splits → List Entry → Splits
splits_by part splits [] = splits
splits_by part splits (entry ∷ entries) =
    splits_by part (splits_after part entry.what splits) entries

-- Of a keyed cluster each area that it takes is a split; an entry-sequenced or relative one goes on
-- at its end.
abbrev pub area_splits : Option Kind → ℕ → ℕ
area_splits (Some Keyed) taken = taken
area_splits (Some EntrySequenced) taken = 0
area_splits (Some Relative) taken = 0
area_splits None taken = 0

-- ---- the counts

-- what is counted of a cluster with this many records and areas, by this history
abbrev pub counts_with : ℕ → ℕ → List Entry → CatEntry → Counts
counts_with records areas entries entry =
    let splits = splits_by entry.part.0 no_splits entries in
    record {
      records = records;
      areas = areas;
      interval_splits = splits.intervals;
      area_splits = area_splits entry.kind splits.areas;
    }

-- Its areas are those of its chain: all that it owns, but of a key-sequenced cluster for the one that
-- a split under way has taken, to which the chain doesn't lead yet.
abbrev pub AreAreas : Option Kind → ℕ → ℕ → Type 0
AreAreas (Some Keyed) owned areas = (areas ≡ owned) ⊎ (areas + 1 ≡ owned)
AreAreas (Some EntrySequenced) owned areas = areas ≡ owned
AreAreas (Some Relative) owned areas = areas ≡ owned
AreAreas None owned areas = areas ≡ owned

-- These are the counts of a cluster in a state with this history.
pub record AreCounts (state : State) (entries : List Entry) (entry : CatEntry) (counts : Counts)
    : Type 0 where
  pub areas : ℕ
  pub areas_are : AreAreas entry.kind (areas_of state entry.part.0) areas
  pub counts_are : counts ≡ counts_with (as_told (records_in (state.contents entry.part.0))) areas
      entries entry

-- ---- what it enters

-- nothing, but that a fault of a write stops the volume
abbrev pub CountedBy : Count → ℕ → UnitOfRecovery → ℕ → FileNow → FileNow → Type 0
CountedBy (Counted counts) after unit line old new = new ≡ old
CountedBy (Fault Read) after unit line old new = new ≡ old
CountedBy (Fault Write) after unit line old new = new ≡ faulted after unit line old

abbrev pub IsCountEntered : Result Count OutOfMemory → ℕ → UnitOfRecovery → ℕ → FileNow → FileNow
    → Type 0
IsCountEntered (Ok count) after unit line old new = CountedBy count after unit line old new
IsCountEntered (Err why) after unit line old new = new ≡ old

-- the counts of faults: none rose, or that of the fault that it is
abbrev pub CountFaultsBy : Count → Faults → Faults → Type 0
CountFaultsBy (Counted counts) before now = now ≡ before
CountFaultsBy (Fault Read) before now = (before.reads < now.reads) × (now.writes ≡ before.writes)
CountFaultsBy (Fault Write) before now = (before.reads ≤ now.reads) × (before.writes < now.writes)

abbrev pub HasCountFaults : Faults → Faults → Result Count OutOfMemory → Type 0
HasCountFaults before now (Ok count) = CountFaultsBy count before now
HasCountFaults before now (Err why) = now ≡ before
