-- What the steps of IDCAMS of a job report, by what the volumes had as each of them ran. The rules
-- are this project's own.
use Rattle.std.specs.Prelude.{◌≡◌, ◌≢◌, ◌≤◌, ◌+◌, ◌-◌, ◌^◌, ◌∷◌, ◌++◌, ℕ, All, Bool, IsTrue, List, [], None}
use Rattle.std.specs.Prelude.{Contains, Option, Some, drop, length, slice_get, take}
use Rattle.vr_types.specs.LogSpace.{IsLogFull, log_size}
use Rattle.vr_types.specs.Locks.{Lock, first_conflict}
use Rattle.vr_types.specs.declared.request.Request.TheVariants.{Commit}
use Rattle.vr_types.specs.declared.unit.Mode.TheVariants.{Exclusive}
use Rattle.vr_types.specs.declared.unit.Unit.{Unit as UnitOfRecovery}
use Rattle.vr_history.specs.Legal.{state_of}
use Rattle.vr_history.specs.RefusedRoom.{free_areas}
use Rattle.vr_history.specs.State.{State}
use Rattle.vr_history.specs.Step.{case_of}
use Rattle.vr_record_file.specs.CatalogEdit.{RecordChange}
use Rattle.vr_record_file.specs.Defining.{entry_name, need_to_define}
use Rattle.vr_event.specs.Counts.{AreCounts}
use Rattle.vr_event.specs.Defining.{entry_place}
use Rattle.vr_event.specs.CatalogEdit.{changes_of, entry_added, log_for_edit}
use Rattle.vr_event.specs.Reading.{first_records}
use Rattle.vr_event.specs.declared.counts.Counts.{Counts}
use Rattle.vr_trace.specs.declared.statistics.Statistics.{Statistics}
use Rattle.vr_ams_define.specs.Answers.{Exchange, IsShownAfter, IsShownCounted, IsShownRead}
use Rattle.vr_ams_define.specs.Answers.Exchange.{Counting, Defining, Editing, Reading}
use Rattle.vr_ams_define.specs.Edited.{IsShownEdited}
use Rattle.vr_ams_define.specs.declared.answer.Changed.{Changed}
use Rattle.vr_ams_define.specs.declared.answer.Changed.TheVariants as changes
use Rattle.vr_ams_define.specs.declared.answer.Counted.{Counted}
use Rattle.vr_ams_define.specs.declared.answer.Counted.TheVariants as counts
use Rattle.vr_ams_define.specs.declared.answer.Defined.{Defined}
use Rattle.vr_ams_define.specs.declared.answer.Defined.TheVariants.{Again, Done, Fault, Full, Held}
use Rattle.vr_ams_define.specs.declared.answer.Defined.TheVariants.{NoArea, NoRoom}
use Rattle.vr_ams_define.specs.declared.answer.ReadBack.{ReadBack}
use Rattle.vr_ams_define.specs.declared.answer.ReadBack.TheVariants as reads
use Rattle.vr_ams_define.specs.Grown.{IsOfCommand}
use Rattle.vr_ams_define.specs.NewCluster.{with_area}
use Rattle.vr_ams_run.specs.Running.{IsReport}
use Rattle.vr_trace.specs.Shown.{Shown}
use Rattle.vr_trace.specs.Visitors.{Visited}
use Rattle.vr_types.specs.declared.fault.DeviceFault.TheVariants.{Read, Write}
use Rattle.vr_types.specs.declared.geometry.Geometry.{Geometry}
use Rattle.vr_catalog.specs.Record.{spelling}
use Rattle.vr_catalog.specs.declared.entry.CatEntry.{CatEntry}
use Rattle.vr_edits.specs.declared.edit.CatalogEdit.{CatalogEdit}
use Rattle.vr_history.specs.declared.entry.Entry.{Entry}
use Rattle.vr_job_text.specs.declared.job.JobStep.{JobStep}
use Rattle.vr_job_text.specs.declared.job.JobStep.TheVariants.{Decks, Utilities}
use Rattle.vr_job_text.specs.declared.job.UtilityStep.{UtilityStep}
use Rattle.vr_trace.specs.declared.report.StepReport.{StepReport}
use Rattle.vr_worker.specs.Steps.{AreOfSteps}
use Rattle.vr_job.specs.Catalogs.{catalog_by}
use Rattle.vr_job.specs.Definitions.{IsDefinition, IsEdit}
pub use Rattle.vr_job.specs.Definitions.{IsCatalogStage}
use Rattle.vr_job.specs.Events.{IsStop}
use Rattle.vr_job.specs.Faultless.{has_stopped}

-- ---- a volume between two commands

-- A volume as commands have it: its shape, the state in which it was opened, what is shown of it,
-- and its history so far.
pub record VolumeAt : Type 0 where
  pub geometry : Geometry
  pub opening : State
  pub shown : Shown
  pub entries : List Entry

abbrev pub shape_at : VolumeAt → Geometry
shape_at at = at.geometry

abbrev pub shown_at : VolumeAt → Shown
shown_at at = at.shown

-- the state that its history so far gives
abbrev pub state_at : VolumeAt → State
state_at at = state_of at.geometry at.opening at.entries

-- A volume of a job: its shape, the state in which it was opened, its catalog then, and its history
-- at the end.
pub record VolumeFrom : Type 0 where
  pub geometry : Geometry
  pub opening : State
  pub catalog : List CatEntry
  pub entries : List Entry

-- Some first entries of a history are those of these steps, and the rest those of the steps after.
pub record IsCutAt (before after : List JobStep) (entries first : List Entry) : Type 0 where
  pub rest : List Entry
  pub entries_are : entries ≡ first ++ rest
  pub of_before : AreOfSteps before first
  pub of_after : AreOfSteps after rest

-- A volume of a job as the steps before left it: the entries of its catalog are those that they
-- made them, and it has stopped where they show it.
pub record IsVolumeAt (before after : List JobStep) (from : VolumeFrom) (at : VolumeAt) : Type 0
  where
    pub shape_is : at.geometry ≡ from.geometry
    pub opening_is : at.opening ≡ from.opening
    pub cut : IsCutAt before after from.entries at.entries
    pub catalog_is : at.shown.catalog ≡ catalog_by from.catalog at.entries
    pub stopped_is : at.shown.stopped ≡ has_stopped at.entries

-- ---- how a volume answers, by what it enters

-- The definition of the entry with that area is entered where it is done, stages of the catalog
-- where it is to be asked again, a stop where a write failed, and nothing where it is refused.
abbrev pub DefinedBy : Defined → CatEntry → List Entry → Type 0
DefinedBy (Done area) entry made =
    IsDefinition entry.part area (spelling (with_area area entry)) made
DefinedBy Again entry made = All IsCatalogStage made
DefinedBy NoArea entry made = made ≡ []
DefinedBy NoRoom entry made = made ≡ []
DefinedBy Held entry made = made ≡ []
DefinedBy Full entry made = made ≡ []
DefinedBy (Fault Read) entry made = made ≡ []
DefinedBy (Fault Write) entry made = IsStop made

-- Counting enters nothing, but a stop where a write failed.
abbrev pub CountedBy : Counted → List Entry → Type 0
CountedBy (counts.Done numbers) made = made ≡ []
CountedBy (counts.Fault Read) made = made ≡ []
CountedBy (counts.Fault Write) made = IsStop made

-- So does reading through.
abbrev pub ReadBy : ReadBack → List Entry → Type 0
ReadBy reads.Done made = made ≡ []
ReadBy (reads.Fault Read) made = made ≡ []
ReadBy (reads.Fault Write) made = IsStop made

-- The edit is entered where it is done, stages of the catalog where it is to be asked again, a stop
-- where a write failed, and nothing where it is refused.
abbrev pub EditedBy : Changed → CatalogEdit → List Entry → Type 0
EditedBy changes.Done edit made = IsEdit edit made
EditedBy changes.Again edit made = All IsCatalogStage made
EditedBy changes.NoRoom edit made = made ≡ []
EditedBy changes.Held edit made = made ≡ []
EditedBy changes.Live edit made = made ≡ []
EditedBy changes.Full edit made = made ≡ []
EditedBy (changes.Fault Read) edit made = made ≡ []
EditedBy (changes.Fault Write) edit made = IsStop made

abbrev pub MadeBy : Exchange → List Entry → Type 0
MadeBy (Defining entry answer) made = DefinedBy answer entry made
MadeBy (Counting entry counted) made = CountedBy counted made
MadeBy (Editing edit answer) made = EditedBy answer edit made
MadeBy (Reading entry from records answer) made = ReadBy answer made

-- ---- and by the state that its history gives

-- the unit of recovery of the utilities, which are deck 0
abbrev pub utility_unit_in : State → UnitOfRecovery
utility_unit_in state = record { deck = 0; number = state.numbers 0 }

-- how many areas of a volume no part has
abbrev pub areas_free : Geometry → State → ℕ
areas_free geometry state = free_areas (case_of geometry state (utility_unit_in state) Commit)

-- Why a definition is refused: no area is free; a lock of a unit is on the place of the record; the
-- log has no room for the change; or, where neither of these two is so, the catalog has no room for
-- the record, which its blocks show.
abbrev pub DefineCause : Defined → CatEntry → VolumeAt → Type 0
DefineCause NoArea entry at = areas_free at.geometry (state_at at) ≡ 0
DefineCause Held entry at = first_conflict (state_at at).locks (utility_unit_in (state_at at))
    Exclusive (entry_name (entry_place entry)) ≢ None
DefineCause Full entry at =
    IsLogFull at.geometry (state_at at).used (need_to_define (entry_place entry))
DefineCause NoRoom entry at = (first_conflict (state_at at).locks
    (utility_unit_in (state_at at)) Exclusive (entry_name (entry_place entry)) ≡ None)
    × ((state_at at).used + need_to_define (entry_place entry) ≤ log_size at.geometry)
DefineCause answer entry at = Unit {0}

-- what is counted, as a command shows it
abbrev pub numbers_of : Counts → Statistics
numbers_of counts = record {
  records = counts.records;
  areas = counts.areas;
  interval_splits = counts.interval_splits;
  area_splits = counts.area_splits;
}

-- The numbers are those of the state.
abbrev pub CountCause : Counted → CatEntry → VolumeAt → Type 0
CountCause (counts.Done numbers) entry at = (counts : Counts)
    × AreCounts (state_at at) at.entries entry counts × (numbers ≡ numbers_of counts)
CountCause (counts.Fault fault) entry at = Unit {0}

-- The records are those of the state, from the place on, as far as a number of 64 bits counts them.
abbrev pub ReadCause : ReadBack → CatEntry → Option (List ℕ) → List Visited → VolumeAt → Type 0
ReadCause reads.Done entry from records at =
    records ≡ first_records (2 ^ 64 - 1) from ((state_at at).contents entry.part.0)
ReadCause (reads.Fault fault) entry from records at = Unit {0}

-- the lock of a unit that is in the way of a change of a record, where there is one
abbrev pub conflict_at : VolumeAt → RecordChange → Option Lock
conflict_at at change = first_conflict (state_at at).locks (utility_unit_in (state_at at)) Exclusive
    (entry_name change.place)

-- Why an edit is refused: a unit of recovery is live; a lock is on the place of one of its records;
-- the log has no room for it; or, where none of these is so, the catalog has no room for the record
-- of the entry that it adds, which its blocks show.
abbrev pub EditCause : Changed → CatalogEdit → VolumeAt → Type 0
EditCause changes.Live edit at = (state_at at).logged ≢ []
EditCause changes.Held edit at = (change : RecordChange) × Contains (changes_of edit) change
    × (conflict_at at change ≢ None)
EditCause changes.Full edit at = IsLogFull at.geometry (state_at at).used (log_for_edit edit)
EditCause changes.NoRoom edit at = ((entry : CatEntry) × (entry_added edit ≡ Some entry))
    × All (λ (change : RecordChange). conflict_at at change ≡ None) (changes_of edit)
    × ((state_at at).used + log_for_edit edit ≤ log_size at.geometry)
EditCause answer edit at = Unit {0}

abbrev pub CauseBy : Exchange → VolumeAt → Type 0
CauseBy (Defining entry answer) at = DefineCause answer entry at
CauseBy (Counting entry counted) at = CountCause counted entry at
CauseBy (Editing edit answer) at = EditCause answer edit at
CauseBy (Reading entry from records answer) at = ReadCause answer entry from records at

-- what a volume shows then
abbrev pub IsShownBy : Exchange → Shown → Shown → Type 0
IsShownBy (Defining entry answer) old new = IsShownAfter answer entry old new
IsShownBy (Counting entry counted) old new = IsShownCounted counted old new
IsShownBy (Editing edit answer) old new = IsShownEdited answer edit old new
IsShownBy (Reading entry from records answer) old new = IsShownRead answer old new

-- What it enters is the utilities' own, on the line of the command; it shows what its answer leaves,
-- and has the shape and the opening that it had; and where the device reports its contents, the
-- answer has its cause.
pub record AnswersBy (tells : Bool) (old : VolumeAt) (line : ℕ) (exchange : Exchange)
    (new : VolumeAt) : Type 0 where
  pub made : List Entry
  pub entries_are : new.entries ≡ old.entries ++ made
  pub own : All (IsOfCommand line) made
  pub by : MadeBy exchange made
  pub shown_is : IsShownBy exchange old.shown new.shown
  pub shape_is : new.geometry ≡ old.geometry
  pub opening_is : new.opening ≡ old.opening
  pub cause : IsTrue tells → CauseBy exchange old

-- ---- reports

-- each of these is of the volume at its place
pub record AreVolumesAt (before after : List JobStep) (froms : List VolumeFrom)
    (volumes : List VolumeAt) : Type 0 where
  pub count : length volumes ≡ length froms
  pub each : (place : ℕ) (from : VolumeFrom) (at : VolumeAt) → slice_get froms place ≡ Some from
      → slice_get volumes place ≡ Some at → IsVolumeAt before after from at

-- The report of a step of IDCAMS is that of its commands, over the volumes as the steps before it
-- left them, and it left them so.
pub record IsReportOf (tells : Bool) (before : List JobStep) (step : UtilityStep)
    (after : List JobStep) (froms : List VolumeFrom) (report : StepReport) : Type 0 where
  pub volumes : List VolumeAt
  pub volumes_are : AreVolumesAt before (Utilities step ∷ after) froms volumes
  pub left : List VolumeAt
  pub left_are : AreVolumesAt (before ++ Utilities step ∷ []) after froms left
  pub is : IsReport shown_at shape_at (AnswersBy tells) step.commands volumes left report

-- The steps of IDCAMS that ran have these reports, in order, where these steps came before.
abbrev pub AreReportedFrom : Bool → List JobStep → List VolumeFrom → List JobStep
    → List StepReport → Type 0
AreReportedFrom tells before froms [] reports = reports ≡ []
AreReportedFrom tells before froms (Decks step ∷ steps) reports =
    AreReportedFrom tells (before ++ Decks step ∷ []) froms steps reports
AreReportedFrom tells before froms (Utilities step ∷ steps) [] = Unit {0}
AreReportedFrom tells before froms (Utilities step ∷ steps) (report ∷ reports) =
    IsReportOf tells before step steps froms report
    × AreReportedFrom tells (before ++ Utilities step ∷ []) froms steps reports

-- ---- the catalogs by which decks are bound

-- The catalog of a volume with this history as so many first steps left it.
pub record IsCatalogAt (number : ℕ) (steps : List JobStep) (catalog : List CatEntry)
    (entries : List Entry) (then : List CatEntry) : Type 0 where
  pub first : List Entry
  pub cut : IsCutAt (take number steps) (drop number steps) entries first
  pub is : then ≡ catalog_by catalog first

-- The catalogs of each number are those of the volumes, each at its place, as so many first steps
-- left them.
pub record AreBound (steps : List JobStep) (catalogs : List (List CatEntry))
    (histories : List (List Entry)) (by : ℕ → List (List CatEntry)) : Type 0 where
  pub count : (number : ℕ) → length (by number) ≡ length histories
  pub each : (number place : ℕ) (catalog then : List CatEntry) (entries : List Entry)
      → slice_get catalogs place ≡ Some catalog → slice_get histories place ≡ Some entries
      → slice_get (by number) place ≡ Some then → IsCatalogAt number steps catalog entries then
