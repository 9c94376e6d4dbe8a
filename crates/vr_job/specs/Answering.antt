-- How a volume answers to a command of IDCAMS, and when: what an event of vr_event promises of it.
-- The rules are this project's own.
use Rattle.std.specs.Prelude.{◌≡◌, ◌-◌, ◌^◌, ℕ, Bool, IsTrue, List, None, Ok, Option}
use Rattle.vr_types.specs.Faults.{Faults}
use Rattle.vr_types.specs.Seen.{Seen}
use Rattle.vr_catalog.specs.declared.entry.CatEntry.{CatEntry}
use Rattle.vr_edits.specs.declared.edit.CatalogEdit.{CatalogEdit}
use Rattle.vr_ams_define.specs.Answers.{Exchange}
use Rattle.vr_ams_define.specs.Answers.Exchange.{Counting, Defining, Editing, Reading}
use Rattle.vr_ams_define.specs.declared.answer.Changed.{Changed}
use Rattle.vr_ams_define.specs.declared.answer.Changed.TheVariants as changes
use Rattle.vr_ams_define.specs.declared.answer.Counted.{Counted}
use Rattle.vr_ams_define.specs.declared.answer.Counted.TheVariants as numbers
use Rattle.vr_ams_define.specs.declared.answer.Defined.{Defined}
use Rattle.vr_ams_define.specs.declared.answer.Defined.TheVariants as answers
use Rattle.vr_ams_define.specs.declared.answer.ReadBack.{ReadBack}
use Rattle.vr_ams_define.specs.declared.answer.ReadBack.TheVariants as reads
use Rattle.vr_event.specs.Defining.{HasDefineFaults, utility_unit}
use Rattle.vr_event.specs.DefineSteps.{HasCome, LacksRoomWhere}
use Rattle.vr_event.specs.Counts.{AreCounts, CountedBy as CountedFor, HasCountFaults}
use Rattle.vr_event.specs.CatalogEdit.{HasEditFaults, LacksRoomWhereEdited}
use Rattle.vr_event.specs.EditSteps.{HasEditCome}
use Rattle.vr_event.specs.Reading.{HasReadFaults, ReadBy as ReadFor, first_records}
use Rattle.vr_event.specs.Volume.{IsHeld, VolumeNow}
use Rattle.vr_event.specs.declared.counts.Count.{Count}
use Rattle.vr_event.specs.declared.counts.Count.TheVariants as counts
use Rattle.vr_event.specs.declared.define.Define.{Define}
use Rattle.vr_event.specs.declared.define.Define.TheVariants as events
use Rattle.vr_event.specs.declared.edit.Edit.{Edit}
use Rattle.vr_event.specs.declared.edit.Edit.TheVariants as edits
use Rattle.vr_event.specs.declared.reading.ReadThrough.{ReadThrough}
use Rattle.vr_event.specs.declared.reading.ReadThrough.TheVariants as readings
use Rattle.vr_history.specs.State.{State}
use Rattle.vr_record_file.specs.Now.{FileNow, state_now}
use Rattle.vr_trace.specs.Visitors.{Visited}
use Rattle.vr_job.specs.Going.{WentOn}
use Rattle.vr_job.specs.Reported.{numbers_of}
use Rattle.vr_job.specs.Serving.{LeavesLess, StaysServing}

-- the answer of an event, as a command has it
abbrev pub answer_of : Define → Defined
answer_of (events.Done area) = answers.Done area
answer_of events.Again = answers.Again
answer_of events.NoArea = answers.NoArea
answer_of events.NoRoom = answers.NoRoom
answer_of events.Held = answers.Held
answer_of events.Full = answers.Full
answer_of (events.Fault fault) = answers.Fault fault

-- A definition: the volume was made ready, which enters nothing, hadn't stopped, and in one event
-- came to this answer, by the causes of the event and its count of faults. One that is to be asked
-- again waits for less.
pub record IsDefinedIn {B : Type 0} (tells : Bool) (seen : B → Seen) (faults : B → Faults)
    (old : VolumeNow B) (line : ℕ) (entry : CatEntry) (answer : Defined) (new : VolumeNow B) : Type 0
  where
    pub ready : VolumeNow B
    pub stays : StaysServing tells seen faults old ready
    pub going : ready.file.stopped ≡ None
    pub went : WentOn tells seen faults ready new
    pub after : ℕ
    pub event : Define
    pub answer_is : answer ≡ answer_of event
    pub come : HasCome seen after (utility_unit ready.file) line entry (Ok event) ready new
    pub no_room : IsTrue tells → LacksRoomWhere seen entry (Ok event) ready
    pub nearer : IsTrue tells → event ≡ events.Again → LeavesLess old new
    pub cause : HasDefineFaults (faults ready.blocks) (faults new.blocks) (Ok event)

-- what an event counted, as a command has it
abbrev pub counted_of : Count → Counted
counted_of (counts.Counted found) = numbers.Done (numbers_of found)
counted_of (counts.Fault fault) = numbers.Fault fault

-- what an event counted is what the state has that the history gives
abbrev pub IsCountOf : Count → CatEntry → State → FileNow → Type 0
IsCountOf (counts.Counted found) entry opening file =
    AreCounts (state_now opening file) file.entries entry found
IsCountOf (counts.Fault fault) entry opening file = Unit {0}

-- A count: so it was made ready, and counted in one event.
pub record IsCountedIn {B : Type 0} (tells : Bool) (seen : B → Seen) (faults : B → Faults)
    (old : VolumeNow B) (line : ℕ) (entry : CatEntry) (counted : Counted) (new : VolumeNow B)
    : Type 0 where
  pub ready : VolumeNow B
  pub stays : StaysServing tells seen faults old ready
  pub went : WentOn tells seen faults ready new
  pub after : ℕ
  pub event : Count
  pub counted_is : counted ≡ counted_of event
  pub entered : CountedFor event after (utility_unit ready.file) line ready.file new.file
  pub found : IsTrue tells → (opening : State) → IsHeld seen opening ready
      → IsCountOf event entry opening ready.file
  pub cause : HasCountFaults (faults ready.blocks) (faults new.blocks) (Ok event)

-- what an event that read a cluster through came to, as its command has it
abbrev pub read_back_of : ReadThrough → ReadBack
read_back_of readings.Done = reads.Done
read_back_of (readings.Fault fault) = reads.Fault fault

-- what an event handed over are the records of the state that the history gives, from the place on
abbrev pub IsReadOf : ReadThrough → CatEntry → Option (List ℕ) → List Visited → State → FileNow
    → Type 0
IsReadOf readings.Done entry from records opening file = records
    ≡ first_records (2 ^ 64 - 1) from ((state_now opening file).contents entry.part.0)
IsReadOf (readings.Fault fault) entry from records opening file = Unit {0}

-- Reading through: so it was made ready, and read in one event.
pub record IsReadIn {B : Type 0} (tells : Bool) (seen : B → Seen) (faults : B → Faults)
    (old : VolumeNow B) (line : ℕ) (entry : CatEntry) (from : Option (List ℕ))
    (records : List Visited) (answer : ReadBack) (new : VolumeNow B) : Type 0 where
  pub ready : VolumeNow B
  pub stays : StaysServing tells seen faults old ready
  pub went : WentOn tells seen faults ready new
  pub after : ℕ
  pub event : ReadThrough
  pub answer_is : answer ≡ read_back_of event
  pub entered : ReadFor event after (utility_unit ready.file) line ready.file new.file
  pub found : IsTrue tells → (opening : State) → IsHeld seen opening ready
      → IsReadOf event entry from records opening ready.file
  pub cause : HasReadFaults (faults ready.blocks) (faults new.blocks) (Ok event)

-- what an event of an edit came to, as its command has it
abbrev pub changed_of : Edit → Changed
changed_of edits.Done = changes.Done
changed_of edits.Again = changes.Again
changed_of edits.NoRoom = changes.NoRoom
changed_of edits.Held = changes.Held
changed_of edits.Live = changes.Live
changed_of edits.Full = changes.Full
changed_of (edits.Fault fault) = changes.Fault fault

-- An edit of the catalog: so it was made ready, and in one event came to this answer.
pub record IsEditedIn {B : Type 0} (tells : Bool) (seen : B → Seen) (faults : B → Faults)
    (old : VolumeNow B) (line : ℕ) (edit : CatalogEdit) (answer : Changed) (new : VolumeNow B)
    : Type 0 where
  pub ready : VolumeNow B
  pub stays : StaysServing tells seen faults old ready
  pub going : ready.file.stopped ≡ None
  pub went : WentOn tells seen faults ready new
  pub after : ℕ
  pub event : Edit
  pub answer_is : answer ≡ changed_of event
  pub come : HasEditCome seen after (utility_unit ready.file) line edit (Ok event) ready new
  pub no_room : IsTrue tells → LacksRoomWhereEdited seen edit (Ok event) ready
  pub nearer : IsTrue tells → event ≡ edits.Again → LeavesLess old new
  pub cause : HasEditFaults (faults ready.blocks) (faults new.blocks) (Ok event)

abbrev pub IsAnswered : {B : Type 0} → Bool → (B → Seen) → (B → Faults) → VolumeNow B → ℕ
    → Exchange → VolumeNow B → Type 0
IsAnswered tells seen faults old line (Defining entry answer) new =
    IsDefinedIn tells seen faults old line entry answer new
IsAnswered tells seen faults old line (Counting entry counted) new =
    IsCountedIn tells seen faults old line entry counted new
IsAnswered tells seen faults old line (Editing edit answer) new =
    IsEditedIn tells seen faults old line edit answer new
IsAnswered tells seen faults old line (Reading entry from records answer) new =
    IsReadIn tells seen faults old line entry from records answer new
