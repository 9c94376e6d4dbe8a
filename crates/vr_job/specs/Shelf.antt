-- The volumes of a shelf as they are opened, run and closed, one after another. The rules are this
-- project's own.
use Rattle.std.specs.Prelude.{◌≡◌, ◌+◌, ℕ, Bool, List, [], ◌∷◌, ◌++◌, Option, Some, None, Ok, Err}
use Rattle.std.specs.Prelude.{Result, IsErr, IsErrOf, IsTrue, length, map, slice_get, true, false}
use Rattle.vr_types.specs.Faults.{Faults}
use Rattle.vr_types.specs.Seen.{Seen}
use Rattle.vr_types.specs.declared.fault.Failed.{Failed}
use Rattle.vr_types.specs.declared.geometry.Geometry.{Geometry}
use Rattle.vr_catalog.specs.declared.entry.CatEntry.{CatEntry}
use Rattle.vr_history.specs.State.{State}
use Rattle.vr_history.specs.declared.entry.Entry.{Entry}
use Rattle.vr_event.specs.Volume.{VolumeNow}
use Rattle.vr_job_text.specs.declared.job.JobStep.{JobStep}
use Rattle.vr_worker.specs.Reports.{HaveRunSteps}
use Rattle.vr_worker.specs.Steps.{AreGapless, AreSinceSteps, ComeInSteps}
use Rattle.vr_trace.specs.declared.ending.EndLine.{EndLine}
use Rattle.vr_trace.specs.declared.report.StepReport.{StepReport}
use Rattle.vr_job_ends.specs.declared.job_end.End.{End}
use Rattle.vr_job_ends.specs.declared.job_end.End.TheVariants.{Line, Ran, Unsynced}
use Rattle.vr_worker.specs.Decks.{HasUsedUp}
use Rattle.vr_trace.specs.declared.no.RunNo.{RunNo}
use Rattle.vr_trace.specs.declared.no.RunNo.TheVariants as nos
use Rattle.vr_job.specs.Answering.{IsAnswered}
use Rattle.vr_job.specs.Going.{Follows}
use Rattle.vr_job.specs.Serving.{shown_of}
use Rattle.vr_job.specs.ShelfRun.{run_line}
use Rattle.vr_job.specs.VolumeRun.{IsClosed, IsNotOpen, IsOpen, opening_of}

abbrev pub Answer : Type 0
Answer = Result (Unit {0}) EndLine

-- a volume that was opened on a device, and the state in which it was
pub record Opening (D : Type 0) : Type 0 where
  pub device : D
  pub state : State
  pub volume : VolumeNow D

-- It was opened so, and where the device reports its contents in this state.
pub record IsOpenAs {D : Type 0} (tells : Bool) (seen : D → Seen) (faults : D → Faults) (number : ℕ)
    (one : Opening D) : Type 0 where
  pub on : IsOpen tells seen faults number one.device one.volume
  pub state_is : (told : IsTrue tells) → one.state
      ≡ opening_of (on.held told).contents (on.held told).owners

abbrev pub AreOpen : {D : Type 0} → Bool → (D → Seen) → (D → Faults) → ℕ → List (Opening D) → Type 0
AreOpen tells seen faults number [] = Unit {0}
AreOpen tells seen faults number (one ∷ others) =
    IsOpenAs tells seen faults number one × AreOpen tells seen faults (number + 1) others

-- what comes of the devices after those whose volumes were opened: there is none, or the first of them
-- is one whose volume was not opened, and those after it are as they were
abbrev pub IsRest : {D : Type 0} → Bool → (D → Seen) → (D → Faults) → ℕ → Answer → List D → List D
    → Type 0
IsRest tells seen faults number (Ok value) devices unopened = (devices ≡ []) × (unopened ≡ [])
IsRest {D} tells seen faults number (Err end) devices unopened =
    (device : D) × (left : D) × (after : List D) × (devices ≡ device ∷ after)
    × (unopened ≡ left ∷ after) × IsNotOpen tells seen faults number device left end

-- The volumes of the first devices were opened, and those are in order; and the rest comes last.
pub record HaveOpened {D : Type 0} (tells : Bool) (seen : D → Seen) (faults : D → Faults)
    (devices : List D) (volumes : List (VolumeNow D)) (unopened : List D) (result : Answer) : Type 0
  where
    pub first : List (Opening D)
    pub opens : AreOpen tells seen faults 0 first
    pub volumes_are : volumes ≡ map (λ (one : Opening D). one.volume) first
    pub rest : List D
    pub devices_are : devices ≡ map (λ (one : Opening D). one.device) first ++ rest
    pub rest_is : IsRest tells seen faults (length first) result rest unopened

-- the next volume was opened, and is the last of those that are; or it was not, and its device is the
-- last of those that are handed back
abbrev pub HasOpenedNext : {D : Type 0} → Bool → (D → Seen) → (D → Faults) → D
    → List (VolumeNow D) → List (VolumeNow D) → List D → List D → Answer → Type 0
HasOpenedNext {D} tells seen faults device volumes volumes' unopened unopened' (Ok value) =
    (volume : VolumeNow D) × (volumes' ≡ volumes ++ volume ∷ []) × (unopened' ≡ unopened)
    × IsOpen tells seen faults (length volumes) device volume
HasOpenedNext {D} tells seen faults device volumes volumes' unopened unopened' (Err end) =
    (left : D) × (unopened' ≡ unopened ++ left ∷ []) × (volumes' ≡ volumes)
    × IsNotOpen tells seen faults (length volumes) device left end

-- so it was where all before it are open; else its device is handed back as it is
abbrev pub HasOpenedOrKept : {D : Type 0} → Bool → (D → Seen) → (D → Faults) → Answer → D
    → List (VolumeNow D) → List (VolumeNow D) → List D → List D → Answer → Type 0
HasOpenedOrKept tells seen faults (Ok value) device volumes volumes' unopened unopened' result =
    HasOpenedNext tells seen faults device volumes volumes' unopened unopened' result
HasOpenedOrKept tells seen faults (Err end) device volumes volumes' unopened unopened' result =
    (result ≡ Err end) × (volumes' ≡ volumes) × (unopened' ≡ unopened ++ device ∷ [])

-- As the devices are opened: those so far, and those to come.
pub record AreOpening {D : Type 0} (tells : Bool) (seen : D → Seen) (faults : D → Faults)
    (devices rest : List D) (volumes : List (VolumeNow D)) (unopened : List D) (result : Answer)
    : Type 0 where
  pub taken : List D
  pub all : taken ++ rest ≡ devices
  pub opened : HaveOpened tells seen faults taken volumes unopened result
  pub count : length volumes + length unopened ≡ length taken

-- what a volume is seen to have
abbrev pub entries_on : {D : Type 0} → VolumeNow D → List Entry
entries_on volume = volume.file.entries

abbrev pub shape_of : {D : Type 0} → VolumeNow D → Geometry
shape_of volume = volume.file.geometry

abbrev pub catalog_of : {D : Type 0} → VolumeNow D → List CatEntry
catalog_of volume = volume.file.catalog

-- The steps were run on the volumes, and those of IDCAMS have these reports.
pub record HaveRun {D : Type 0} (tells : Bool) (seen : D → Seen) (faults : D → Faults)
    (steps : List JobStep) (result : Result (Unit {0}) RunNo) (reports : List StepReport)
    (old new : List (VolumeNow D)) : Type 0
  where
    pub since : AreSinceSteps entries_on (Follows tells seen faults) steps old new
    pub in_steps : ComeInSteps steps (map entries_on new)
    pub gapless : AreGapless steps (map entries_on new)
    pub done : HaveRunSteps shown_of shape_of (IsAnswered tells seen faults) entries_on
        (Follows tells seen faults) steps result reports old new
    pub stamps : IsErrOf result nos.Stamps → HasUsedUp entries_on new

-- So they were where all are open; else they are as they were.
abbrev pub HaveRunWhere : {D : Type 0} → Bool → Bool → (D → Seen) → (D → Faults) → List JobStep
    → Result (Unit {0}) RunNo → List StepReport → List (VolumeNow D) → List (VolumeNow D) → Type 0
HaveRunWhere true tells seen faults steps result reports old new =
    HaveRun tells seen faults steps result reports old new
HaveRunWhere false tells seen faults steps result reports old new = (new ≡ old)
    × (result ≡ Err nos.Memory) × (reports ≡ [])

-- a volume that was closed: what it was, what its device came to, and its history
pub record Closing (D : Type 0) : Type 0 where
  pub volume : VolumeNow D
  pub result : Result (Unit {0}) Failed
  pub left : D
  pub entries : List Entry

pub record IsClosing {D : Type 0} (tells : Bool) (seen : D → Seen) (faults : D → Faults)
    (one : Closing D) : Type 0 where
  pub closed : IsClosed tells seen faults one.volume one.result one.left
  pub entries_are : one.entries ≡ one.volume.file.entries

abbrev pub AreClosing : {D : Type 0} → Bool → (D → Seen) → (D → Faults) → List (Closing D) → Type 0
AreClosing tells seen faults [] = Unit {0}
AreClosing tells seen faults (one ∷ others) = IsClosing tells seen faults one
    × AreClosing tells seen faults others

-- which device failed to sync, if one did
abbrev pub IsUnsynced : {D : Type 0} → List (Closing D) → Option ℕ → Type 0
IsUnsynced [] None = Unit {0}
IsUnsynced (one ∷ others) None = (one.result ≡ Ok tt) × IsUnsynced others None
IsUnsynced {D} closings (Some number) =
    (one : Closing D) × (slice_get closings number ≡ Some one) × IsErr one.result

-- the number of a volume whose device failed to sync
abbrev pub failed_at : ℕ → Result (Unit {0}) Failed → Option ℕ
failed_at number (Ok value) = None
failed_at number (Err failed) = Some number

-- the first number, where there is one, else the second
abbrev pub or_failed : Option ℕ → Option ℕ → Option ℕ
or_failed None second = second
or_failed (Some number) second = Some number

-- The next volume was closed: its device and its history are the last.
pub record HasClosedNext {D : Type 0} (tells : Bool) (seen : D → Seen) (faults : D → Faults)
    (volume : VolumeNow D) (shelf shelf' : List D) (histories histories' : List (List Entry))
    (unsynced : Option ℕ) : Type 0 where
  pub one : Closing D
  pub volume_is : one.volume ≡ volume
  pub closing : IsClosing tells seen faults one
  pub shelf_is : shelf' ≡ shelf ++ one.left ∷ []
  pub histories_is : histories' ≡ histories ++ one.entries ∷ []
  pub unsynced_is : unsynced ≡ failed_at (length shelf) one.result

-- Each volume was closed, and its device and its history are at its place.
pub record HaveClosed {D : Type 0} (tells : Bool) (seen : D → Seen) (faults : D → Faults)
    (volumes : List (VolumeNow D)) (shelf : List D) (histories : List (List Entry))
    (unsynced : Option ℕ) : Type 0 where
  pub each : List (Closing D)
  pub closing : AreClosing tells seen faults each
  pub volumes_are : volumes ≡ map (λ (one : Closing D). one.volume) each
  pub shelf_is : shelf ≡ map (λ (one : Closing D). one.left) each
  pub histories_are : histories ≡ map (λ (one : Closing D). one.entries) each
  pub unsynced_is : IsUnsynced each unsynced

-- How a job ends: by a volume that wasn't opened, as its requests came to, or by the first device that
-- failed to sync.
abbrev pub end_of : Answer → Result (Unit {0}) RunNo → Option ℕ → End
end_of (Err line) asked unsynced = Line line
end_of (Ok opened) (Err fault) unsynced = Line (run_line fault)
end_of (Ok opened) (Ok value) (Some volume) = Unsynced volume
end_of (Ok opened) (Ok value) None = Ran

-- As the volumes are closed: those so far, and those to come.
pub record AreBeingClosed {D : Type 0} (tells : Bool) (seen : D → Seen) (faults : D → Faults)
    (volumes rest : List (VolumeNow D)) (shelf : List D) (histories : List (List Entry))
    (unsynced : Option ℕ) : Type 0 where
  pub taken : List (VolumeNow D)
  pub all : taken ++ rest ≡ volumes
  pub closed : HaveClosed tells seen faults taken shelf histories unsynced
