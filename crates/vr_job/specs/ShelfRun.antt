-- The run of a job on the volumes of the devices of a shelf, from their opening to the end. The rules
-- are this project's own.
use Rattle.std.specs.Prelude.{◌≡◌, ◌<◌, ◌+◌, ℕ, Bool, List, [], ◌∷◌, Result, Ok, Err}
use Rattle.std.specs.Prelude.{IsOk, IsTrue, OnOk, Some, length, map, slice_get}
use Rattle.vr_types.specs.Faults.{Faults}
use Rattle.vr_types.specs.Seen.{Seen}
use Rattle.vr_types.specs.declared.geometry.Geometry.{Geometry}
use Rattle.vr_catalog.specs.declared.entry.CatEntry.{CatEntry}
use Rattle.vr_history.specs.declared.entry.Entry.{Entry}
use Rattle.vr_job_text.specs.declared.job.JobStep.{JobStep}
use Rattle.vr_trace.specs.declared.report.StepReport.{StepReport}
use Rattle.vr_worker.specs.Decks.{IsUsedUp}
use Rattle.vr_worker.specs.Steps.{AreGapless, ComeInSteps, HasAsked}
use Rattle.vr_job_ends.specs.declared.job_end.End.{End}
use Rattle.vr_job_ends.specs.declared.job_end.End.TheVariants.{Line, Ran, Unsynced}
use Rattle.vr_trace.specs.declared.ending.EndLine.{EndLine}
use Rattle.vr_trace.specs.declared.ending.EndLine.TheVariants.{NoMemory, StampsUsedUp}
use Rattle.vr_trace.specs.declared.no.RunNo.{RunNo}
use Rattle.vr_trace.specs.declared.no.RunNo.TheVariants as nos
use Rattle.vr_job.specs.OpenEnds.{IsOpenLine}
use Rattle.vr_worker.specs.Reports.{utility_count}
use Rattle.vr_history.specs.State.{State}
use Rattle.vr_job.specs.Reported.{AreBound, AreReportedFrom, VolumeFrom}
use Rattle.vr_job.specs.VolumeRun.{IsRunFrom, IsUnopened, IsVolumeRun}

-- how a job ends whose requests weren't all answered
abbrev pub run_line : RunNo → EndLine
run_line nos.Stamps = StampsUsedUp
run_line nos.Memory = NoMemory

abbrev pub run_end : Result (Unit {0}) RunNo → End
run_end (Ok value) = Ran
run_end (Err fault) = Line (run_line fault)

-- A volume of a run: its shape, the state in which it was opened, its catalog then, its history,
-- and its device before, as the requests left it before it was closed (of a volume that was not
-- opened, as it came back), and as it came back.
pub record VolumeOf (D : Type 0) : Type 0 where
  pub geometry : Geometry
  pub opening : State
  pub catalog : List CatEntry
  pub entries : List Entry
  pub device : D
  pub ended : D
  pub left : D

-- what reports speak of
abbrev pub volume_from : {D : Type 0} → VolumeOf D → VolumeFrom
volume_from volume = record {
  geometry = volume.geometry;
  opening = volume.opening;
  catalog = volume.catalog;
  entries = volume.entries;
}

-- Each volume was run, the first of them having this number.
abbrev pub AreVolumeRuns : {D : Type 0} → Bool → (D → Seen) → (D → Faults) → List JobStep → End
    → ℕ
    → List (VolumeOf D) → Type 0
AreVolumeRuns tells seen faults steps end number [] = Unit {0}
AreVolumeRuns tells seen faults steps end number (volume ∷ volumes) =
    IsVolumeRun tells seen faults number steps volume.geometry volume.opening volume.catalog end
    volume.entries volume.device volume.ended volume.left
    × AreVolumeRuns tells seen faults steps end (number + 1) volumes

-- Each volume, the first of them having this number, was opened, run and closed.
abbrev pub WereRun : {D : Type 0} → Bool → (D → Seen) → (D → Faults) → End → ℕ → List (VolumeOf D)
    → Type 0
WereRun tells seen faults end number [] = Unit {0}
WereRun tells seen faults end number (volume ∷ volumes) =
    IsRunFrom tells seen faults number volume.geometry volume.opening volume.catalog end
    volume.entries volume.device volume.ended volume.left
    × WereRun tells seen faults end (number + 1) volumes

-- the volume of this number
abbrev pub IsAt : {D : Type 0} → ℕ → VolumeOf D → List (VolumeOf D) → Type 0
IsAt number volume volumes = slice_get volumes number ≡ Some volume

-- nothing was entered in the histories of the volumes
abbrev pub AreEmpty : {D : Type 0} → List (VolumeOf D) → Type 0
AreEmpty [] = Unit {0}
AreEmpty (volume ∷ volumes) = (volume.entries ≡ []) × AreEmpty volumes

-- How a job ends, by what its requests came to: as they did; or all were answered and the device of
-- a volume failed to sync as it was closed, which was counted then; and then all volumes were opened
-- and run. Or a volume was not opened, which its blocks show where they are reported, and none was
-- asked.
pub data IsShelfEnd {D : Type 0} (tells : Bool) (seen : D → Seen) (faults : D → Faults)
    (volumes : List (VolumeOf D)) (by : Result (Unit {0}) RunNo) (end : End) : Type 0 where
  AsAsked : end ≡ run_end by → (IsTrue tells → WereRun tells seen faults end 0 volumes)
      → IsShelfEnd tells seen faults volumes by end
  ByClosing : IsOk by → (number : ℕ) (volume : VolumeOf D) → IsAt number volume volumes
      → end ≡ Unsynced number → (faults volume.ended).writes < (faults volume.left).writes
      → (IsTrue tells → WereRun tells seen faults end 0 volumes)
      → IsShelfEnd tells seen faults volumes by end
  ByOpening : (number : ℕ) (volume : VolumeOf D) (line : EndLine) → IsAt number volume volumes
      → end ≡ Line line → IsOpenLine number line
      → (IsTrue tells → IsUnopened tells number end volume.entries (seen volume.device)
      (seen volume.left))
      → AreEmpty volumes → IsShelfEnd tells seen faults volumes by end

-- The decks of the job asked what they request, those of each step by the catalogs of the volumes
-- as the steps before it left them; over all volumes the entries of one step come before those of
-- the next, and no stamp is left out; the steps of IDCAMS that ran have these reports, all of them
-- where the job came through; each volume was run; as many devices come back, each at its place,
-- and so does the history of each volume; stamps were used up only where a history shows it; and
-- so the job ended.
pub record IsShelfRun {D : Type 0} (tells : Bool) (seen : D → Seen) (faults : D → Faults)
    (steps : List JobStep) (end : End) (reports : List StepReport) (histories : List (List Entry))
    (old new : List D) : Type 0
  where
    pub volumes : List (VolumeOf D)
    pub old_are : old ≡ map (λ (volume : VolumeOf D). volume.device) volumes
    pub new_are : new ≡ map (λ (volume : VolumeOf D). volume.left) volumes
    pub histories_are : histories ≡ map (λ (volume : VolumeOf D). volume.entries) volumes
    pub runs : AreVolumeRuns tells seen faults steps end 0 volumes
    pub by : Result (Unit {0}) RunNo
    pub catalogs : ℕ → List (List CatEntry)
    pub bound : AreBound steps (map (λ (volume : VolumeOf D). volume.catalog) volumes) histories
        catalogs
    pub asked : HasAsked catalogs steps by histories
    pub in_steps : ComeInSteps steps histories
    pub gapless : AreGapless steps histories
    pub reported : AreReportedFrom tells [] (map volume_from volumes) steps reports
    pub all_reported : OnOk by (length reports ≡ utility_count steps)
    pub stamps : end ≡ Line StampsUsedUp
        → (number : ℕ) × (volume : VolumeOf D) × IsAt number volume volumes
        × IsUsedUp volume.entries
    pub ends : IsShelfEnd tells seen faults volumes by end
