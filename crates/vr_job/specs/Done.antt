-- What is done for the words of the program. The rules are this project's own.
use Rattle.std.specs.Prelude.{◌≡◌, ◌<◌, ◌≤◌, ◌⊎◌, ℕ, All, Bool, true, false, List, []}
use Rattle.std.specs.Prelude.{Option, Some, None, length, min, ◌^◌}
use Rattle.std.specs.Prelude.{◌-◌}
use Rattle.vr_types.specs.Faults.{Faults}
use Rattle.vr_types.specs.Seen.{Seen}
use Rattle.vr_job_text.specs.declared.job.Job.{Job}
use Rattle.vr_trace.specs.declared.ending.EndLine.{EndLine}
use Rattle.vr_trace.specs.declared.ending.EndLine.TheVariants.{Formatted, NoCommand, NoMemory, Shelf}
use Rattle.vr_trace.specs.declared.report.StepReport.{StepReport}
use Rattle.vr_job_ends.specs.Ends.{TakesMemory}
use Rattle.vr_job_ends.specs.Reading.{IsInputEnd, IsJobRead}
use Rattle.vr_job_ends.specs.declared.job_end.End.{End}
use Rattle.vr_job_ends.specs.declared.job_end.End.TheVariants.{Line}
use Rattle.vr_job_ends.specs.declared.job_end.Trace.{Trace}
use Rattle.vr_job.specs.Formats.{AreAllowed, AreFormatted, IsFormatEnd}
use Rattle.vr_job.specs.ShelfRun.{IsShelfRun}

-- the code of each report is 16 at most
abbrev pub AreFew : List StepReport → Type 0
AreFew reports = All (λ (report : StepReport). report.code ≤ 16) reports

-- the trace has no job, no report and no history
pub record IsNothing (trace : Trace) : Type 0 where
  pub job : trace.job ≡ None
  pub reports : trace.reports ≡ []
  pub histories : trace.histories ≡ []

-- ---- formats

-- how a format of this many volumes ends
pub data IsFormatDone {D : Type 0} (tells : Bool) (seen : D → Seen) (faults : D → Faults)
    (count log area : ℕ) (old new : List D) (end : End) : Type 0 where
  AllFormatted : end ≡ Line (Formatted count) → length old ≡ count → AreAllowed seen log area old
      → AreFormatted tells seen log area old new
      → IsFormatDone tells seen faults count log area old new end
  NotAllFormatted : (line : EndLine) → end ≡ Line line
      → IsFormatEnd tells seen faults count log area old new line
      → IsFormatDone tells seen faults count log area old new end

-- ---- runs

-- The devices as the run of a job begins: there are 1 to 16, as they were; or for a volume in memory
-- one, which was formatted with 64 blocks of log and 15 intervals an area.
abbrev pub HasBegun : {D : Type 0} → Bool → (D → Seen) → Bool → List D → List D → Type 0
HasBegun tells seen false old new = (1 ≤ length old) × (length old ≤ 16) × (new ≡ old)
HasBegun tells seen true old new = (length old ≡ 1) × AreAllowed seen 64 15 old
    × AreFormatted tells seen 64 15 old new

-- how a job ends whose run doesn't begin
abbrev pub HasNotBegun : {D : Type 0} → Bool → (D → Seen) → (D → Faults) → Bool → List D → List D
    → EndLine → Type 0
HasNotBegun tells seen faults false old new line = ((length old ≡ 0) ⊎ (16 < length old))
    × (line ≡ Shelf (length old)) × (new ≡ old)
HasNotBegun tells seen faults true old new line = IsFormatEnd tells seen faults 1 64 15 old new line

-- The job was read, and its steps were run on the volumes of the devices, from where the run began.
pub record HasRunOn {D : Type 0} (tells : Bool) (seen : D → Seen) (faults : D → Faults)
    (job : Job) (lines : Bool) (begun new : List D) (trace : Trace) (end : End) : Type 0 where
  pub kept : trace.job ≡ Some job
  pub lines_are : trace.lines ≡ lines
  pub run : IsShelfRun tells seen faults job.steps end trace.reports trace.histories begun new

-- How the run of a job comes to its end, with what the source had left and how often it had failed,
-- before and after: the run doesn't begin, and nothing is read; or the input isn't a job, or memory
-- ran out; or the job is read and its steps are run.
pub data IsRunDone {D : Type 0} (tells : Bool) (seen : D → Seen) (faults : D → Faults)
    (in_memory lines : Bool) (left left' : Option (List ℕ)) (fails fails' : ℕ) (old new : List D)
    (trace : Trace) (end : End) : Type 0 where
  NotBegun : (line : EndLine) → end ≡ Line line → IsNothing trace
      → HasNotBegun tells seen faults in_memory old new line → left' ≡ left → fails' ≡ fails
      → IsRunDone tells seen faults in_memory lines left left' fails fails' old new trace end
  NotRun : (line : EndLine) → end ≡ Line line → IsNothing trace
      → HasBegun tells seen in_memory old new → IsInputEnd left left' fails fails' line
      → IsRunDone tells seen faults in_memory lines left left' fails fails' old new trace end
  HasRun : (job : Job) (begun : List D) → HasBegun tells seen in_memory old begun
      → IsJobRead left left' fails fails' job
      → HasRunOn tells seen faults job lines begun new trace end
      → IsRunDone tells seen faults in_memory lines left left' fails fails' old new trace end

-- ---- what a job comes to

-- What is shown of how a job ended: as it did, or that memory ran out as it was printed.
abbrev pub IsShownAs : End → End → Type 0
IsShownAs end shown = (shown ≡ end) ⊎ ((shown ≡ Line NoMemory) × TakesMemory end)

-- the words are no command
pub record IsNoCommand {D : Type 0} (old new : List D) (trace : Trace) : Type 0 where
  pub nothing : IsNothing trace
  pub end_is : trace.end ≡ Line NoCommand
  pub shelf : new ≡ old

-- they ask for this many volumes to be formatted
pub record IsFormatJob {D : Type 0} (tells : Bool) (seen : D → Seen) (faults : D → Faults)
    (count log area : ℕ) (old new : List D) (trace : Trace) : Type 0 where
  pub nothing : IsNothing trace
  pub end : End
  pub shown : IsShownAs end trace.end
  pub done : IsFormatDone tells seen faults count log area old new end

-- they ask for a job to be run
pub record IsRunJob {D : Type 0} (tells : Bool) (seen : D → Seen) (faults : D → Faults)
    (in_memory lines : Bool) (left left' : Option (List ℕ)) (fails fails' : ℕ) (old new : List D)
    (trace : Trace) : Type 0 where
  pub end : End
  pub shown : IsShownAs end trace.end
  pub done : IsRunDone tells seen faults in_memory lines left left' fails fails' old new trace end

-- a number of the command as a device takes it
abbrev pub narrowed : ℕ → ℕ
narrowed stated = min stated (2 ^ 32 - 1)
