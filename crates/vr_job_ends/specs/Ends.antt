-- Which status a job ends with, and what it prints. The statuses are this project's own.
use Rattle.std.specs.Prelude.{◌≡◌, ◌⊎◌, ◌<◌, ℕ, Bool, true, false, List, [], ◌++◌}
use Rattle.std.specs.Prelude.{Option, Some, None}
use Rattle.vr_outside.specs.Told.{Takes, TakesPart}
use Rattle.vr_job_text.specs.declared.job.Job.{Job}
use Rattle.vr_trace.specs.Code.{job_code}
use Rattle.vr_trace.specs.Ends.{HasNumber, end_line_of}
use Rattle.vr_trace.specs.Listing.{listing_of}
use Rattle.vr_trace.specs.TraceLines.{trace_of}
use Rattle.vr_trace.specs.declared.ending.EndLine.{EndLine}
use Rattle.vr_trace.specs.declared.ending.EndLine.TheVariants.{NoCommand, ReadFault, InputTooLong}
use Rattle.vr_trace.specs.declared.ending.EndLine.TheVariants.{Refused, DeviceFault, Damaged}
use Rattle.vr_trace.specs.declared.ending.EndLine.TheVariants.{Version, Geometry, Shelf}
use Rattle.vr_trace.specs.declared.ending.EndLine.TheVariants.{StampsUsedUp, Formatted, NoMemory}
use Rattle.vr_trace.specs.declared.kept.KeptStep.{KeptStep}
use Rattle.vr_history.specs.declared.entry.Entry.{Entry}
use Rattle.vr_job_ends.specs.Names.{names_of}
use Rattle.vr_job_ends.specs.declared.job_end.End.{End}
use Rattle.vr_job_ends.specs.declared.job_end.End.TheVariants.{Ran, Unsynced, Line}
use Rattle.vr_job_ends.specs.declared.job_end.Trace.{Trace}

-- the status of a job that ends with a line
abbrev pub line_status : EndLine → ℕ
line_status NoCommand = 20
line_status ReadFault = 24
line_status InputTooLong = 26
line_status (Refused kind line column) = 16
line_status (DeviceFault volume) = 30
line_status (Damaged volume block rule) = 31
line_status (Version volume version) = 32
line_status (Geometry volume) = 33
line_status (Shelf devices) = 34
line_status StampsUsedUp = 35
line_status (Formatted volumes) = 0
line_status NoMemory = 36

-- what is shown of the steps of a job that ran
abbrev pub steps_shown : Option Job → List KeptStep
steps_shown None = []
steps_shown (Some job) = names_of job.steps

abbrev pub lines_shown : Bool → List (List Entry) → List ℕ
lines_shown false histories = []
lines_shown true histories = trace_of histories

-- by how it ended: the greatest code of the steps and of the reports that they left, that of a fault
-- of a device, or the status of its line
abbrev pub status_by : End → Trace → ℕ
status_by Ran trace = job_code trace.histories (steps_shown trace.job) trace.reports
status_by (Unsynced volume) trace = line_status (DeviceFault volume)
status_by (Line line) trace = line_status line

-- the listing of a job whose steps ran, and the lines of its history where they are asked for
abbrev pub listing_in : Trace → List ℕ
listing_in trace = listing_of (steps_shown trace.job) trace.reports trace.histories
    ++ lines_shown trace.lines trace.histories

abbrev pub printed_by : End → Trace → List ℕ
printed_by Ran trace = listing_in trace
printed_by (Unsynced volume) trace = listing_in trace ++ end_line_of (DeviceFault volume)
printed_by (Line line) trace = end_line_of line

-- the bytes that a job with this trace prints
abbrev pub printed_of : Trace → List ℕ
printed_of trace = printed_by trace.end trace

-- what is printed takes memory to make
abbrev pub TakesMemory : End → Type 0
TakesMemory Ran = Unit {0}
TakesMemory (Unsynced volume) = Unit {0}
TakesMemory (Line line) = HasNumber line

-- a job that came through: the sink may be why its status is another
abbrev pub IsThrough : End → Type 0
IsThrough Ran = Unit {0}
IsThrough (Line (Formatted volumes)) = Unit {0}
IsThrough (Line line) = ⊥
IsThrough (Unsynced volume) = ⊥

-- The status is that of how the job ended, or 28 where the sink failed.
abbrev pub IsStatus : ℕ → ℕ → Trace → ℕ → Type 0
IsStatus faults faults' trace status = (status ≡ status_by trace.end trace)
    ⊎ ((status ≡ 28) × IsThrough trace.end × (faults < faults'))

-- What is printed went to the sink: all of it where the sink didn't fail, else a prefix of it.
pub record IsPrinted (taken taken' : Option (List ℕ)) (faults faults' : ℕ)
    (text : List ℕ) : Type 0 where
  pub part : TakesPart taken taken' text
  pub whole : faults' ≡ faults → Takes taken taken' text
