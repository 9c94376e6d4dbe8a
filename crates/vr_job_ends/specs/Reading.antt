-- What the input of a job comes to: the job that its text is, or how the job ends without it.
use Rattle.std.specs.Prelude.{◌≡◌, ◌<◌, ◌^◌, ℕ, IfSome, List, Option, length}
use Rattle.vr_deck_text.specs.Deck.{cause_number as deck_number}
use Rattle.vr_amsparse_grammar.specs.Cause.{cause_number as ams_number}
use Rattle.vr_job_text.specs.Fault.{cause_number as card_number, scan_number}
use Rattle.vr_job_text.specs.Job.{IsRefused, IsRunJob}
use Rattle.vr_job_text.specs.declared.fault.Kind.{Kind}
use Rattle.vr_job_text.specs.declared.fault.Kind.TheVariants as kinds
use Rattle.vr_job_text.specs.declared.fault.TextFault.{TextFault}
use Rattle.vr_job_text.specs.declared.fault.JobFault.{JobFault}
use Rattle.vr_job_text.specs.declared.fault.JobFault.TheVariants as faults
use Rattle.vr_job_text.specs.declared.job.Job.{Job}
use Rattle.vr_trace.specs.declared.ending.EndLine.{EndLine}
use Rattle.vr_trace.specs.declared.ending.EndLine.TheVariants.{NoCommand, ReadFault, InputTooLong}
use Rattle.vr_trace.specs.declared.ending.EndLine.TheVariants.{Refused, DeviceFault, Damaged}
use Rattle.vr_trace.specs.declared.ending.EndLine.TheVariants.{Version, Geometry, Shelf}
use Rattle.vr_trace.specs.declared.ending.EndLine.TheVariants.{StampsUsedUp, Formatted, NoMemory}
use Rattle.vr_trace.specs.declared.ending.TextKind.{TextKind}
use Rattle.vr_trace.specs.declared.ending.TextKind.TheVariants as shown
use Rattle.vr_job_ends.specs.declared.input.InputFault.{InputFault}
use Rattle.vr_job_ends.specs.declared.input.InputFault.TheVariants.{Memory, Read, TooLong}
use Rattle.vr_job_ends.specs.Input.{IsAll}

-- what is shown of a fault of the text, or of what isn't run of it
abbrev pub kind_shown : Kind → TextKind
kind_shown (kinds.Card cause) = shown.Card (card_number cause)
kind_shown (kinds.Scan cause) = shown.Scan (scan_number cause)
kind_shown (kinds.Ams cause) = shown.Ams (ams_number cause)
kind_shown (kinds.Deck cause) = shown.Deck (deck_number cause)
kind_shown kinds.Form = shown.Form

abbrev pub line_of : TextFault → EndLine
line_of fault = Refused (kind_shown fault.kind) fault.line fault.column

-- The input was read to its end, and its text is this job, which is run.
pub record IsJobRead (left left' : Option (List ℕ)) (faults faults' : ℕ) (job : Job) : Type 0 where
  pub text : List ℕ
  pub all : IsAll left left' text
  pub is : IsRunJob text job
  pub steady : faults' ≡ faults

-- It was read to its end, and this is what is shown of the first fault of its text, or where it has
-- none, of what isn't run of it.
pub record IsTextRefused (left left' : Option (List ℕ)) (faults faults' : ℕ) (line : EndLine)
    : Type 0 where
  pub text : List ℕ
  pub all : IsAll left left' text
  pub fault : TextFault
  pub refused : IsRefused text fault
  pub shown : line ≡ line_of fault
  pub steady : faults' ≡ faults

-- When the job ends with a line before its text is known. Memory may run out at any time.
abbrev pub IsInputEnd : Option (List ℕ) → Option (List ℕ) → ℕ → ℕ → EndLine → Type 0
IsInputEnd left left' faults faults' ReadFault = faults < faults'
IsInputEnd left left' faults faults' InputTooLong =
    IfSome left (λ all. 2 ^ 26 < length all) × (faults' ≡ faults)
IsInputEnd left left' faults faults' (Refused kind line column) =
    IsTextRefused left left' faults faults' (Refused kind line column)
IsInputEnd left left' faults faults' NoMemory = faults' ≡ faults
IsInputEnd left left' faults faults' NoCommand = ⊥
IsInputEnd left left' faults faults' (DeviceFault volume) = ⊥
IsInputEnd left left' faults faults' (Damaged volume block rule) = ⊥
IsInputEnd left left' faults faults' (Version volume version) = ⊥
IsInputEnd left left' faults faults' (Geometry volume) = ⊥
IsInputEnd left left' faults faults' (Shelf devices) = ⊥
IsInputEnd left left' faults faults' StampsUsedUp = ⊥
IsInputEnd left left' faults faults' (Formatted volumes) = ⊥

-- the lines of faults
abbrev pub input_line : InputFault → EndLine
input_line Read = ReadFault
input_line TooLong = InputTooLong
input_line Memory = NoMemory

abbrev pub fault_line : JobFault → EndLine
fault_line (faults.Text fault) = line_of fault
fault_line faults.Memory = NoMemory
