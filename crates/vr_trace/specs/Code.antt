-- Return and condition codes. The return codes are those of Using Data Sets; the condition codes of
-- steps of decks are this project's own. Those of steps of IDCAMS come with their reports.
use Rattle.std.specs.Prelude.{ℕ, max, ◌==◌, if◌then◌else◌, List, [], ◌∷◌}
use Rattle.vr_types.specs.declared.reply.Refusal.{Refusal}
use Rattle.vr_types.specs.declared.reply.Refusal.TheVariants.{EndOfData, Duplicate, NotFound}
use Rattle.vr_types.specs.declared.reply.Refusal.TheVariants.{NoAddress, NoSpace, NoPosition, NoGet}
use Rattle.vr_types.specs.declared.reply.Refusal.TheVariants.{KeyChanged, LengthChanged, BadLength}
use Rattle.vr_types.specs.declared.reply.Refusal.TheVariants.{BadSlot, Held, LogFull, Stopped}
use Rattle.vr_types.specs.declared.reply.Refusal.TheVariants.{ReadFault, WriteFault, Memory}
use Rattle.vr_types.specs.declared.reply.Refusal.TheVariants.{NotAllowed, NoFile}
use Rattle.vr_types.specs.declared.reply.Reply.{Reply}
use Rattle.vr_types.specs.declared.reply.Reply.TheVariants.{Done, Refused}
use Rattle.vr_types.specs.Refusal.{feedback_code}
use Rattle.vr_history.specs.declared.entry.Entry.{Entry}
use Rattle.vr_history.specs.declared.entry.What.{What}
use Rattle.vr_history.specs.declared.entry.What.TheVariants.{Asked, Undone, Claimed, Split, Faulted}
use Rattle.vr_trace.specs.declared.kept.KeptDeck.{KeptDeck}
use Rattle.vr_trace.specs.declared.kept.KeptStep.{KeptStep}
use Rattle.vr_trace.specs.declared.kept.KeptStep.TheVariants.{Decks, Utilities}
use Rattle.vr_trace.specs.declared.report.StepReport.{StepReport}

-- 12 for a fault of the device, 8 for a request that was refused for another cause
abbrev pub refused_code : Refusal → ℕ
refused_code EndOfData = 8
refused_code (Duplicate part) = 8
refused_code NotFound = 8
refused_code NoAddress = 8
refused_code (NoSpace need free) = 8
refused_code NoPosition = 8
refused_code NoGet = 8
refused_code KeyChanged = 8
refused_code LengthChanged = 8
refused_code (BadLength length) = 8
refused_code BadSlot = 8
refused_code (Held holder name mode) = 8
refused_code (LogFull used need size) = 8
refused_code (Stopped stamp) = 8
refused_code ReadFault = 12
refused_code WriteFault = 12
refused_code Memory = 8
refused_code NotAllowed = 8
refused_code NoFile = 8

abbrev pub return_code : Reply → ℕ
return_code (Done feedback place bytes) = 0
return_code (Refused refusal) = refused_code refusal

abbrev pub feedback_of : Reply → ℕ
feedback_of (Done feedback place bytes) = feedback
feedback_of (Refused refusal) = feedback_code refusal

-- what a refusal makes of its step's condition code: 8 where the volume is at fault, 4 where
-- something was in the way
abbrev pub severity_of : Refusal → ℕ
severity_of EndOfData = 0
severity_of (Duplicate part) = 0
severity_of NotFound = 0
severity_of NoAddress = 0
severity_of (NoSpace need free) = 4
severity_of NoPosition = 0
severity_of NoGet = 0
severity_of KeyChanged = 0
severity_of LengthChanged = 0
severity_of (BadLength length) = 0
severity_of BadSlot = 0
severity_of (Held holder name mode) = 4
severity_of (LogFull used need size) = 4
severity_of (Stopped stamp) = 8
severity_of ReadFault = 8
severity_of WriteFault = 8
severity_of Memory = 4
severity_of NotAllowed = 4
severity_of NoFile = 4

abbrev pub reply_severity : Reply → ℕ
reply_severity (Done feedback place bytes) = 0
reply_severity (Refused refusal) = severity_of refusal

abbrev pub severity : What → ℕ
severity (Asked request reply) = reply_severity reply
severity (Undone part place) = 0
severity (Claimed part area) = 0
severity (Split part) = 0
severity (Faulted fault) = 0

-- the greatest of some numbers, 0 where there is none
abbrev pub greatest : {X : Type 0} → (X → ℕ) → List X → ℕ
greatest f [] = 0
greatest f (x ∷ xs) = max (f x) (greatest f xs)

-- what an entry makes of the code of the step that has this deck
abbrev pub entry_code : ℕ → Entry → ℕ
entry_code deck entry = if entry.unit.deck == deck then severity entry.what else 0

-- what the entries of a volume make of it
abbrev pub history_code : ℕ → List Entry → ℕ
history_code deck entries = greatest (entry_code deck) entries

-- what those of all volumes make of it
abbrev pub numbers_code : List (List Entry) → ℕ → ℕ
numbers_code histories deck = greatest (history_code deck) histories

abbrev pub deck_code : List (List Entry) → KeptDeck → ℕ
deck_code histories deck = numbers_code histories deck.number

-- the condition code of a step with these decks
abbrev pub step_code : List (List Entry) → List KeptDeck → ℕ
step_code histories decks = greatest (deck_code histories) decks

-- what a step makes of the code of its job by its decks
abbrev pub decks_code : List (List Entry) → KeptStep → ℕ
decks_code histories (Decks step) = step_code histories step.decks
decks_code histories (Utilities name) = 0

abbrev pub report_code : StepReport → ℕ
report_code report = report.code

-- the greatest of the codes of the steps of decks and of the reports of the steps of IDCAMS
abbrev pub job_code : List (List Entry) → List KeptStep → List StepReport → ℕ
job_code histories steps reports =
    max (greatest (decks_code histories) steps) (greatest report_code reports)
