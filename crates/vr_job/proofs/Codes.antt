-- The condition code of a job is 16 at most.
use Rattle.std.proofs.Common.{Option, ◌≡◌, ◌≤◌, ◌==◌, ◌⊎◌, inl, inr, ℕ, Bool, true, false, List, [], ◌∷◌, ◌++◌}
use Rattle.std.proofs.Common.{arith, if◌then◌else◌, refl, subst, sym, ◌∙◌}
use Rattle.std.specs.Prelude.{All}
use Rattle.std.proofs.Math.Nat.{max-le}
use Rattle.std.proofs.lemmas.List.Elements.{All-cons, All-head, All-nil, All-tail}
use Rattle.vr_types.specs.declared.reply.Refusal.{Refusal}
use Rattle.vr_types.specs.declared.reply.Refusal.TheVariants.{EndOfData, Duplicate, NotFound}
use Rattle.vr_types.specs.declared.reply.Refusal.TheVariants.{NoAddress, NoSpace, NoPosition, NoGet}
use Rattle.vr_types.specs.declared.reply.Refusal.TheVariants.{KeyChanged, LengthChanged, BadLength}
use Rattle.vr_types.specs.declared.reply.Refusal.TheVariants.{BadSlot, Held, LogFull, Stopped}
use Rattle.vr_types.specs.declared.reply.Refusal.TheVariants.{ReadFault, WriteFault, Memory}
use Rattle.vr_types.specs.declared.reply.Refusal.TheVariants.{NotAllowed, NoFile}
use Rattle.vr_types.specs.declared.reply.Reply.{Reply}
use Rattle.vr_types.specs.declared.reply.Reply.TheVariants.{Done, Refused}
use Rattle.vr_history.specs.declared.entry.Entry.{Entry}
use Rattle.vr_history.specs.declared.entry.What.{What}
use Rattle.vr_history.specs.declared.entry.What.TheVariants.{Asked, Undone, Claimed, Split, Faulted}
use Rattle.vr_trace.specs.Code.{deck_code, decks_code, entry_code, greatest, history_code, job_code}
use Rattle.vr_trace.specs.Code.{reply_severity, report_code, severity, severity_of}
use Rattle.vr_trace.specs.declared.kept.KeptDeck.{KeptDeck}
use Rattle.vr_trace.specs.declared.kept.KeptStep.{KeptStep}
use Rattle.vr_trace.specs.declared.kept.KeptStep.TheVariants.{Decks, Utilities}
use Rattle.vr_trace.specs.declared.report.StepReport.{StepReport}
use Rattle.vr_ams_run.proofs.CallerLemmas.{report-few}
use Rattle.vr_job_text.specs.declared.job.JobStep.{JobStep}
use Rattle.vr_job_text.specs.declared.job.JobStep.TheVariants as steps
use Rattle.vr_job.specs.Done.{AreFew, HasRun, IsNothing, IsRunDone, NotBegun, NotRun}
use Rattle.vr_job.specs.Reported.{AnswersBy, AreReportedFrom, VolumeFrom, shape_at, shown_at}
use Rattle.vr_types.specs.Faults.{Faults}
use Rattle.vr_types.specs.Seen.{Seen}
use Rattle.vr_job_ends.specs.Ends.{IsStatus, status_by, steps_shown}
use Rattle.vr_job_ends.specs.declared.job_end.End.{End}
use Rattle.vr_job_ends.specs.declared.job_end.End.TheVariants.{Ran}
use Rattle.vr_job_ends.specs.declared.job_end.Trace.{Trace}

greatest-few : {X : Type 0} (f : X → ℕ) → ((x : X) → f x ≤ 8) → (xs : List X) → greatest f xs ≤ 8
greatest-few f few [] = omega arith
greatest-few f few (x ∷ xs) = max-le (few x) (greatest-few f few xs)

refusal-few : (refusal : Refusal) → severity_of refusal ≤ 8
refusal-few EndOfData = omega arith
refusal-few (Duplicate part) = omega arith
refusal-few NotFound = omega arith
refusal-few NoAddress = omega arith
refusal-few (NoSpace need free) = omega arith
refusal-few NoPosition = omega arith
refusal-few NoGet = omega arith
refusal-few KeyChanged = omega arith
refusal-few LengthChanged = omega arith
refusal-few (BadLength length) = omega arith
refusal-few BadSlot = omega arith
refusal-few (Held holder name mode) = omega arith
refusal-few (LogFull used need size) = omega arith
refusal-few (Stopped stamp) = omega arith
refusal-few ReadFault = omega arith
refusal-few WriteFault = omega arith
refusal-few Memory = omega arith
refusal-few NotAllowed = omega arith
refusal-few NoFile = omega arith

reply-few : (reply : Reply) → reply_severity reply ≤ 8
reply-few (Done feedback place bytes) = omega arith
reply-few (Refused refusal) = refusal-few refusal

what-few : (what : What) → severity what ≤ 8
what-few (Asked request reply) = reply-few reply
what-few (Undone part place) = omega arith
what-few (Claimed part area) = omega arith
what-few (Split part) = omega arith
what-few (Faulted fault) = omega arith

by-deck : (is : Bool) (code : ℕ) → code ≤ 8 → (if is then code else 0) ≤ 8
by-deck true code few = few
by-deck false code few = omega arith

entry-few : (deck : ℕ) (entry : Entry) → entry_code deck entry ≤ 8
entry-few deck entry = by-deck (entry.unit.deck == deck) (severity entry.what) (what-few entry.what)

history-few : (deck : ℕ) (entries : List Entry) → history_code deck entries ≤ 8
history-few deck entries = greatest-few (entry_code deck) (entry-few deck) entries

deck-few : (histories : List (List Entry)) (deck : KeptDeck) → deck_code histories deck ≤ 8
deck-few histories deck = greatest-few (history_code deck.number) (history-few deck.number) histories

step-few : (histories : List (List Entry)) (step : KeptStep) → decks_code histories step ≤ 8
step-few histories (Decks step) =
    greatest-few (deck_code histories) (deck-few histories) step.decks
step-few histories (Utilities name) = omega arith

-- ---- reports

abbrev IsFew : StepReport → Type 0
IsFew report = report.code ≤ 16

reports-few : (reports : List StepReport) → All IsFew reports → greatest report_code reports ≤ 16
reports-few [] few = omega arith
reports-few (report ∷ reports) few =
    max-le (All-head IsFew report reports few) (reports-few reports (All-tail IsFew report reports few))

-- those of the steps of a job
reported-few : (tells : Bool) (before : List JobStep) (froms : List VolumeFrom) (job : List JobStep)
    (reports : List StepReport) → AreReportedFrom tells before froms job reports
    → All IsFew reports
reported-few tells before froms [] reports is = subst (All IsFew) (sym is) (All-nil IsFew)
reported-few tells before froms (steps.Decks step ∷ job) reports is =
    reported-few tells (before ++ steps.Decks step ∷ []) froms job reports is
reported-few tells before froms (steps.Utilities step ∷ job) [] is = All-nil IsFew
reported-few tells before froms (steps.Utilities step ∷ job) (report ∷ reports) is =
    All-cons IsFew report reports
    (report-few shown_at shape_at (AnswersBy tells) step.commands is.0.volumes is.0.left report
    is.0.is)
    (reported-few tells (before ++ steps.Utilities step ∷ []) froms job reports is.1)

job-few : (histories : List (List Entry)) (kept : List KeptStep) (reports : List StepReport)
    → All IsFew reports → job_code histories kept reports ≤ 16
job-few histories kept reports few = max-le
    (omega (arith, greatest-few (decks_code histories) (step-few histories) kept))
    (reports-few reports few)

-- the status of a job whose steps ran
pub ran-few : (faults faults' : ℕ) (trace : Trace) (status : ℕ) → IsStatus faults faults' trace status
    → All IsFew trace.reports → trace.end ≡ Ran → (status ≤ 16) ⊎ (status ≡ 28)
ran-few faults faults' trace status (inl is) few ran = inl (subst (λ n. n ≤ 16) (sym (is ∙ by))
    (job-few trace.histories (steps_shown trace.job) trace.reports few))
  where
    by : status_by trace.end trace ≡ status_by Ran trace
    by = subst (λ (end : End). status_by trace.end trace ≡ status_by end trace) ran refl
ran-few faults faults' trace status (inr is) few ran = inr is.0

pub none-few : (trace : Trace) → IsNothing trace → AreFew trace.reports
none-few trace nothing = subst (All IsFew) (sym nothing.reports) (All-nil IsFew)

-- what was done for the words of a run has few reports
pub done-few : {D : Type 0} (tells : Bool) (seen : D → Seen) (faults : D → Faults)
    (in_memory lines : Bool) (left left' : Option (List ℕ)) (fails fails' : ℕ) (old new : List D)
    (trace : Trace) (end : End)
    → IsRunDone tells seen faults in_memory lines left left' fails fails' old new trace end
    → AreFew trace.reports
done-few tells seen faults in_memory lines left left' fails fails' old new trace end
    (NotBegun line end_is nothing not_begun same_left same_fails) = none-few trace nothing
done-few tells seen faults in_memory lines left left' fails fails' old new trace end
    (NotRun line end_is nothing begun ends) = none-few trace nothing
done-few tells seen faults in_memory lines left left' fails fails' old new trace end
    (HasRun job begun has_begun read run) =
    reported-few tells [] _ job.steps trace.reports run.run.reported
