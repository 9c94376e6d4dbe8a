-- One step of a job, of decks or of IDCAMS: what it needs of the volumes, what it leaves of them,
-- and the report that it adds. The rules are this project's own.
use Rattle.std.specs.Prelude.{◌≡◌, ◌<◌, ◌==◌, ℕ, List, [], ◌∷◌, ◌++◌, All, Result, Ok, Err, false}
use Rattle.std.specs.Prelude.{get_or, length, map}
use Rattle.vr_ams_define.specs.Answers.{Answering}
use Rattle.vr_ams_run.specs.Running.{IsReport}
use Rattle.vr_amsparse.specs.declared.command.Node.{Node}
use Rattle.vr_history.specs.Merged.{Numbered, merged, part_of_deck}
use Rattle.vr_history.specs.declared.entry.Entry.{Entry}
use Rattle.vr_job_text.specs.declared.job.JobStep.{JobStep}
use Rattle.vr_job_text.specs.declared.job.JobStep.TheVariants.{Decks, Utilities}
use Rattle.vr_trace.specs.Growing.{ComeNext}
use Rattle.vr_trace.specs.Shown.{Shown}
use Rattle.vr_trace.specs.declared.no.RunNo.{RunNo}
use Rattle.vr_trace.specs.declared.report.StepReport.{StepReport}
use Rattle.vr_types.specs.declared.geometry.Geometry.{Geometry}
use Rattle.vr_worker.specs.Asks.{catalogs_of, job_step_asks}
use Rattle.vr_worker.specs.Runs.{AreFresh, HasAskedMore, StayRising}
use Rattle.vr_worker.specs.Steps.{IsOfStep}

-- The decks of a step of decks entered nothing on the volumes yet.
abbrev pub MayRunStep : {V : Type 0} → (V → List Entry) → JobStep → List V → Type 0
MayRunStep entries (Decks step) volumes = AreFresh entries step.decks volumes
MayRunStep entries (Utilities step) volumes = Unit {0}

-- The volume is a later state of this one, and its history grew by entries of the step alone.
pub record IsSinceStep {V : Type 0} (entries : V → List Entry) (follows : V → V → Type 0)
    (step : JobStep) (old new : V) : Type 0 where
  pub is_later : follows old new
  pub more : List Entry
  pub grew : entries new ≡ entries old ++ more
  pub own : All (IsOfStep step) more

-- so is each volume since the one at its place
pub record AreSinceStep {V : Type 0} (entries : V → List Entry) (follows : V → V → Type 0)
    (step : JobStep) (old new : List V) : Type 0 where
  pub count : length new ≡ length old
  pub each : (place : ℕ) (volume : V) → place < length old
      → IsSinceStep entries follows step (get_or old place volume) (get_or new place volume)

-- The merged history went on at its end, by entries of the step.
pub record WentOn (step : JobStep) (old new : List (List Entry)) : Type 0 where
  pub more : List Numbered
  pub grew : merged new ≡ merged old ++ more
  pub own : All (λ (this : Numbered). IsOfStep step this.entry) more

-- The step entered after all that the volumes had, no stamp left out; each deck number asked the
-- first of what the step requests by it, by the catalogs as it began; and where the stamps of a
-- number's entries rose over all volumes, they do.
pub record HasRunStep {V : Type 0} (shown : V → Shown) (entries : V → List Entry)
    (follows : V → V → Type 0) (step : JobStep) (result : Result (Unit {0}) RunNo)
    (old new : List V) : Type 0 where
  pub since : AreSinceStep entries follows step old new
  pub later : WentOn step (map entries old) (map entries new)
  pub next : ComeNext entries old new
  pub asked : (deck : ℕ) → (deck == 0) ≡ false
      → HasAskedMore result (job_step_asks (catalogs_of shown old) step deck)
      (part_of_deck deck (merged (map entries old))) (part_of_deck deck (merged (map entries new)))
  pub rising : StayRising (map entries old) (map entries new)

-- The report of these commands over the volumes was added to the others.
pub record HasReported {V : Type 0} (shown : V → Shown) (geometry : V → Geometry)
    (answers : Answering V) (commands : List Node) (old new : List V)
    (before after : List StepReport) : Type 0 where
  pub report : StepReport
  pub is : IsReport shown geometry answers commands old new report
  pub added : after ≡ before ++ report ∷ []

-- A step of decks adds no report. One of IDCAMS adds its own, where it came to its end.
abbrev pub AddsReport : {V : Type 0} → (V → Shown) → (V → Geometry) → Answering V → JobStep
    → Result (Unit {0}) RunNo → List V → List V → List StepReport → List StepReport → Type 0
AddsReport shown geometry answers (Decks step) result old new before after = after ≡ before
AddsReport shown geometry answers (Utilities step) (Ok done) old new before after =
    HasReported shown geometry answers step.commands old new before after
AddsReport shown geometry answers (Utilities step) (Err fault) old new before after = after ≡ before
