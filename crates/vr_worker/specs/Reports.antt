-- The reports of the steps of IDCAMS of a job, the volumes over which each is made, and those by
-- whose catalogs the decks of each step are bound. The rules are this project's own.
use Rattle.std.specs.Prelude.{◌≡◌, ◌<◌, ◌==◌, ℕ, suc, zero, List, [], ◌∷◌, ◌++◌, Result, OnOk, drop}
use Rattle.std.specs.Prelude.{false, get_or, length, map, take}
use Rattle.vr_ams_define.specs.Answers.{Answering}
use Rattle.vr_ams_run.specs.Running.{IsReport}
use Rattle.vr_trace.specs.Shown.{Shown}
use Rattle.vr_types.specs.declared.geometry.Geometry.{Geometry}
use Rattle.vr_catalog.specs.declared.entry.CatEntry.{CatEntry}
use Rattle.vr_history.specs.Merged.{merged, part_of_deck}
use Rattle.vr_history.specs.declared.entry.Entry.{Entry}
use Rattle.vr_job_text.specs.declared.job.JobStep.{JobStep}
use Rattle.vr_job_text.specs.declared.job.JobStep.TheVariants.{Decks, Utilities}
use Rattle.vr_job_text.specs.declared.job.UtilityStep.{UtilityStep}
use Rattle.vr_trace.specs.declared.report.StepReport.{StepReport}
use Rattle.vr_worker.specs.Asks.{catalogs_of, steps_ask}
use Rattle.vr_worker.specs.Steps.{AreOfSteps, AreSinceSteps, HasAsked}

-- Each volume is a later state of the one at its place.
pub record AreLaterStates {V : Type 0} (follows : V → V → Type 0) (old new : List V) : Type 0 where
  pub count : length new ≡ length old
  pub each : (place : ℕ) (volume : V) → place < length old
      → follows (get_or old place volume) (get_or new place volume)

-- A history went on by entries of these steps, one step after another.
pub record IsAddedBy (steps : List JobStep) (old new : List Entry) : Type 0 where
  pub more : List Entry
  pub is : new ≡ old ++ more
  pub of_steps : AreOfSteps steps more

-- The volumes are as the steps before left them: later states of the first ones, with the entries
-- of these steps alone; and as they are now they are later states of those, with the entries of the
-- steps after alone besides.
pub record AreBetween {V : Type 0} (entries : V → List Entry) (follows : V → V → Type 0)
    (before after : List JobStep) (first then now : List V) : Type 0 where
  pub since : AreSinceSteps entries follows before first then
  pub later : AreLaterStates follows then now
  pub added : (place : ℕ) (volume : V) → place < length then
      → IsAddedBy after (entries (get_or then place volume)) (entries (get_or now place volume))

-- The catalogs of a number are those of the volumes as so many first steps left them.
pub record IsBoundAt {V : Type 0} (shown : V → Shown) (entries : V → List Entry)
    (follows : V → V → Type 0) (steps : List JobStep) (first now : List V)
    (catalogs : ℕ → List (List CatEntry)) (number : ℕ) : Type 0 where
  pub volumes : List V
  pub between : AreBetween entries follows (take number steps) (drop number steps) first volumes now
  pub catalogs_are : catalogs number ≡ catalogs_of shown volumes

-- The report is that of the commands of a step over the volumes as the steps before it left them,
-- whose decks had asked all that they request, and as the step left them.
pub record IsReportAt {V : Type 0} (shown : V → Shown) (geometry : V → Geometry)
    (answers : Answering V) (entries : V → List Entry) (follows : V → V → Type 0)
    (catalogs : ℕ → List (List CatEntry)) (before : List JobStep) (step : UtilityStep)
    (after : List JobStep) (first now : List V) (report : StepReport) : Type 0 where
  pub volumes : List V
  pub between : AreBetween entries follows before (Utilities step ∷ after) first volumes now
  pub asked : (deck : ℕ) → (deck == 0) ≡ false → part_of_deck deck (merged (map entries volumes))
      ≡ steps_ask catalogs 0 before deck
  pub left : List V
  pub then : AreBetween entries follows (before ++ Utilities step ∷ []) after first left now
  pub is : IsReport shown geometry answers step.commands volumes left report

-- Each step of IDCAMS has its report, in order, as far as the steps came, where these steps ran
-- before.
abbrev pub AreReportedFrom : {V : Type 0} → (V → Shown) → (V → Geometry) → Answering V
    → (V → List Entry) → (V → V → Type 0) → (ℕ → List (List CatEntry)) → List JobStep → List V
    → List V → List JobStep → List StepReport → Type 0
AreReportedFrom shown geometry answers entries follows catalogs before first now [] reports =
    reports ≡ []
AreReportedFrom shown geometry answers entries follows catalogs before first now
    (Decks step ∷ steps) reports =
    AreReportedFrom shown geometry answers entries follows catalogs (before ++ Decks step ∷ [])
    first now steps reports
AreReportedFrom shown geometry answers entries follows catalogs before first now
    (Utilities step ∷ steps) [] = Unit {0}
AreReportedFrom shown geometry answers entries follows catalogs before first now
    (Utilities step ∷ steps) (report ∷ reports) =
    IsReportAt shown geometry answers entries follows catalogs before step steps first now report
    × AreReportedFrom shown geometry answers entries follows catalogs
    (before ++ Utilities step ∷ []) first now steps reports

-- How many of the steps are of IDCAMS.
abbrev pub utility_count : List JobStep → ℕ
utility_count [] = zero
utility_count (Decks step ∷ steps) = utility_count steps
utility_count (Utilities step ∷ steps) = suc (utility_count steps)

-- What steps asked of the volumes and reported: each step of decks is bound by the catalogs as it
-- began, and each step of IDCAMS, as far as the steps came, has its report.
pub record HaveRunSteps {V : Type 0} (shown : V → Shown) (geometry : V → Geometry)
    (answers : Answering V) (entries : V → List Entry) (follows : V → V → Type 0)
    (steps : List JobStep) {E : Type 0} (result : Result (Unit {0}) E) (reports : List StepReport)
    (first now : List V) : Type 0 where
  pub catalogs : ℕ → List (List CatEntry)
  pub asked : HasAsked catalogs steps result (map entries now)
  pub bound : (number : ℕ) → IsBoundAt shown entries follows steps first now catalogs number
  pub reported : AreReportedFrom shown geometry answers entries follows catalogs [] first now steps
      reports
  pub all_reported : OnOk result (length reports ≡ utility_count steps)
