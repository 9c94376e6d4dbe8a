-- The reports of the steps of IDCAMS, as more steps of a job are run.
use Rattle.std.proofs.Common.{◌≡◌, ℕ, List, [], ◌∷◌, ◌++◌, append_assoc, arith, length, refl}
use Rattle.std.proofs.Common.{subst, sym}
use Rattle.std.proofs.lemmas.List.{append-nil}
use Rattle.vr_ams_define.specs.Answers.{Answering}
use Rattle.vr_catalog.specs.declared.entry.CatEntry.{CatEntry}
use Rattle.vr_history.specs.declared.entry.Entry.{Entry}
use Rattle.vr_job_text.specs.declared.job.JobStep.{JobStep}
use Rattle.vr_job_text.specs.declared.job.JobStep.TheVariants.{Decks, Utilities}
use Rattle.vr_job_text.specs.declared.job.UtilityStep.{UtilityStep}
use Rattle.vr_trace.specs.Shown.{Shown}
use Rattle.vr_trace.specs.declared.report.StepReport.{StepReport}
use Rattle.vr_types.specs.declared.geometry.Geometry.{Geometry}
use Rattle.vr_worker.specs.OneStep.{AreSinceStep}
use Rattle.vr_worker.specs.Reports.{AreReportedFrom, IsReportAt, utility_count}
use Rattle.vr_worker.proofs.Between.{between-more, between-then}

module _ {V : Type 0} (shown : V → Shown) (geometry : V → Geometry) (answers : Answering V)
    (entries : V → List Entry) (follows : V → V → Type 0)
    (catalogs : ℕ → List (List CatEntry)) (first : List V) where
  abbrev IsAt : List JobStep → UtilityStep → List JobStep → List V → StepReport → Type 0
  IsAt before step after now report = IsReportAt shown geometry answers entries follows catalogs
      before step after first now report

  abbrev AreFrom : List JobStep → List V → List JobStep → List StepReport → Type 0
  AreFrom before now steps reports = AreReportedFrom shown geometry answers entries follows
      catalogs before first now steps reports

  -- ---- which steps have a report

  -- none yet
  reported-none : (before : List JobStep) (now : List V) (steps : List JobStep)
      → AreFrom before now steps []
  reported-none before now [] = refl
  reported-none before now (Decks step ∷ steps) =
      reported-none (before ++ Decks step ∷ []) now steps
  reported-none before now (Utilities step ∷ steps) = tt

  -- a report, where more steps are to come
  report-more : (before : List JobStep) (step : UtilityStep) (after more : List JobStep)
      (now : List V) (report : StepReport) → IsAt before step after now report
      → IsAt before step (after ++ more) now report
  report-more before step after more now report it = record {
    volumes = it.volumes;
    between = between-more entries follows before (Utilities step ∷ after) more first it.volumes
        now it.between;
    asked = it.asked;
    left = it.left;
    then = between-more entries follows (before ++ Utilities step ∷ []) after more first it.left
        now it.then;
    is = it.is;
  }

  pub reported-more : (before : List JobStep) (now : List V) (steps more : List JobStep)
      (reports : List StepReport) → AreFrom before now steps reports
      → AreFrom before now (steps ++ more) reports
  reported-more before now [] more reports none =
      subst (AreFrom before now more) (sym none) (reported-none before now more)
  reported-more before now (Decks step ∷ steps) more reports are =
      reported-more (before ++ Decks step ∷ []) now steps more reports are
  reported-more before now (Utilities step ∷ steps) more [] are = tt
  reported-more before now (Utilities step ∷ steps) more (report ∷ reports) (it, are) = (
    report-more before step steps more now report it,
    reported-more (before ++ Utilities step ∷ []) now steps more reports are,
  )

  -- ---- as another step runs

  module _ (goes_on : (a b c : V) → follows a b → follows b c → follows a c) (step : JobStep)
      (mid now : List V) (since : AreSinceStep entries follows step mid now) where
    report-then : (before : List JobStep) (other : UtilityStep) (after : List JobStep)
        (report : StepReport) → IsAt before other after mid report
        → IsAt before other (after ++ step ∷ []) now report
    report-then before other after report it = record {
      volumes = it.volumes;
      between = between-then entries follows goes_on step mid now since before
          (Utilities other ∷ after) first it.volumes it.between;
      asked = it.asked;
      left = it.left;
      then = between-then entries follows goes_on step mid now since
          (before ++ Utilities other ∷ []) after first it.left it.then;
      is = it.is;
    }

    -- the others stay
    pub reported-then : (before steps : List JobStep) (reports : List StepReport)
        → AreFrom before mid steps reports → AreFrom before now (steps ++ step ∷ []) reports
    reported-then before [] reports none = subst (AreFrom before now (step ∷ [])) (sym none)
        (reported-none before now (step ∷ []))
    reported-then before (Decks deck ∷ steps) reports are =
        reported-then (before ++ Decks deck ∷ []) steps reports are
    reported-then before (Utilities other ∷ steps) [] are = tt
    reported-then before (Utilities other ∷ steps) (report ∷ reports) (it, are) = (
      report-then before other steps report it,
      reported-then (before ++ Utilities other ∷ []) steps reports are,
    )

  -- and one of IDCAMS adds its own
  pub reported-add : (step : UtilityStep) (now : List V) (report : StepReport)
      (before steps : List JobStep) (reports : List StepReport)
      → length reports ≡ utility_count steps → IsAt (before ++ steps) step [] now report
      → AreFrom before now (steps ++ Utilities step ∷ []) reports
      → AreFrom before now (steps ++ Utilities step ∷ []) (reports ++ report ∷ [])
  reported-add step now report before [] [] many it are = (
    subst (λ (them : List JobStep). IsAt them step [] now report) (append-nil before) it,
    refl,
  )
  reported-add step now report before [] (head ∷ reports) many it are =
      absurd (omega (arith, many))
  reported-add step now report before (Decks deck ∷ steps) reports many it are =
      reported-add step now report (before ++ Decks deck ∷ []) steps reports many
      (subst (λ (them : List JobStep). IsAt them step [] now report)
      (sym (append_assoc before (Decks deck ∷ []) steps)) it) are
  reported-add step now report before (Utilities other ∷ steps) [] many it are =
      absurd (omega (arith, many))
  reported-add step now report before (Utilities other ∷ steps) (head ∷ reports) many it
      (has, are) = (
        has,
        reported-add step now report (before ++ Utilities other ∷ []) steps reports
            (omega (arith, many)) (subst (λ (them : List JobStep). IsAt them step [] now report)
            (sym (append_assoc before (Utilities other ∷ []) steps)) it) are,
      )
