-- The steps of a job one after another: what they leave of the volumes, by catalogs of each number.
use Rattle.std.proofs.Common.{◌≡◌, ◌∙◌, ◌<◌, ◌==◌, ◌⊎◌, ℕ, List, [], ◌∷◌, ◌++◌, All, Ok, Result}
use Rattle.std.proofs.Common.{ap, arith, drop, false, inl, inr, length, map, refl, subst, sym, take}
use Rattle.std.proofs.Common.{true}
use Rattle.std.specs.Prelude.{OnOk}
use Rattle.std.proofs.Math.Seq.{drop-append_seam, take-append_seam}
use Rattle.std.proofs.lemmas.Bool.{cases_Bool}
use Rattle.std.proofs.lemmas.List.{append-nil, map-append}
use Rattle.std.proofs.lemmas.List.Elements.{All-map}
use Rattle.vr_ams_define.specs.Answers.{Answering}
use Rattle.vr_catalog.specs.declared.entry.CatEntry.{CatEntry}
use Rattle.vr_history.specs.Merged.{merged, part_of_deck}
use Rattle.vr_history.specs.declared.entry.Entry.{Entry}
use Rattle.vr_job_text.specs.declared.job.JobStep.{JobStep}
use Rattle.vr_trace.specs.Laws.{AreRising, deck_entries, entry_of, of_deck}
use Rattle.vr_trace.specs.Shown.{Shown}
use Rattle.vr_trace.specs.declared.no.RunNo.{RunNo}
use Rattle.vr_trace.specs.declared.report.StepReport.{StepReport}
use Rattle.vr_types.specs.declared.bound.Bound.{Bound}
use Rattle.vr_types.specs.declared.geometry.Geometry.{Geometry}
use Rattle.vr_worker.specs.Asks.{IsPrefixOf, catalogs_of, job_step_asks, steps_ask}
use Rattle.vr_worker.specs.OneStep.{HasRunStep}
use Rattle.vr_worker.specs.Reports.{AreReportedFrom, IsBoundAt}
use Rattle.vr_worker.specs.Steps.{AreGapless, AreOfSteps, AreSinceSteps, ComeInSteps, HasAsked}
use Rattle.vr_worker.specs.Steps.{IsOfStep}
use Rattle.vr_worker.proofs.Between.{since-none, since-then}
use Rattle.vr_worker.proofs.Binding.{all-bound-then}
use Rattle.vr_worker.proofs.Gapless.{gapless-none, gapless-then}
use Rattle.vr_worker.proofs.Grown.{no-part, none-rising}
use Rattle.vr_worker.proofs.JobSteps.{asks-more, asks-one}
use Rattle.vr_worker.proofs.Merging.{none-merged}
use Rattle.vr_worker.proofs.OfSteps.{of-then}
use Rattle.vr_worker.proofs.Reporting.{reported-then}

-- What steps leave of the volumes, wherever the last of them ended.
pub record HaveLeft {V : Type 0} (shown : V → Shown) (geometry : V → Geometry)
    (answers : Answering V) (entries : V → List Entry) (follows : V → V → Type 0)
    (catalogs : ℕ → List (List CatEntry)) (steps : List JobStep) (first now : List V)
    (reports : List StepReport) : Type 0 where
  pub since : AreSinceSteps entries follows steps first now
  pub in_steps : ComeInSteps steps (map entries now)
  pub gapless : AreGapless steps (map entries now)
  pub rising : (deck : ℕ) → AreRising (of_deck deck (merged (map entries now)))
  pub bound : (number : ℕ) → number < length steps
      → IsBoundAt shown entries follows steps first now catalogs number
  pub reported : AreReportedFrom shown geometry answers entries follows catalogs [] first now steps
      reports

-- their decks asked all that they request
abbrev pub HaveAskedAll : {V : Type 0} → (V → List Entry) → (ℕ → List (List CatEntry))
    → List JobStep → List V → Type 0
HaveAskedAll entries catalogs steps now = (deck : ℕ) → (deck == 0) ≡ false
    → part_of_deck deck (merged (map entries now)) ≡ steps_ask catalogs 0 steps deck

module _ {V : Type 0} (shown : V → Shown) (geometry : V → Geometry) (answers : Answering V)
    (entries : V → List Entry) (follows : V → V → Type 0)
    (stays : (volume : V) → follows volume volume)
    (goes_on : (a b c : V) → follows a b → follows b c → follows a c)
    (catalogs : ℕ → List (List CatEntry)) (first : List V) where
  -- ---- before the first step

  pub left-none : All (λ (volume : V). entries volume ≡ []) first
      → HaveLeft shown geometry answers entries follows catalogs [] first first []
  left-none begins = record {
    since = since-none entries follows stays first begins;
    in_steps = ap (map entry_of) (none-merged entries first begins);
    gapless = gapless-none entries [] first begins;
    rising = λ deck. none-rising entries deck first
        (λ place volume near. ap (deck_entries deck) (begins place volume near));
    bound = λ number near. absurd (omega (arith, near));
    reported = refl;
  }

  pub asked-none : All (λ (volume : V). entries volume ≡ []) first
      → HaveAskedAll entries catalogs [] first
  asked-none begins deck other = no-part entries deck first
      (λ place volume near. ap (deck_entries deck) (begins place volume near))

  -- ---- one step more

  module _ (steps : List JobStep) (step : JobStep) (mid now : List V) (reports : List StepReport)
      (left : HaveLeft shown geometry answers entries follows catalogs steps first mid reports)
      (result : Result (Unit {0}) RunNo)
      (run : HasRunStep shown entries follows step result mid now)
      (at : catalogs (length steps) ≡ catalogs_of shown mid) where
    -- over all volumes its entries come after those of the steps before
    steps-then : ComeInSteps (steps ++ step ∷ []) (map entries now)
    steps-then = subst (AreOfSteps (steps ++ step ∷ []))
        (sym (ap (map entry_of) run.later.grew
        ∙ map-append entry_of (merged (map entries mid)) run.later.more))
        (of-then steps step (map entry_of (merged (map entries mid)))
        (map entry_of run.later.more) left.in_steps
        (All-map (IsOfStep step) entry_of run.later.more run.later.own))

    pub left-then : HaveLeft shown geometry answers entries follows catalogs (steps ++ step ∷ [])
        first now reports
    left-then = record {
      since = since-then entries follows goes_on step mid now run.since steps first left.since;
      in_steps = steps-then;
      gapless = gapless-then entries follows steps step first mid now left.since run.since
          left.gapless run.next;
      rising = λ deck. run.rising deck (left.rising deck);
      bound = all-bound-then shown entries follows first catalogs stays goes_on steps step mid now
          left.since run.since at left.bound;
      reported = reported-then shown geometry answers entries follows catalogs first goes_on step
          mid now run.since [] steps reports left.reported;
    }

    -- its decks asked the first of what they request, after those of the steps before
    module _ (asked : HaveAskedAll entries catalogs steps mid) where
      asked-then : (deck : ℕ) (other : (deck == 0) ≡ false)
          → part_of_deck deck (merged (map entries now))
          ≡ steps_ask catalogs 0 steps deck ++ (run.asked deck other).first
      asked-then deck other = (run.asked deck other).asked
          ∙ ap (λ (them : List Bound). them ++ (run.asked deck other).first) (asked deck other)

      -- all, where it was done
      pub asked-all : ((P : Type 0) → OnOk result P → P)
          → HaveAskedAll entries catalogs (steps ++ step ∷ []) now
      asked-all ok deck other =
          let whole : List Bound = job_step_asks (catalogs_of shown mid) step deck in
          asked-then deck other
          ∙ ap (λ (them : List Bound). steps_ask catalogs 0 steps deck ++ them)
          (ok ((run.asked deck other).first ≡ whole) (run.asked deck other).whole)
          ∙ sym (asks-more catalogs deck steps step (catalogs_of shown mid) at)

      -- as each number has it: that of the utilities none
      abbrev next_by : (deck : ℕ) → ((deck == 0) ≡ true) ⊎ ((deck == 0) ≡ false) → List Bound
      next_by deck (inl is) = []
      next_by deck (inr other) = (run.asked deck other).first

      next-asked : (deck : ℕ) → (deck == 0) ≡ false
          → (by : ((deck == 0) ≡ true) ⊎ ((deck == 0) ≡ false))
          → part_of_deck deck (merged (map entries now))
          ≡ steps_ask catalogs 0 steps deck ++ next_by deck by
      next-asked deck other (inl is) = absurd (let both : true ≡ false = sym is ∙ other in (cc))
      next-asked deck other (inr own) = asked-then deck own

      next-first : (deck : ℕ) (by : ((deck == 0) ≡ true) ⊎ ((deck == 0) ≡ false))
          → IsPrefixOf (next_by deck by) (steps_ask catalogs (length steps) (step ∷ []) deck)
      next-first deck (inl is) =
          (steps_ask catalogs (length steps) (step ∷ []) deck, refl)
      next-first deck (inr other) =
          let it : IsPrefixOf (run.asked deck other).first
          (job_step_asks (catalogs_of shown mid) step deck) = (run.asked deck other).prefix in
          (it.0, it.1 ∙ sym (asks-one catalogs deck (length steps) step (catalogs_of shown mid) at))

      pub asked-first : (more : List JobStep) → ((P : Type 0) → OnOk result P)
          → HasAsked catalogs (steps ++ step ∷ more) result (map entries now)
      asked-first more fails =
          let job : List JobStep = steps ++ step ∷ more in
          record {
            count = length steps;
            next = λ deck. next_by deck (cases_Bool (deck == 0));
            asked = λ deck other. next-asked deck other (cases_Bool (deck == 0))
                ∙ ap (λ (them : List JobStep). steps_ask catalogs 0 them deck
                ++ next_by deck (cases_Bool (deck == 0)))
                (sym (take-append_seam steps (step ∷ more)));
            prefixes = λ deck other. subst (λ (them : List JobStep).
                IsPrefixOf (next_by deck (cases_Bool (deck == 0)))
                (steps_ask catalogs (length steps) (take 1 them) deck))
                (sym (drop-append_seam steps (step ∷ more)))
                (next-first deck (cases_Bool (deck == 0)));
            whole = fails (take (length steps) job ≡ job);
            rising = λ deck. run.rising deck (left.rising deck);
          }

  -- ---- where no step is left

  pub asked-stopped : (steps : List JobStep) (now : List V) (reports : List StepReport)
      → HaveLeft shown geometry answers entries follows catalogs steps first now reports
      → HaveAskedAll entries catalogs steps now
      → HasAsked {E = RunNo} catalogs (steps ++ []) (Ok tt) (map entries now)
  asked-stopped steps now reports left asked = record {
    count = length steps;
    next = λ deck. [];
    asked = λ deck other. asked deck other
        ∙ sym (append-nil (steps_ask catalogs 0 steps deck))
        ∙ ap (λ (them : List JobStep). steps_ask catalogs 0 them deck ++ [])
        (sym (take-append_seam steps []));
    prefixes = λ deck other. (
      steps_ask catalogs (length steps) (take 1 (drop (length steps) (steps ++ []))) deck,
      refl,
    );
    whole = take-append_seam steps [] ∙ sym (append-nil steps);
    rising = left.rising;
  }
