-- What the first steps of a job leave of the volumes, of decks and of IDCAMS, by the catalogs as
-- each began.
use Rattle.std.proofs.Common.{◌≡◌, ◌∙◌, ◌+◌, ◌<◌, ◌≤◌, ℕ, Bool, List, [], ◌∷◌, ◌++◌, All, Result}
use Rattle.std.proofs.Common.{Ok, Err, ap, append_assoc, arith, cond, false, length, map, nat_lt}
use Rattle.std.proofs.Common.{subst, sym, true}
use Rattle.std.specs.Prelude.{OnOk}
use Rattle.std.specs.Result.{IsErrAnd}
use Rattle.std.proofs.lemmas.Bool.Decides.{nat_tests}
use Rattle.std.proofs.lemmas.List.{append-nil, length-append}
use Rattle.vr_ams_define.specs.Answers.{Answering}
use Rattle.vr_catalog.specs.declared.entry.CatEntry.{CatEntry}
use Rattle.vr_history.specs.Merged.{merged}
use Rattle.vr_history.specs.declared.entry.Entry.{Entry}
use Rattle.vr_job_text.specs.Job.{deck_steps}
use Rattle.vr_job_text.specs.Numbers.{AreNumbered}
use Rattle.vr_job_text.specs.declared.job.JobStep.{JobStep}
use Rattle.vr_job_text.specs.declared.job.JobStep.TheVariants.{Decks, Utilities}
use Rattle.vr_trace.specs.Laws.{entry_of}
use Rattle.vr_trace.specs.Shown.{Shown}
use Rattle.vr_trace.specs.declared.no.RunNo.{RunNo}
use Rattle.vr_trace.specs.declared.report.StepReport.{StepReport}
use Rattle.vr_types.specs.declared.geometry.Geometry.{Geometry}
use Rattle.vr_worker.specs.Asks.{catalogs_of, job_step_asks}
use Rattle.vr_worker.specs.Decks.{ArePlaced}
use Rattle.vr_worker.specs.OneStep.{AddsReport, HasRunStep, MayRunStep}
use Rattle.vr_worker.specs.Reports.{AreBetween, AreReportedFrom, HaveRunSteps, utility_count}
use Rattle.vr_worker.specs.Steps.{AreGapless, AreSinceSteps, ComeInSteps, HasAsked}
use Rattle.vr_worker.proofs.Between.{between-now, between-then, since-more, since-none, since-then}
use Rattle.vr_worker.proofs.Binding.{all-bound-more}
use Rattle.vr_worker.proofs.Gapless.{gapless-more}
use Rattle.vr_worker.proofs.JobSteps.{utility_count-both}
use Rattle.vr_worker.proofs.Numbering.{step-fresh}
use Rattle.vr_worker.proofs.OfSteps.{of-more}
use Rattle.vr_worker.proofs.Reporting.{reported-add, reported-more}
use Rattle.vr_worker.proofs.Sequences.{HaveAskedAll, HaveLeft, asked-all, asked-first, asked-none}
use Rattle.vr_worker.proofs.Sequences.{asked-stopped, left-none, left-then}

-- what is owed where a call is done, where it isn't
pub err-vacuous : (result : Result (Unit {0}) RunNo) (fault : RunNo)
    → IsErrAnd result (λ (other : RunNo). other ≡ fault) → (P : Type 0) → OnOk result P
err-vacuous (Ok value) fault fails P = absurd fails
err-vacuous (Err other) fault fails P = tt

-- catalogs of each number are those that were seen as the first steps began
abbrev pub AreAsSeen : (ℕ → List (List CatEntry)) → (ℕ → List (List CatEntry)) → ℕ → Type 0
AreAsSeen catalogs seen count = (number : ℕ) → number < count → catalogs number ≡ seen number

-- Steps that came to their end: their decks asked all that they request, and those of IDCAMS have
-- their reports.
pub record HaveCome {V : Type 0} (number : V → ℕ) (shown : V → Shown) (geometry : V → Geometry)
    (answers : Answering V) (entries : V → List Entry) (follows : V → V → Type 0)
    (steps : List JobStep) (first now : List V) (reports : List StepReport) : Type 0 where
  pub placed : ArePlaced number now
  pub many : length reports ≡ utility_count steps
  pub begun : AreSinceSteps entries follows steps first now
  pub seen : ℕ → List (List CatEntry)
  pub left : (catalogs : ℕ → List (List CatEntry)) → AreAsSeen catalogs seen (length steps)
      → HaveLeft shown geometry answers entries follows catalogs steps first now reports
  pub asked : (catalogs : ℕ → List (List CatEntry)) → AreAsSeen catalogs seen (length steps)
      → HaveAskedAll entries catalogs steps now

-- What a job leaves, wherever it ends.
pub record HasEnded {V : Type 0} (shown : V → Shown) (geometry : V → Geometry)
    (answers : Answering V) (entries : V → List Entry) (follows : V → V → Type 0)
    (job : List JobStep) (result : Result (Unit {0}) RunNo) (first now : List V)
    (reports : List StepReport) : Type 0 where
  pub since : AreSinceSteps entries follows job first now
  pub in_steps : ComeInSteps job (map entries now)
  pub gapless : AreGapless job (map entries now)
  pub done : HaveRunSteps shown geometry answers entries follows job result reports first now

-- ---- what was seen, with one more

-- from a number on other catalogs
abbrev seen_then : (ℕ → List (List CatEntry)) → ℕ → List (List CatEntry) → ℕ
    → List (List CatEntry)
seen_then seen count given number = cond (nat_lt number count) (seen number) given

module _ (seen : ℕ → List (List CatEntry)) (count : ℕ) (given : List (List CatEntry)) where
  seen-before : (number : ℕ) → number < count → seen_then seen count given number ≡ seen number
  seen-before number near = ap (λ (b : Bool). cond b (seen number) given)
      (let it : nat_lt number count ≡ true = grind (arith, nat_tests, near) in it)

  seen-after : (number : ℕ) → count ≤ number → seen_then seen count given number ≡ given
  seen-after number far = ap (λ (b : Bool). cond b (seen number) given)
      (let it : nat_lt number count ≡ false = grind (arith, nat_tests, far) in it)

  -- catalogs that are so with one more are so without it
  module _ (catalogs : ℕ → List (List CatEntry)) (more : ℕ) (one : more ≡ count + 1)
      (agree : AreAsSeen catalogs (seen_then seen count given) more) where
    as-before : AreAsSeen catalogs seen count
    as-before number near =
        agree number (omega (arith, near, one)) ∙ seen-before number near

    as-given : catalogs count ≡ given
    as-given = agree count (omega (arith, one)) ∙ seen-after count (omega arith)

-- ---- reports

module _ {V : Type 0} (shown : V → Shown) (geometry : V → Geometry) (answers : Answering V)
    (old new : List V) (before after : List StepReport) where
  -- a step that failed has none
  pub none-added : (step : JobStep) (fault : RunNo)
      → AddsReport shown geometry answers step (Err fault) old new before after → after ≡ before
  none-added (Decks step) fault adds = adds
  none-added (Utilities step) fault adds = adds

  -- there are as many as steps of IDCAMS
  many-added : (steps : List JobStep) (step : JobStep) → length before ≡ utility_count steps
      → AddsReport shown geometry answers step (Ok tt) old new before after
      → length after ≡ utility_count (steps ++ step ∷ [])
  many-added steps (Decks step) many adds = omega (
    arith,
    ap length adds,
    many,
    utility_count-both steps (Decks step ∷ []),
  )
  many-added steps (Utilities step) many adds = omega (
    arith,
    ap length adds.added,
    length-append before (adds.report ∷ []),
    many,
    utility_count-both steps (Utilities step ∷ []),
  )

-- ---- a step that failed

-- what it leaves is so by any answer that isn't Ok
pub failed-run : {V : Type 0} (shown : V → Shown) (entries : V → List Entry)
    (follows : V → V → Type 0) (step : JobStep) (mid now : List V)
    (result given : Result (Unit {0}) RunNo) → ((P : Type 0) → OnOk given P)
    → HasRunStep shown entries follows step result mid now
    → HasRunStep shown entries follows step given mid now
failed-run shown entries follows step mid now result given fails run = record {
  since = run.since;
  later = run.later;
  next = run.next;
  asked = λ deck other.
      let it = run.asked deck other in
      record {
        first = it.first;
        asked = it.asked;
        prefix = it.prefix;
        whole = fails (it.first ≡ job_step_asks (catalogs_of shown mid) step deck);
      };
  rising = run.rising;
}

module _ {V : Type 0} (number : V → ℕ) (shown : V → Shown) (geometry : V → Geometry)
    (answers : Answering V) (entries : V → List Entry) (follows : V → V → Type 0)
    (stays : (volume : V) → follows volume volume)
    (goes_on : (a b c : V) → follows a b → follows b c → follows a c) (first : List V) where
  -- before the first step
  pub come-none : (reports : List StepReport) → reports ≡ [] → ArePlaced number first
      → All (λ (volume : V). entries volume ≡ []) first
      → HaveCome number shown geometry answers entries follows [] first first reports
  come-none reports none placed begins = record {
    placed = placed;
    many = ap length none;
    begun = since-none entries follows stays first begins;
    seen = λ k. [];
    left = λ catalogs agree. subst (HaveLeft shown geometry answers entries follows catalogs []
        first first) (sym none)
        (left-none shown geometry answers entries follows stays goes_on catalogs first begins);
    asked = λ catalogs agree.
        asked-none shown geometry answers entries follows stays goes_on catalogs first begins;
  }

  -- a job whose last steps weren't run
  ended-by : (catalogs : ℕ → List (List CatEntry)) (steps more : List JobStep) (now : List V)
      (reports : List StepReport) (result : Result (Unit {0}) RunNo)
      → HaveLeft shown geometry answers entries follows catalogs steps first now reports
      → ((k : ℕ) → length steps ≤ k → catalogs k ≡ catalogs_of shown now)
      → HasAsked catalogs (steps ++ more) result (map entries now)
      → OnOk result (length reports ≡ utility_count (steps ++ more))
      → HasEnded shown geometry answers entries follows (steps ++ more) result first now reports
  ended-by catalogs steps more now reports result left at asked all = record {
    since = since-more entries follows steps more first now left.since;
    in_steps = of-more steps more (map entry_of (merged (map entries now))) left.in_steps;
    gapless = gapless-more steps more (map entries now) left.gapless;
    done = record {
      catalogs = catalogs;
      asked = asked;
      bound = all-bound-more shown entries follows first catalogs stays goes_on steps more now
          left.since at left.bound;
      reported = reported-more shown geometry answers entries follows catalogs first [] now steps
          more reports left.reported;
      all_reported = all;
    };
  }

  module _ (steps : List JobStep) (mid : List V) (reports : List StepReport)
      (come : HaveCome number shown geometry answers entries follows steps first mid reports) where
    -- the decks of the next step have entered nothing
    pub may-run : (step : JobStep) (more : List JobStep)
        → AreNumbered (deck_steps (steps ++ step ∷ more)) → MayRunStep entries step mid
    may-run (Decks step) more numbered = step-fresh entries mid steps step more numbered
        (λ place volume near.
        (come.begun.each place volume (omega (arith, come.begun.count, near))).of_steps)
    may-run (Utilities step) more numbered = tt

    abbrev seen_now : ℕ → List (List CatEntry)
    seen_now = seen_then come.seen (length steps) (catalogs_of shown mid)

    as-now : AreAsSeen seen_now come.seen (length steps)
    as-now = seen-before come.seen (length steps) (catalogs_of shown mid)

    -- where no step is left
    pub ended-whole : HasEnded shown geometry answers entries follows steps (Ok tt) first mid
        reports
    ended-whole = subst (λ (job : List JobStep).
        HasEnded shown geometry answers entries follows job (Ok tt) first mid reports)
        (append-nil steps) (ended-by seen_now steps [] mid reports (Ok tt)
        (come.left seen_now as-now) (seen-after come.seen (length steps) (catalogs_of shown mid))
        (asked-stopped shown geometry answers entries follows stays goes_on seen_now first steps mid
        reports (come.left seen_now as-now) (come.asked seen_now as-now))
        (come.many ∙ ap utility_count (sym (append-nil steps))))

    -- ---- one step more

    module _ (step : JobStep) (now : List V) (result : Result (Unit {0}) RunNo)
        (run : HasRunStep shown entries follows step result mid now) where
      one-more : length (steps ++ step ∷ []) ≡ length steps + 1
      one-more = length-append steps (step ∷ [])

      pub between-one : AreBetween entries follows steps (step ∷ []) first mid now
      between-one = between-then entries follows goes_on step mid now run.since steps [] first mid
          (between-now entries follows stays steps [] first mid come.begun)

      since-one : AreSinceSteps entries follows (steps ++ step ∷ []) first now
      since-one = since-then entries follows goes_on step mid now run.since steps first come.begun

      module _ (catalogs : ℕ → List (List CatEntry))
          (agree : AreAsSeen catalogs seen_now (length (steps ++ step ∷ []))) where
        before : AreAsSeen catalogs come.seen (length steps)
        before = as-before come.seen (length steps) (catalogs_of shown mid) catalogs
            (length (steps ++ step ∷ [])) one-more agree

        here : catalogs (length steps) ≡ catalogs_of shown mid
        here = as-given come.seen (length steps) (catalogs_of shown mid) catalogs
            (length (steps ++ step ∷ [])) one-more agree

        left-one : HaveLeft shown geometry answers entries follows catalogs (steps ++ step ∷ [])
            first now reports
        left-one = left-then shown geometry answers entries follows stays goes_on catalogs first
            steps step mid now reports (come.left catalogs before) result run here

        asked-one : ((P : Type 0) → OnOk result P → P)
            → HaveAskedAll entries catalogs (steps ++ step ∷ []) now
        asked-one ok = asked-all shown geometry answers entries follows stays goes_on catalogs first
            steps step mid now reports (come.left catalogs before) result run here
            (come.asked catalogs before) ok

      -- which failed
      pub ended-failed : (more : List JobStep) → ((P : Type 0) → OnOk result P)
          → HasEnded shown geometry answers entries follows (steps ++ step ∷ more) result first now
          reports
      ended-failed more fails =
          let one : List JobStep = steps ++ step ∷ [] in
          let given : List (List CatEntry) = catalogs_of shown now in
          let catalogs : ℕ → List (List CatEntry) = seen_then seen_now (length one) given in
          let agree : AreAsSeen catalogs seen_now (length one) =
          seen-before seen_now (length one) given in
          let whole : one ++ more ≡ steps ++ step ∷ more = append_assoc steps (step ∷ []) more in
          subst (λ (job : List JobStep).
          HasEnded shown geometry answers entries follows job result first now reports) whole
          (ended-by catalogs one more now reports result (left-one catalogs agree)
          (seen-after seen_now (length one) given)
          (subst (λ (job : List JobStep). HasAsked catalogs job result (map entries now))
          (sym whole) (asked-first shown geometry answers entries follows stays goes_on catalogs
          first steps step mid now reports (come.left catalogs (before catalogs agree)) result run
          (here catalogs agree) (come.asked catalogs (before catalogs agree)) more fails))
          (fails (length reports ≡ utility_count (one ++ more))))

    -- the report that it adds
    reported-one : (catalogs : ℕ → List (List CatEntry)) (step : JobStep) (now : List V)
        (after : List StepReport) → HaveAskedAll entries catalogs steps mid
        → AreBetween entries follows steps (step ∷ []) first mid now
        → HaveLeft shown geometry answers entries follows catalogs (steps ++ step ∷ []) first now
        reports → AddsReport shown geometry answers step (Ok tt) mid now reports after
        → AreReportedFrom shown geometry answers entries follows catalogs [] first now
        (steps ++ step ∷ []) after
    reported-one catalogs (Decks step) now after asked between left adds = subst
        (AreReportedFrom shown geometry answers entries follows catalogs [] first now
        (steps ++ Decks step ∷ [])) (sym adds) left.reported
    reported-one catalogs (Utilities step) now after asked between left adds = subst
        (AreReportedFrom shown geometry answers entries follows catalogs [] first now
        (steps ++ Utilities step ∷ [])) (sym adds.added)
        (reported-add shown geometry answers entries follows catalogs first step now adds.report []
        steps reports come.many (record {
          volumes = mid;
          between = between;
          asked = asked;
          left = now;
          then = between-now entries follows stays (steps ++ Utilities step ∷ []) [] first now
              left.since;
          is = adds.is;
        }) left.reported)

    -- and which was done
    pub come-then : (step : JobStep) (now : List V) (after : List StepReport)
        → HasRunStep shown entries follows step (Ok tt) mid now → ArePlaced number now
        → AddsReport shown geometry answers step (Ok tt) mid now reports after
        → HaveCome number shown geometry answers entries follows (steps ++ step ∷ []) first now
        after
    come-then step now after run placed adds = record {
      placed = placed;
      many = many-added shown geometry answers mid now reports after steps step come.many adds;
      begun = since-one step now (Ok tt) run;
      seen = seen_now;
      left = λ catalogs agree.
          let left = left-one step now (Ok tt) run catalogs agree in
          record {
            since = left.since;
            in_steps = left.in_steps;
            gapless = left.gapless;
            rising = left.rising;
            bound = left.bound;
            reported = reported-one catalogs step now after
                (come.asked catalogs (before step now (Ok tt) run catalogs agree))
                (between-one step now (Ok tt) run) left adds;
          };
      asked = λ catalogs agree. asked-one step now (Ok tt) run catalogs agree (λ P has. has);
    }
