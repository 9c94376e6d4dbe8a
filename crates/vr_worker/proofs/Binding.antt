-- By which catalogs each step of a job is bound, as more steps of the job are run.
use Rattle.std.proofs.Common.{◌≡◌, ◌∙◌, ◌-◌, ◌<◌, ◌≤◌, ℕ, List, [], ◌∷◌, ◌++◌, ap}
use Rattle.std.proofs.Common.{append_assoc, arith, drop, inl, inr, length, subst, sym, take}
use Rattle.std.proofs.Math.Seq.{drop-append_seam, take-append-add, take-append_seam}
use Rattle.std.proofs.lemmas.Bool.{cases_lt}
use Rattle.std.proofs.lemmas.List.{length-append, length-take-le, take-append-drop}
use Rattle.vr_catalog.specs.declared.entry.CatEntry.{CatEntry}
use Rattle.vr_history.specs.declared.entry.Entry.{Entry}
use Rattle.vr_job_text.specs.declared.job.JobStep.{JobStep}
use Rattle.vr_trace.specs.Shown.{Shown}
use Rattle.vr_worker.specs.Asks.{catalogs_of}
use Rattle.vr_worker.specs.OneStep.{AreSinceStep}
use Rattle.vr_worker.specs.Reports.{AreBetween, IsBoundAt}
use Rattle.vr_worker.specs.Steps.{AreSinceSteps}
use Rattle.vr_worker.proofs.Between.{between-more, between-now, between-then, since-more}

-- steps that are parted and followed by more
rejoined : (number : ℕ) (steps more : List JobStep)
    → take number steps ++ (drop number steps ++ more) ≡ steps ++ more
rejoined number steps more = sym (append_assoc (take number steps) (drop number steps) more)
    ∙ ap (λ (them : List JobStep). them ++ more) (take-append-drop number steps)

module _ {V : Type 0} (shown : V → Shown) (entries : V → List Entry) (follows : V → V → Type 0)
    (first : List V) (catalogs : ℕ → List (List CatEntry)) where
  -- the step after these is bound over volumes that stand there
  bound-by : (before after : List JobStep) (past now : List V) (number : ℕ)
      → length before ≡ number → AreBetween entries follows before after first past now
      → catalogs number ≡ catalogs_of shown past
      → IsBoundAt shown entries follows (before ++ after) first now catalogs number
  bound-by before after past now number at between is = record {
    volumes = past;
    between = subst (λ (n : ℕ). AreBetween entries follows (take n (before ++ after))
        (drop n (before ++ after)) first past now) at
        (subst (λ (them : List JobStep). AreBetween entries follows them
        (drop (length before) (before ++ after)) first past now)
        (sym (take-append_seam before after))
        (subst (λ (them : List JobStep). AreBetween entries follows before them first past now)
        (sym (drop-append_seam before after)) between));
    catalogs_are = is;
  }

  module _ (steps : List JobStep) (number : ℕ) (near : number < length steps) where
    -- a step that was bound is bound so, where more are to come
    bound-on : (more : List JobStep) (past now : List V)
        → AreBetween entries follows (take number steps) (drop number steps ++ more) first past now
        → catalogs number ≡ catalogs_of shown past
        → IsBoundAt shown entries follows (steps ++ more) first now catalogs number
    bound-on more past now between is = subst (λ (them : List JobStep).
        IsBoundAt shown entries follows them first now catalogs number)
        (rejoined number steps more)
        (bound-by (take number steps) (drop number steps ++ more) past now number
        (length-take-le number steps (omega (arith, near))) between is)

    pub bound-more : (more : List JobStep) (now : List V)
        → IsBoundAt shown entries follows steps first now catalogs number
        → IsBoundAt shown entries follows (steps ++ more) first now catalogs number
    bound-more more now it = bound-on more it.volumes now
        (between-more entries follows (take number steps) (drop number steps) more first it.volumes
        now it.between) it.catalogs_are

    bound-then : (goes_on : (a b c : V) → follows a b → follows b c → follows a c)
        (step : JobStep) (mid now : List V) → AreSinceStep entries follows step mid now
        → IsBoundAt shown entries follows steps first mid catalogs number
        → IsBoundAt shown entries follows (steps ++ step ∷ []) first now catalogs number
    bound-then goes_on step mid now since it = bound-on (step ∷ []) it.volumes now
        (between-then entries follows goes_on step mid now since (take number steps)
        (drop number steps) first it.volumes it.between) it.catalogs_are

  -- ---- all numbers, as another step runs

  module _ (stays : (volume : V) → follows volume volume)
      (goes_on : (a b c : V) → follows a b → follows b c → follows a c) (steps : List JobStep) where
    pub all-bound-then : (step : JobStep) (mid now : List V)
        → AreSinceSteps entries follows steps first mid
        → AreSinceStep entries follows step mid now
        → catalogs (length steps) ≡ catalogs_of shown mid
        → ((number : ℕ) → number < length steps
        → IsBoundAt shown entries follows steps first mid catalogs number)
        → (number : ℕ) → number < length (steps ++ step ∷ [])
        → IsBoundAt shown entries follows (steps ++ step ∷ []) first now catalogs number
    all-bound-then step mid now before since at each number near =
        elim (cases_lt number (length steps)) [
          | inl less ↦ bound-then steps number less goes_on step mid now since (each number less)
          | inr most ↦
              let last : length steps ≡ number =
              omega (arith, near, most, length-append steps (step ∷ [])) in
              bound-by steps (step ∷ []) mid now number last
              (between-then entries follows goes_on step mid now since steps [] first mid
              (between-now entries follows stays steps [] first mid before))
              (ap catalogs (sym last) ∙ at)
        ]

    -- and as none does, the volumes are as they are at all later numbers
    pub all-bound-more : (more : List JobStep) (now : List V)
        → AreSinceSteps entries follows steps first now
        → ((number : ℕ) → length steps ≤ number → catalogs number ≡ catalogs_of shown now)
        → ((number : ℕ) → number < length steps
        → IsBoundAt shown entries follows steps first now catalogs number) → (number : ℕ)
        → IsBoundAt shown entries follows (steps ++ more) first now catalogs number
    all-bound-more more now since at each number = elim (cases_lt number (length steps)) [
      | inl less ↦ bound-more steps number less more now (each number less)
      | inr most ↦
          let job : List JobStep = steps ++ more in
          let past : ℕ = number - length steps in
          let is : take number job ≡ steps ++ take past more =
          ap (λ (n : ℕ). take n job) (omega (arith, most)) ∙ take-append-add steps more past in
          record {
            volumes = now;
            between = between-now entries follows stays (take number job) (drop number job) first
                now (subst (λ (them : List JobStep). AreSinceSteps entries follows them first now)
                (sym is) (since-more entries follows steps (take past more) first now since));
            catalogs_are = at number most;
          }
    ]
