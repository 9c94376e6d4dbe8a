-- Volumes since the first ones, and between some steps of a job and the steps after them.
use Rattle.std.proofs.Common.{◌≡◌, ◌∙◌, ◌<◌, ℕ, List, [], ◌∷◌, ◌++◌, All, ap, append_assoc, arith}
use Rattle.std.proofs.Common.{get_or, length, refl, subst, sym}
use Rattle.std.proofs.lemmas.List.{append-nil}
use Rattle.vr_history.specs.declared.entry.Entry.{Entry}
use Rattle.vr_job_text.specs.declared.job.JobStep.{JobStep}
use Rattle.vr_worker.specs.OneStep.{AreSinceStep, IsSinceStep}
use Rattle.vr_worker.specs.Reports.{AreBetween, IsAddedBy}
use Rattle.vr_worker.specs.Steps.{AreOfSteps, AreSinceSteps, IsSinceSteps}
use Rattle.vr_worker.proofs.OfSteps.{of-more, of-none, of-then}

module _ {V : Type 0} (entries : V → List Entry) (follows : V → V → Type 0) where
  -- ---- since the first volumes

  -- before the first step
  pub since-none : ((volume : V) → follows volume volume) → (volumes : List V)
      → All (λ (volume : V). entries volume ≡ []) volumes
      → AreSinceSteps entries follows [] volumes volumes
  since-none stays volumes begins = record {
    count = refl;
    each = λ place volume near. record {
      is_later = stays (get_or volumes place volume);
      of_steps = begins place volume near;
    };
  }

  -- after more steps, of which none entered anything
  pub since-more : (steps more : List JobStep) (first now : List V)
      → AreSinceSteps entries follows steps first now
      → AreSinceSteps entries follows (steps ++ more) first now
  since-more steps more first now since = record {
    count = since.count;
    each = λ place volume near.
        let it : IsSinceSteps entries follows steps (get_or first place volume)
        (get_or now place volume) = since.each place volume near in
        record {
          is_later = it.is_later;
          of_steps = of-more steps more (entries (get_or now place volume)) it.of_steps;
        };
  }

  -- ---- between steps

  -- as the volumes are now
  pub between-now : ((volume : V) → follows volume volume) → (before after : List JobStep)
      (first now : List V) → AreSinceSteps entries follows before first now
      → AreBetween entries follows before after first now now
  between-now stays before after first now since = record {
    since = since;
    later = record { count = refl; each = λ place volume near. stays (get_or now place volume) };
    added = λ place volume near. record {
      more = [];
      is = sym (append-nil (entries (get_or now place volume)));
      of_steps = of-none after [] refl;
    };
  }

  -- where more steps are to come
  pub between-more : (before after more : List JobStep) (first past now : List V)
      → AreBetween entries follows before after first past now
      → AreBetween entries follows before (after ++ more) first past now
  between-more before after more first past now between = record {
    since = between.since;
    later = between.later;
    added = λ place volume near.
        let it : IsAddedBy after (entries (get_or past place volume))
        (entries (get_or now place volume)) = between.added place volume near in
        record {
          more = it.more;
          is = it.is;
          of_steps = of-more after more it.more it.of_steps;
        };
  }

  -- ---- as another step runs

  module _ (goes_on : (a b c : V) → follows a b → follows b c → follows a c) (step : JobStep)
      (mid now : List V) (since : AreSinceStep entries follows step mid now) where
    pub since-then : (steps : List JobStep) (first : List V)
        → AreSinceSteps entries follows steps first mid
        → AreSinceSteps entries follows (steps ++ step ∷ []) first now
    since-then steps first before = record {
      count = since.count ∙ before.count;
      each = λ place volume near.
          let a : V = get_or first place volume in
          let b : V = get_or mid place volume in
          let c : V = get_or now place volume in
          let one : IsSinceSteps entries follows steps a b = before.each place volume near in
          let other : IsSinceStep entries follows step b c =
          since.each place volume (omega (arith, before.count, near)) in
          record {
            is_later = goes_on a b c one.is_later other.is_later;
            of_steps = subst (AreOfSteps (steps ++ step ∷ [])) (sym other.grew)
                (of-then steps step (entries b) other.more one.of_steps other.own);
          };
    }

    added-then : (after : List JobStep) (past : List V) (place : ℕ) (volume : V)
        → place < length mid → IsAddedBy after (entries (get_or past place volume))
        (entries (get_or mid place volume))
        → IsAddedBy (after ++ step ∷ []) (entries (get_or past place volume))
        (entries (get_or now place volume))
    added-then after past place volume near added =
        let other : IsSinceStep entries follows step (get_or mid place volume)
        (get_or now place volume) = since.each place volume near in
        record {
          more = added.more ++ other.more;
          is = other.grew ∙ ap (λ (them : List Entry). them ++ other.more) added.is
              ∙ append_assoc (entries (get_or past place volume)) added.more other.more;
          of_steps = of-then after step added.more other.more added.of_steps other.own;
        }

    pub between-then : (before after : List JobStep) (first past : List V)
        → AreBetween entries follows before after first past mid
        → AreBetween entries follows before (after ++ step ∷ []) first past now
    between-then before after first past between = record {
      since = between.since;
      later = record {
        count = since.count ∙ between.later.count;
        each = λ place volume near. goes_on (get_or past place volume) (get_or mid place volume)
            (get_or now place volume) (between.later.each place volume near)
            (since.each place volume (omega (arith, between.later.count, near))).is_later;
      };
      added = λ place volume near. added-then after past place volume
          (omega (arith, between.later.count, near)) (between.added place volume near);
    }
