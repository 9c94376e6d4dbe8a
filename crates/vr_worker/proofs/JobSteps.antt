-- The steps of a job, of decks and of IDCAMS: counts and requests over some, and then others.
use Rattle.std.proofs.Common.{◌≡◌, ◌∙◌, ◌+◌, ◌<◌, ℕ, suc, List, [], ◌∷◌, ◌++◌, ap, append_assoc}
use Rattle.std.proofs.Common.{arith, drop, get_or, length, refl, sym, take}
use Rattle.std.proofs.lemmas.List.{append-nil, drop_more, take-append-drop, take_more}
use Rattle.vr_catalog.specs.declared.entry.CatEntry.{CatEntry}
use Rattle.vr_job_text.specs.Job.{deck_steps}
use Rattle.vr_job_text.specs.declared.job.JobStep.{JobStep}
use Rattle.vr_job_text.specs.declared.job.JobStep.TheVariants.{Decks, Utilities}
use Rattle.vr_job_text.specs.declared.text.Step.{Step}
use Rattle.vr_types.specs.declared.bound.Bound.{Bound}
use Rattle.vr_worker.specs.Asks.{job_step_asks, steps_ask}
use Rattle.vr_worker.specs.Reports.{utility_count}

-- ---- counts

pub deck_steps-both : (one more : List JobStep)
    → deck_steps (one ++ more) ≡ deck_steps one ++ deck_steps more
deck_steps-both [] more = refl
deck_steps-both (Decks step ∷ one) more =
    ap (λ (them : List Step). step ∷ them) (deck_steps-both one more)
deck_steps-both (Utilities step ∷ one) more = deck_steps-both one more

pub utility_count-both : (one more : List JobStep)
    → utility_count (one ++ more) ≡ utility_count one + utility_count more
utility_count-both [] more = omega arith
utility_count-both (Decks step ∷ one) more = utility_count-both one more
utility_count-both (Utilities step ∷ one) more = omega (arith, utility_count-both one more)

-- ---- requests

module _ (catalogs : ℕ → List (List CatEntry)) (deck : ℕ) where
  asks-both : (number : ℕ) (one more : List JobStep) → steps_ask catalogs number (one ++ more) deck
      ≡ steps_ask catalogs number one deck ++ steps_ask catalogs (number + length one) more deck
  asks-both number [] more =
      ap (λ (n : ℕ). steps_ask catalogs n more deck) (omega arith)
  asks-both number (step ∷ one) more =
      let asks : List Bound = job_step_asks (catalogs number) step deck in
      ap (λ (them : List Bound). asks ++ them) (asks-both (suc number) one more)
      ∙ sym (append_assoc asks (steps_ask catalogs (suc number) one deck)
      (steps_ask catalogs (suc number + length one) more deck))
      ∙ ap (λ (n : ℕ). (asks ++ steps_ask catalogs (suc number) one deck)
      ++ steps_ask catalogs n more deck) (omega arith)

  -- one step, by these catalogs
  pub asks-one : (number : ℕ) (step : JobStep) (given : List (List CatEntry))
      → catalogs number ≡ given
      → steps_ask catalogs number (step ∷ []) deck ≡ job_step_asks given step deck
  asks-one number step given is = append-nil (job_step_asks (catalogs number) step deck)
      ∙ ap (λ (them : List (List CatEntry)). job_step_asks them step deck) is

  -- and one more than some
  pub asks-more : (steps : List JobStep) (step : JobStep) (given : List (List CatEntry))
      → catalogs (length steps) ≡ given → steps_ask catalogs 0 (steps ++ step ∷ []) deck
      ≡ steps_ask catalogs 0 steps deck ++ job_step_asks given step deck
  asks-more steps step given is = asks-both 0 steps (step ∷ [])
      ∙ ap (λ (n : ℕ). steps_ask catalogs 0 steps deck ++ steps_ask catalogs n (step ∷ []) deck)
      (omega arith)
      ∙ ap (λ (them : List Bound). steps_ask catalogs 0 steps deck ++ them)
      (asks-one (length steps) step given is)

-- ---- the first steps of a job, one more, and the rest

module _ (job : List JobStep) (i : ℕ) (step : JobStep) (near : i < length job)
    (at : step ≡ get_or job i step) where
  pub job-more : take (i + 1) job ≡ take i job ++ step ∷ []
  job-more = take_more job i step near
      ∙ ap (λ (it : JobStep). take i job ++ it ∷ []) (sym at)

  pub job-split : job ≡ take i job ++ step ∷ drop (i + 1) job
  job-split = sym (take-append-drop i job)
      ∙ ap (λ (them : List JobStep). take i job ++ them) (drop_more job i step near
      ∙ ap (λ (it : JobStep). it ∷ drop (i + 1) job) (sym at))
