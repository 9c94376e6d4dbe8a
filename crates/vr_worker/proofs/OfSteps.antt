-- The entries of steps of a job, one step after another.
use Rattle.std.proofs.Common.{◌≡◌, ◌∙◌, List, [], ◌∷◌, ◌++◌, All, ap, append_assoc, arith, inl, inr}
use Rattle.std.proofs.Common.{refl, subst, sym}
use Rattle.std.specs.Prelude.{Contains}
use Rattle.std.proofs.lemmas.List.{append-nil}
use Rattle.std.proofs.lemmas.List.Elements.{All-contains, All-nil, Contains-append_cases}
use Rattle.std.proofs.lemmas.List.Elements.{Contains-append_right}
use Rattle.vr_history.specs.declared.entry.Entry.{Entry}
use Rattle.vr_job_text.specs.declared.job.JobStep.{JobStep}
use Rattle.vr_worker.specs.Steps.{AreOfSteps, IsOfOneStep, IsOfStep}

-- nothing is in no list
pub none-there : {X : Type 0} (xs : List X) (x : X) → xs ≡ [] → Contains xs x → ⊥
none-there xs x none has =
    let it = subst (λ (them : List _). Contains them x) none has in omega (arith, it.1)

-- the first of a list is in it
pub first-there : {X : Type 0} (x : X) (xs : List X) → Contains (x ∷ xs) x
first-there x xs = (0, omega arith, refl)

-- no entries are those of any steps
pub of-none : (steps : List JobStep) (entries : List Entry) → entries ≡ []
    → AreOfSteps steps entries
of-none [] entries none = none
of-none (step ∷ steps) entries none =
    ([], [], none, All-nil (IsOfStep step), of-none steps [] refl)

-- and entries of some steps are those of more
pub of-more : (steps more : List JobStep) (entries : List Entry) → AreOfSteps steps entries
    → AreOfSteps (steps ++ more) entries
of-more [] more entries none = of-none more entries none
of-more (step ∷ steps) more entries (first, rest, both, all, of) =
    (first, rest, both, all, of-more steps more rest of)

-- another step's come after them
pub of-then : (steps : List JobStep) (step : JobStep) (entries more : List Entry)
    → AreOfSteps steps entries → All (IsOfStep step) more
    → AreOfSteps (steps ++ step ∷ []) (entries ++ more)
of-then [] step entries more none own = (
  more,
  [],
  ap (λ (them : List Entry). them ++ more) none ∙ sym (append-nil more),
  own,
  refl,
)
of-then (one ∷ steps) step entries more (first, rest, both, all, of) own = (
  first,
  rest ++ more,
  ap (λ (them : List Entry). them ++ more) both ∙ append_assoc first rest more,
  all,
  of-then steps step rest more of own,
)

-- each is of one of the steps
pub of-one : (steps : List JobStep) (entries : List Entry) (entry : Entry)
    → AreOfSteps steps entries → Contains entries entry → IsOfOneStep steps entry
of-one [] entries entry none has = absurd (none-there entries entry none has)
of-one (step ∷ steps) entries entry (first, rest, both, all, of) has = elim
    (Contains-append_cases first rest entry
    (subst (λ (them : List Entry). Contains them entry) both has)) [
      | inl mine ↦
          (step, first-there step steps, All-contains (IsOfStep step) first entry all mine)
      | inr later ↦
          let it = of-one steps rest entry of later in
          (it.0, Contains-append_right (step ∷ []) steps it.0 it.1, it.2)
    ]
