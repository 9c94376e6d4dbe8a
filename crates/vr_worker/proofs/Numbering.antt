-- The decks of steps by their numbers: at most one deck of a step has a number, and at most one of
-- all steps has it.
use Rattle.std.proofs.Common.{◌≡◌, ◌∙◌, ◌≤◌, ◌<◌, ◌+◌, ◌==◌, ◌⊎◌, ℕ, suc, Bool, cond}
use Rattle.std.proofs.Common.{List, [], ◌∷◌, ◌++◌, All, ap, arith, get_or, inl, inr, length}
use Rattle.std.proofs.Common.{refl, subst, sym, true, false}
use Rattle.std.specs.Prelude.{Contains}
use Rattle.std.proofs.lemmas.Bool.{cases_Bool}
use Rattle.std.proofs.lemmas.Bool.Decides.{Decides-eqb}
use Rattle.std.proofs.lemmas.List.{append-nil, get_or-map, length-map}
use Rattle.std.proofs.lemmas.List.Elements.{All-head, All-tail, filter-append}
use Rattle.std.proofs.lemmas.List.Sums.{get_or-le-sum_by, sum_by-append, sum_by-cons}
use Rattle.vr_ams_define.specs.Grown.{IsOfUtilities}
use Rattle.vr_ams_run.specs.Running.{lines_of}
use Rattle.vr_types.specs.declared.bound.Bound.{Bound}
use Rattle.vr_catalog.specs.declared.entry.CatEntry.{CatEntry}
use Rattle.vr_bind.specs.Bound.{bound_requests}
use Rattle.vr_history.specs.declared.entry.Entry.{Entry}
use Rattle.vr_job_text.specs.Job.{deck_steps}
use Rattle.vr_job_text.specs.Numbers.{AreNumbered, decks_numbered}
use Rattle.vr_job_text.specs.declared.job.JobStep.{JobStep}
use Rattle.vr_job_text.specs.declared.job.JobStep.TheVariants.{Decks, Utilities}
use Rattle.vr_job_text.specs.declared.text.Deck.{Deck}
use Rattle.vr_job_text.specs.declared.text.Step.{Step}
use Rattle.vr_trace.specs.Laws.{deck_entries}
use Rattle.vr_worker.specs.Asks.{all_ask, requests_of}
use Rattle.vr_worker.specs.Runs.{AreFresh, count_of, deck_numbers}
use Rattle.vr_worker.specs.Steps.{AreOfSteps, IsOfStep}
use Rattle.vr_worker.proofs.JobSteps.{deck_steps-both}

-- one for a deck of the number
abbrev one_for : ℕ → Deck → ℕ
one_for number deck = cond (deck.number == number) 1 0

count-next : (deck : Deck) (decks : List Deck) (number : ℕ)
    → count_of (deck ∷ decks) number ≡ one_for number deck + count_of decks number
count-next deck decks number = sum_by-cons (one_for number) deck decks

module _ (deck : Deck) (decks : List Deck) (number : ℕ) where
  count-same : (deck.number == number) ≡ true
      → count_of (deck ∷ decks) number ≡ 1 + count_of decks number
  count-same same = count-next deck decks number
      ∙ ap (λ (b : Bool). cond b 1 0 + count_of decks number) same

  count-other : (deck.number == number) ≡ false
      → count_of (deck ∷ decks) number ≡ 0 + count_of decks number
  count-other other = count-next deck decks number
      ∙ ap (λ (b : Bool). cond b 1 0 + count_of decks number) other

-- a number that a deck has is counted
pub counted : (decks : List Deck) (number : ℕ) → Contains (deck_numbers decks) number
    → 0 < count_of decks number
counted [] number (place, near, is) = absurd (omega (arith, near))
counted (deck ∷ decks) number (place, near, is) =
    let all : List Deck = deck ∷ decks in
    let within : place < length all =
    omega (arith, near, length-map all (λ (one : Deck). one.number)) in
    let same : ((get_or all place deck).number == number) ≡ true =
    (Decides-eqb (get_or all place deck).number number).1
    (sym (get_or-map (λ (one : Deck). one.number) all place deck number within) ∙ is) in
    omega (
      arith,
      get_or-le-sum_by (one_for number) all place deck within,
      ap {B = ℕ} (λ (b : Bool). cond b 1 0) same,
    )

-- so entries of these decks are none of a number that isn't
pub none-entered : (decks : List Deck) (number : ℕ) (entries : List Entry)
    → count_of decks number ≡ 0
    → All (λ (entry : Entry). Contains (deck_numbers decks) entry.unit.deck) entries
    → deck_entries number entries ≡ []
none-entered decks number [] none all = refl
none-entered decks number (entry ∷ entries) none all =
    elim (cases_Bool (entry.unit.deck == number)) [
      | inl same ↦
          let it : entry.unit.deck ≡ number = (Decides-eqb entry.unit.deck number).0 same in
          let is_one : 0 < count_of decks number = counted decks number
          (subst (Contains (deck_numbers decks)) it (All-head
          (λ (one : Entry). Contains (deck_numbers decks) one.unit.deck) entry entries all)) in
          absurd (omega (arith, is_one, none))
      | inr other ↦ ap (λ (b : Bool). cond b (entry ∷ deck_entries number entries)
          (deck_entries number entries)) other
          ∙ none-entered decks number entries none (All-tail
          (λ (one : Entry). Contains (deck_numbers decks) one.unit.deck) entry entries all)
    ]

-- nor do they request anything by it
pub none-asks : (catalogs : List (List CatEntry)) (decks : List Deck) (number : ℕ)
    → count_of decks number ≡ 0 → all_ask (requests_of catalogs) decks number ≡ []
none-asks catalogs [] number none = refl
none-asks catalogs (deck ∷ decks) number none = elim (cases_Bool (deck.number == number)) [
  | inl same ↦ absurd (omega (arith, count-same deck decks number same, none))
  | inr other ↦ ap (λ (b : Bool). cond b (bound_requests deck.text catalogs) []
      ++ all_ask (requests_of catalogs) decks number) other
      ∙ none-asks catalogs decks number (omega (arith, count-other deck decks number other, none))
]

-- the deck at a place has the number, and alone requests something by it
pub record IsAlone (catalogs : List (List CatEntry)) (decks : List Deck) (number place : ℕ)
    : Type 0 where
  pub near : place < length decks
  pub own : (deck : Deck) → (get_or decks place deck).number ≡ number
  pub asks : (deck : Deck) → all_ask (requests_of catalogs) decks number
      ≡ bound_requests (get_or decks place deck).text catalogs

-- where at most one has a number, none has it or one alone
pub none-or-alone : (catalogs : List (List CatEntry)) (decks : List Deck) (number : ℕ)
    → count_of decks number ≤ 1
    → (count_of decks number ≡ 0) ⊎ ((place : ℕ) × IsAlone catalogs decks number place)
none-or-alone catalogs [] number once = inl refl
none-or-alone catalogs (deck ∷ decks) number once = elim (cases_Bool (deck.number == number)) [
  | inl same ↦ inr (
    0,
    record {
      near = omega arith;
      own = λ other. (Decides-eqb deck.number number).0 same;
      asks = λ other. ap (λ (b : Bool). cond b (bound_requests deck.text catalogs) []
          ++ all_ask (requests_of catalogs) decks number) same
          ∙ ap (λ (them : List Bound). bound_requests deck.text catalogs ++ them)
          (none-asks catalogs decks number
          (omega (arith, count-same deck decks number same, once)))
          ∙ append-nil (bound_requests deck.text catalogs);
    },
  )
  | inr other ↦ elim (none-or-alone catalogs decks number
      (omega (arith, count-other deck decks number other, once))) [
        | inl none ↦ inl (count-other deck decks number other ∙ omega (arith, none))
        | inr (place, it) ↦ inr (
          suc place,
          record {
            near = omega (arith, it.near);
            own = λ one. it.own one;
            asks = λ one. ap (λ (b : Bool). cond b (bound_requests deck.text catalogs) []
                ++ all_ask (requests_of catalogs) decks number) other ∙ it.asks one;
          },
        )
      ]
]

-- entries of the utilities are none of another number
pub none-of-utilities : (lines : List ℕ) (number : ℕ) (entries : List Entry)
    → (number == 0) ≡ false → All (IsOfUtilities lines) entries → deck_entries number entries ≡ []
none-of-utilities lines number [] other all = refl
none-of-utilities lines number (entry ∷ entries) other all =
    elim (cases_Bool (entry.unit.deck == number)) [
      | inl same ↦
          let own : IsOfUtilities lines entry =
          All-head (IsOfUtilities lines) entry entries all in
          let none : number ≡ 0 =
          sym ((Decides-eqb entry.unit.deck number).0 same) ∙ own.0 in
          let is : (number == 0) ≡ true = (Decides-eqb number 0).1 none in
          absurd (cc (is, other))
      | inr left ↦ ap (λ (b : Bool). cond b (entry ∷ deck_entries number entries)
          (deck_entries number entries)) left
          ∙ none-of-utilities lines number entries other
          (All-tail (IsOfUtilities lines) entry entries all)
    ]

-- entries of a step are none of a number that none of its decks has
module _ (number : ℕ) (other : (number == 0) ≡ false) where
  pub none-of-step : (step : JobStep) (entries : List Entry)
      → decks_numbered (deck_steps (step ∷ [])) number ≡ 0 → All (IsOfStep step) entries
      → deck_entries number entries ≡ []
  none-of-step (Decks step) entries none all = none-entered step.decks number entries
      (omega (arith, none, sum_by-cons (λ (one : Step). count_of one.decks number) step [])) all
  none-of-step (Utilities step) entries none all =
      none-of-utilities (lines_of step.commands) number entries other all

  -- nor are those of some steps
  none-of-steps : (steps : List JobStep) (entries : List Entry)
      → decks_numbered (deck_steps steps) number ≡ 0 → AreOfSteps steps entries
      → deck_entries number entries ≡ []
  none-of-steps [] entries none of = ap (deck_entries number) of
  none-of-steps (step ∷ steps) entries none (first, rest, both, all, of) =
      let parts = ap (λ (them : List Step). decks_numbered them number)
      (deck_steps-both (step ∷ []) steps)
      ∙ sum_by-append (λ (one : Step). count_of one.decks number) (deck_steps (step ∷ []))
      (deck_steps steps) in
      ap (deck_entries number) both
      ∙ filter-append (λ (entry : Entry). entry.unit.deck == number) first rest
      ∙ ap (λ (them : List Entry). them ++ deck_entries number rest)
      (none-of-step step first (omega (arith, parts, none)) all)
      ∙ none-of-steps steps rest (omega (arith, parts, none)) of

-- as a step begins, its decks have entered nothing
module _ {V : Type 0} (entries : V → List Entry) (volumes : List V) (steps : List JobStep)
    (step : Step) (more : List JobStep)
    (numbered : AreNumbered (deck_steps (steps ++ Decks step ∷ more)))
    (of : All (λ (volume : V). AreOfSteps steps (entries volume)) volumes) where
  counts : (number : ℕ) → decks_numbered (deck_steps (steps ++ Decks step ∷ more)) number
      ≡ decks_numbered (deck_steps steps) number + decks_numbered (step ∷ deck_steps more) number
  counts number = ap (λ (them : List Step). decks_numbered them number)
      (deck_steps-both steps (Decks step ∷ more))
      ∙ sum_by-append (λ (one : Step). count_of one.decks number) (deck_steps steps)
      (step ∷ deck_steps more)

  parts : (number : ℕ) → decks_numbered (step ∷ deck_steps more) number
      ≡ count_of step.decks number + decks_numbered (deck_steps more) number
  parts number = sum_by-cons (λ (one : Step). count_of one.decks number) step (deck_steps more)

  has : (k : ℕ) (deck : Deck) → k < length step.decks
      → 0 < count_of step.decks (get_or step.decks k deck).number
  has k deck inside = counted step.decks (get_or step.decks k deck).number (
    k,
    omega (arith, inside, length-map step.decks (λ (one : Deck). one.number)),
    get_or-map (λ (one : Deck). one.number) step.decks k deck
        (get_or step.decks k deck).number inside,
  )

  own-number : (k : ℕ) (deck : Deck) → k < length step.decks
      → ((get_or step.decks k deck).number == 0) ≡ false
  own-number k deck inside =
      let number : ℕ = (get_or step.decks k deck).number in
      let within = numbered.within number
      (omega (arith, counts number, parts number, has k deck inside)) in
      elim (cases_Bool (number == 0)) [
        | inl none ↦
            let is : number ≡ 0 = (Decides-eqb number 0).0 none in
            absurd (omega (arith, within.0, is))
        | inr other ↦ other
      ]

  pub step-fresh : AreFresh entries step.decks volumes
  step-fresh = record {
    once = λ number. omega (arith, numbered.once number, counts number, parts number);
    own = own-number;
    fresh = λ k deck inside j volume within.
        let number : ℕ = (get_or step.decks k deck).number in
        none-of-steps number (own-number k deck inside) steps (entries (get_or volumes j volume))
        (omega (arith, numbered.once number, counts number, parts number, has k deck inside))
        (of j volume within);
  }
