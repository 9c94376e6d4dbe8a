-- That the steps of a job leave no stamp out.
use Rattle.std.proofs.Common.{◌≡◌, ◌∙◌, ◌+◌, ◌<◌, ℕ, List, [], ◌∷◌, ◌++◌, All, ap, arith}
use Rattle.std.proofs.Common.{append_assoc, get_or, inl, inr, length, map, refl, subst, sym}
use Rattle.std.specs.Prelude.{◌⊎◌, Contains}
use Rattle.std.proofs.lemmas.Bool.{cases_lt}
use Rattle.std.proofs.lemmas.List.{append-nil, get_or-map, get_or_past, length-map}
use Rattle.std.proofs.lemmas.List.Elements.{All-contains, Contains-append_cases}
use Rattle.std.proofs.lemmas.List.Elements.{Contains-append_left, Contains-append_right}
use Rattle.vr_history.specs.Merged.{Numbered, last_stamp}
use Rattle.vr_history.specs.declared.entry.Entry.{Entry}
use Rattle.vr_job_text.specs.declared.job.JobStep.{JobStep}
use Rattle.vr_trace.specs.Code.{greatest}
use Rattle.vr_trace.specs.Laws.{history_at}
use Rattle.vr_trace.specs.Numbering.{with_volume}
use Rattle.vr_trace.specs.Growing.{ComeNext, FollowsOneOf, IsEntered, IsNext, gained}
use Rattle.vr_trace.specs.Growing.{greatest_last}
use Rattle.vr_worker.specs.OneStep.{AreSinceStep, IsSinceStep}
use Rattle.vr_worker.specs.Steps.{AreGapless, AreSinceSteps, ComesBefore, IsOfEarlier}
use Rattle.vr_worker.specs.Steps.{IsOfOneStep, IsOfStep}
use Rattle.vr_worker.proofs.Laters.{gained-is}
use Rattle.vr_worker.proofs.Nexts.{last-entry}
use Rattle.vr_worker.proofs.OfSteps.{first-there, none-there, of-one}

-- ---- the greatest of the last stamps

greatest-one : {X : Type 0} (f : X → ℕ) (xs : List X) → (greatest f xs ≡ 0)
    ⊎ ((x : X) × Contains xs x × (f x ≡ greatest f xs))
greatest-one f [] = inl refl
greatest-one f (x ∷ xs) = elim (greatest-one f xs) [
  | inl none ↦ inr (x, first-there x xs, omega (arith, none))
  | inr (y, has, is) ↦ elim (cases_lt (f x) (greatest f xs)) [
    | inl less ↦ inr (y, Contains-append_right (x ∷ []) xs y has, omega (arith, is, less))
    | inr most ↦ inr (x, first-there x xs, omega (arith, most))
  ]
]

module _ {V : Type 0} (entries : V → List Entry) where
  there : (volumes : List V) (place : ℕ) (volume : V) → place < length volumes
      → history_at (map entries volumes) place ≡ entries (get_or volumes place volume)
  there volumes place volume near = get_or-map entries volumes place volume [] near

  -- is 0, or that of an entry
  greatest-entry : (volumes : List V) → (greatest_last entries volumes ≡ 0)
      ⊎ ((other : Numbered) × IsEntered (map entries volumes) other
      × (other.entry.stamp ≡ greatest_last entries volumes))
  greatest-entry volumes = elim
      (greatest-one (λ (volume : V). last_stamp 0 (entries volume)) volumes) [
        | inl none ↦ inl none
        | inr (volume, (place, near, at), is) ↦ elim (last-entry 0 (entries volume)) [
          | inl none ↦ inl (sym is ∙ none)
          | inr (entry, has, last) ↦ inr (
            with_volume place entry,
            subst (λ (them : List Entry). Contains them entry)
                (sym (there volumes place volume near ∙ ap entries at)) has,
            last ∙ is,
          )
        ]
      ]

  -- an entry is on a volume that is there
  on-volume : (volumes : List V) (this : Numbered) → IsEntered (map entries volumes) this
      → this.volume < length volumes
  on-volume volumes this entered = elim (cases_lt this.volume (length volumes)) [
    | inl near ↦ near
    | inr far ↦ absurd (none-there (history_at (map entries volumes) this.volume) this.entry
        (get_or_past (map entries volumes) this.volume []
        (omega (arith, far, length-map volumes entries))) entered)
  ]

  some-volume : (volumes : List V) (place : ℕ) → place < length volumes → V
  some-volume [] place near = absurd (omega (arith, near))
  some-volume (volume ∷ volumes) place near = volume

-- ---- the entries of steps

earlier-more : (steps more : List JobStep) (other entry : Entry) → IsOfEarlier steps other entry
    → IsOfEarlier (steps ++ more) other entry
earlier-more steps more other entry (before, after, both, first, (step, has, own)) = (
  before,
  after ++ more,
  ap (λ (them : List JobStep). them ++ more) both ∙ append_assoc before after more,
  first,
  (step, Contains-append_left after more step has, own),
)

before-more : (steps more : List JobStep) (other this : Numbered) → ComesBefore steps other this
    → ComesBefore (steps ++ more) other this
before-more steps more other this before = record {
  next = before.next;
  of = elim before.of [
    | inl volume ↦ inl volume
    | inr (inl deck) ↦ inr (inl deck)
    | inr (inr earlier) ↦ inr (inr (earlier-more steps more other.entry this.entry earlier))
  ];
}

-- entries of some steps are those of more
pub gapless-more : (steps more : List JobStep) (histories : List (List Entry))
    → AreGapless steps histories → AreGapless (steps ++ more) histories
gapless-more steps more histories gapless this entered = elim (gapless this entered) [
  | inl one ↦ inl one
  | inr (other, has, before) ↦ inr (other, has, before-more steps more other this before)
]

module _ {V : Type 0} (entries : V → List Entry) where
  -- volumes that stay gain nothing
  pub none-next : (volumes : List V) → ComeNext entries volumes volumes
  none-next volumes place volume entry near has =
      let it : List Entry = entries (get_or volumes place volume) in
      absurd (none-there (gained it it) entry (gained-is it it [] (sym (append-nil it))) has)

  -- nothing leaves no stamp out
  pub gapless-none : (steps : List JobStep) (volumes : List V)
      → All (λ (volume : V). entries volume ≡ []) volumes → AreGapless steps (map entries volumes)
  gapless-none steps volumes none this entered =
      let near = on-volume entries volumes this entered in
      let volume : V = some-volume entries volumes this.volume near in
      absurd (none-there (history_at (map entries volumes) this.volume) this.entry
      (there entries volumes this.volume volume near ∙ none this.volume volume near) entered)

  -- one more step
  module _ (follows : V → V → Type 0) (steps : List JobStep) (step : JobStep)
      (first mid now : List V) (before : AreSinceSteps entries follows steps first mid)
      (since : AreSinceStep entries follows step mid now)
      (gapless : AreGapless steps (map entries mid)) (next : ComeNext entries mid now) where
    -- what was entered is
    entered-later : (this : Numbered) → IsEntered (map entries mid) this
        → IsEntered (map entries now) this
    entered-later this entered =
        let near = on-volume entries mid this entered in
        let volume : V = some-volume entries mid this.volume near in
        let it : IsSinceStep entries follows step
        (get_or mid this.volume volume) (get_or now this.volume volume) =
        since.each this.volume volume near in
        subst (λ (them : List Entry). Contains them this.entry)
        (sym (there entries now this.volume volume (omega (arith, since.count, near)) ∙ it.grew))
        (Contains-append_left (entries (get_or mid this.volume volume)) it.more this.entry
        (subst (λ (them : List Entry). Contains them this.entry)
        (there entries mid this.volume volume near) entered))

    -- by an entry of the steps before
    of-before : (this : Numbered) → IsEntered (map entries mid) this → IsOfOneStep steps this.entry
    of-before this entered =
        let near = on-volume entries mid this entered in
        let volume : V = some-volume entries mid this.volume near in
        let near-first : this.volume < length first = omega (arith, before.count, near) in
        of-one steps (entries (get_or mid this.volume volume)) this.entry
        (before.each this.volume volume near-first).of_steps
        (subst (λ (them : List Entry). Contains them this.entry)
        (there entries mid this.volume volume near) entered)

    module _ (this : Numbered) (volume : V) (near : this.volume < length mid)
        (it : IsSinceStep entries follows step (get_or mid this.volume volume)
        (get_or now this.volume volume)) (has : Contains it.more this.entry) where
      abbrev Goal : Type 0
      Goal = IsNext 0 this.entry ⊎ ((other : Numbered) × IsEntered (map entries now) other
          × ComesBefore (steps ++ step ∷ []) other this)

      own : IsOfStep step this.entry
      own = All-contains (IsOfStep step) it.more this.entry it.own has

      after-start : IsNext (greatest_last entries mid) this.entry → Goal
      after-start is = elim (greatest-entry entries mid) [
        | inl none ↦ inl (is ∙ ap (λ (n : ℕ). n + 1) none)
        | inr (other, entered, at) ↦ inr (
          other,
          entered-later other entered,
          record {
            next = is ∙ ap (λ (n : ℕ). n + 1) (sym at);
            of = inr (inr (
              steps,
              step ∷ [],
              refl,
              of-before other entered,
              (step, first-there step [], own),
            ));
          },
        )
      ]

      after-one : FollowsOneOf (map entries now) this → Goal
      after-one follows = inr (
        follows.other,
        follows.entered,
        record {
          next = follows.next;
          of = elim follows.shares [
            | inl same ↦ inl same
            | inr same ↦ inr (inl same)
          ];
        },
      )

      new-one : Goal
      new-one = elim (next this.volume volume this.entry near
          (subst (λ (them : List Entry). Contains them this.entry)
          (sym (gained-is (entries (get_or mid this.volume volume))
          (entries (get_or now this.volume volume)) it.more it.grew)) has)) [
            | inl is ↦ after-start is
            | inr follows ↦ after-one follows
          ]

    old-one : (this : Numbered) → IsEntered (map entries mid) this
        → IsNext 0 this.entry ⊎ ((other : Numbered) × IsEntered (map entries now) other
        × ComesBefore (steps ++ step ∷ []) other this)
    old-one this entered = elim (gapless this entered) [
      | inl one ↦ inl one
      | inr (other, has, comes) ↦ inr (
        other,
        entered-later other has,
        before-more steps (step ∷ []) other this comes,
      )
    ]

    pub gapless-then : AreGapless (steps ++ step ∷ []) (map entries now)
    gapless-then this entered =
        let inside = on-volume entries now this entered in
        let near : this.volume < length mid = omega (arith, since.count, inside) in
        let volume : V = some-volume entries mid this.volume near in
        let it : IsSinceStep entries follows step
        (get_or mid this.volume volume) (get_or now this.volume volume) =
        since.each this.volume volume near in
        elim (Contains-append_cases (entries (get_or mid this.volume volume)) it.more this.entry
        (subst (λ (them : List Entry). Contains them this.entry)
        (there entries now this.volume volume inside ∙ it.grew) entered)) [
          | inl old ↦ old-one this (subst (λ (them : List Entry). Contains them this.entry)
              (sym (there entries mid this.volume volume near)) old)
          | inr new ↦ new-one this volume near it new
        ]
