-- The units that are live in a log whose ends are all past.
use Rattle.std.proofs.Common.{◌≡◌, ◌⊎◌, inl, inr, ◌<◌, ℕ, Bool, true, false, cond, not, List, []}
use Rattle.std.proofs.Common.{◌∷◌, ◌++◌, Some, None, refl, sym, ap, ◌∙◌, arith, ◌&&◌, ◌||◌, filter}
use Rattle.std.specs.Prelude.{All}
use Rattle.std.specs.List.{cons_option, filter_map}
use Rattle.std.proofs.lemmas.Bool.{true≢false}
use Rattle.std.proofs.lemmas.List.{append-nil}
use Rattle.std.proofs.lemmas.List.Elements.{All-head, All-tail, filter_map-append}
use Rattle.vr_types.specs.Locks.{same_unit}
use Rattle.vr_types.specs.declared.unit.Unit.{Unit as UnitOfRecovery}
use Rattle.vr_log.specs.Live.{is_in, live_after, live_from, live_in, without}
use Rattle.vr_log.specs.declared.record.EndKind.{EndKind}
use Rattle.vr_log.specs.declared.record.LogRecord.{LogRecord}
use Rattle.vr_log.specs.declared.record.LogRecord.TheVariants.{Before, End}
use Rattle.vr_history.specs.Effects.{is_other}
use Rattle.vr_history.specs.State.{BeforeImage}
use Rattle.vr_history.proofs.CallerLemmas.{unit_self}
use Rattle.vr_history.proofs.Same.{unit_same}
use Rattle.vr_volume.specs.Committed.{IsCurrent, IsPast}
use Rattle.vr_volume.specs.Logged.{HasNoneOf}
use Rattle.vr_volume.specs.PutBack.{image_in, images_of}
use Rattle.vr_volume.proofs.Images.{image_of, in-last, live-append}

-- the test of units goes both ways
pub same-flip : (unit other : UnitOfRecovery) → same_unit unit other ≡ same_unit other unit
same-flip unit other = by_test (same_unit unit other) (same_unit other unit) refl refl
  where
    by_test : (one two : Bool) → same_unit unit other ≡ one → same_unit other unit ≡ two
        → one ≡ two
    by_test true true is was = refl
    by_test false false is was = refl
    by_test true false is was =
        let it : unit ≡ other = unit_same unit other is in
        absurd (true≢false (sym (unit_self unit)
        ∙ ap (λ (u : UnitOfRecovery). same_unit u unit) it ∙ was))
    by_test false true is was =
        let it : other ≡ unit = unit_same other unit was in
        absurd (true≢false (sym (unit_self unit)
        ∙ ap (λ (u : UnitOfRecovery). same_unit unit u) (sym it) ∙ is))

-- ---- a unit that is live stays so while others end

in-left : (unit : UnitOfRecovery) (live more : List UnitOfRecovery) → is_in unit live ≡ true
    → is_in unit (live ++ more) ≡ true
in-left unit [] more there = absurd (true≢false (sym there))
in-left unit (first ∷ live) more there =
    by_first (same_unit unit first) there (in-left unit live more)
  where
    by_first : (b : Bool) → (b || is_in unit live) ≡ true
        → (is_in unit live ≡ true → is_in unit (live ++ more) ≡ true)
        → (b || is_in unit (live ++ more)) ≡ true
    by_first true is further = refl
    by_first false is further = further is

without-other : (unit other : UnitOfRecovery) (live : List UnitOfRecovery)
    → same_unit unit other ≡ false → is_in unit live ≡ true → is_in unit (without other live) ≡ true
without-other unit other [] apart there = there
without-other unit other (first ∷ live) apart there =
    by_first (same_unit unit first) (same_unit other first) refl refl there
    (without-other unit other live apart)
  where
    by_first : (mine theirs : Bool) → same_unit unit first ≡ mine → same_unit other first ≡ theirs
        → (mine || is_in unit live) ≡ true
        → (is_in unit live ≡ true → is_in unit (without other live) ≡ true)
        → is_in unit (cond theirs live (first ∷ without other live)) ≡ true
    by_first true true is was here further =
        let one : unit ≡ first = unit_same unit first is in
        let two : other ≡ first = unit_same other first was in
        absurd (true≢false (sym (unit_self unit)
        ∙ ap (λ (u : UnitOfRecovery). same_unit unit u) (one ∙ sym two) ∙ apart))
    by_first true false is was here further =
        ap (λ (b : Bool). b || is_in unit (without other live)) is
    by_first false true is was here further = here
    by_first false false is was here further =
        ap (λ (b : Bool). b || is_in unit (without other live)) is ∙ further here

-- a current unit isn't one that has ended
pub past-apart : (numbers : ℕ → ℕ) (unit other : UnitOfRecovery)
    → other.number < numbers other.deck → IsCurrent numbers unit → same_unit unit other ≡ false
past-apart numbers unit other below current = by_same (same_unit unit other) refl
  where
    by_same : (same : Bool) → same_unit unit other ≡ same → same ≡ false
    by_same true is =
        let it : unit ≡ other = unit_same unit other is in
        let now : unit.number ≡ numbers unit.deck = current in
        absurd (omega (
          arith,
          below,
          now,
          ap (λ (u : UnitOfRecovery). u.number) it,
          ap (λ (u : UnitOfRecovery). numbers u.deck) it,
        ))
    by_same false is = refl

module _ (numbers : ℕ → ℕ) (unit : UnitOfRecovery) (current : IsCurrent numbers unit) where
  in-after : (live : List UnitOfRecovery) (other : UnitOfRecovery) → is_in unit live ≡ true
      → (there : Bool) → is_in unit (cond there live (live ++ other ∷ [])) ≡ true
  in-after live other there true = there
  in-after live other there false = in-left unit live (other ∷ []) there

  pub live-stays : (live : List UnitOfRecovery) (records : List LogRecord)
      → All (IsPast numbers) records → is_in unit live ≡ true
      → is_in unit (live_from live records) ≡ true
  unfolding live_after
  live-stays live [] past there = there
  live-stays live (Before other part place old ∷ records) past there =
      live-stays (live_after live (Before other part place old)) records
      (All-tail (IsPast numbers) (Before other part place old) records past)
      (in-after live other there (is_in other live))
  live-stays live (End other kind ∷ records) past there =
      live-stays (without other live) records
      (All-tail (IsPast numbers) (End other kind) records past)
      (without-other unit other live (past-apart numbers unit other
      (All-head (IsPast numbers) (End other kind) records past) current) there)

  is-live-now : (live : List UnitOfRecovery) (other : UnitOfRecovery)
      → same_unit other unit ≡ true → (there : Bool) → is_in other live ≡ there
      → is_in unit (cond there live (live ++ other ∷ [])) ≡ true
  is-live-now live other same true is =
      ap (λ (u : UnitOfRecovery). is_in u live) (sym (unit_same other unit same)) ∙ is
  is-live-now live other same false is =
      ap (λ (u : UnitOfRecovery). is_in unit (live ++ u ∷ [])) (unit_same other unit same)
      ∙ in-last unit live (unit_self unit)

  -- it is live, or the log has no before-image of it
  pub live-or-none : (live : List UnitOfRecovery) (records : List LogRecord)
      → All (IsPast numbers) records
      → (is_in unit (live_from live records) ≡ true) ⊎ HasNoneOf unit records
  unfolding live_after
  live-or-none live [] past = inr tt
  live-or-none live (Before other part place old ∷ records) past =
      by_same (same_unit other unit) refl
      (live-or-none (live_after live (Before other part place old)) records later)
    where
      later : All (IsPast numbers) records
      later = All-tail (IsPast numbers) (Before other part place old) records past

      by_same : (same : Bool) → same_unit other unit ≡ same
          → (is_in unit (live_from (live_after live (Before other part place old)) records) ≡ true)
          ⊎ HasNoneOf unit records
          → (is_in unit (live_from (live_after live (Before other part place old)) records) ≡ true)
          ⊎ HasNoneOf unit (Before other part place old ∷ records)
      by_same true is further = inl (live-stays (live_after live (Before other part place old))
          records later (is-live-now live other is (is_in other live) refl))
      by_same false is (inl there) = inl there
      by_same false is (inr none) = inr (is, none)
  live-or-none live (End other kind ∷ records) past = live-or-none (without other live) records
      (All-tail (IsPast numbers) (End other kind) records past)

-- ---- each unit is live once

abbrev pub AreOnce : List UnitOfRecovery → Type 0
AreOnce [] = Unit {0}
AreOnce (unit ∷ units) = (is_in unit units ≡ false) × AreOnce units

not-in : (other unit : UnitOfRecovery) (units : List UnitOfRecovery) → is_in other units ≡ false
    → same_unit other unit ≡ false → is_in other (units ++ unit ∷ []) ≡ false
not-in other unit [] none apart = ap (λ (b : Bool). b || false) apart
not-in other unit (next ∷ units) none apart = by_next (same_unit other next) none
    (λ further. not-in other unit units further apart)
  where
    by_next : (b : Bool) → (b || is_in other units) ≡ false
        → (is_in other units ≡ false → is_in other (units ++ unit ∷ []) ≡ false)
        → (b || is_in other (units ++ unit ∷ [])) ≡ false
    by_next true is further = absurd (true≢false is)
    by_next false is further = further is

once-append : (live : List UnitOfRecovery) (unit : UnitOfRecovery) → AreOnce live
    → is_in unit live ≡ false → AreOnce (live ++ unit ∷ [])
once-append [] unit once none = (refl, tt)
once-append (first ∷ live) unit once none =
    by_same (same_unit unit first) refl none (once-append live unit once.1)
  where
    by_same : (same : Bool) → same_unit unit first ≡ same → (same || is_in unit live) ≡ false
        → (is_in unit live ≡ false → AreOnce (live ++ unit ∷ []))
        → AreOnce (first ∷ live ++ unit ∷ [])
    by_same true is none further = absurd (true≢false none)
    by_same false is none further =
        (not-in first unit live once.0 (same-flip first unit ∙ is), further none)

without-fewer : (unit gone : UnitOfRecovery) (live : List UnitOfRecovery) → is_in unit live ≡ false
    → is_in unit (without gone live) ≡ false
without-fewer unit gone [] none = none
without-fewer unit gone (first ∷ live) none =
    by_first (same_unit unit first) (same_unit gone first) refl none (without-fewer unit gone live)
  where
    by_first : (mine theirs : Bool) → same_unit unit first ≡ mine
        → (mine || is_in unit live) ≡ false
        → (is_in unit live ≡ false → is_in unit (without gone live) ≡ false)
        → is_in unit (cond theirs live (first ∷ without gone live)) ≡ false
    by_first true theirs is none further = absurd (true≢false none)
    by_first false true is none further = none
    by_first false false is none further =
        ap (λ (b : Bool). b || is_in unit (without gone live)) is ∙ further none

once-without : (gone : UnitOfRecovery) (live : List UnitOfRecovery) → AreOnce live
    → AreOnce (without gone live)
once-without gone [] once = tt
once-without gone (first ∷ live) once =
    by_gone (same_unit gone first) (once-without gone live once.1)
  where
    by_gone : (b : Bool) → AreOnce (without gone live)
        → AreOnce (cond b live (first ∷ without gone live))
    by_gone true further = once.1
    by_gone false further = (without-fewer first gone live once.0, further)

pub live-once : (live : List UnitOfRecovery) (records : List LogRecord) → AreOnce live
    → AreOnce (live_from live records)
unfolding live_after
live-once live [] once = once
live-once live (Before other part place old ∷ records) once =
    live-once (live_after live (Before other part place old)) records
    (by_there (is_in other live) refl)
  where
    by_there : (there : Bool) → is_in other live ≡ there
        → AreOnce (cond there live (live ++ other ∷ []))
    by_there true is = once
    by_there false is = once-append live other once is
live-once live (End other kind ∷ records) once =
    live-once (without other live) records (once-without other live once)

-- who is live without a unit: the others
pub in-without : (other gone : UnitOfRecovery) (live : List UnitOfRecovery) → AreOnce live
    → is_in other (without gone live) ≡ (is_other gone other && is_in other live)
in-without other gone [] once = by_other (is_other gone other)
  where
    by_other : (b : Bool) → false ≡ (b && false)
    by_other true = refl
    by_other false = refl
in-without other gone (first ∷ live) once =
    by_first (same_unit other first) (same_unit gone first) (same_unit gone other) refl refl refl
    (in-without other gone live once.1)
  where
    by_first : (mine theirs same : Bool) → same_unit other first ≡ mine
        → same_unit gone first ≡ theirs → same_unit gone other ≡ same
        → is_in other (without gone live) ≡ (not same && is_in other live)
        → is_in other (cond theirs live (first ∷ without gone live))
        ≡ (not same && (mine || is_in other live))
    by_first true true true is was it further =
        ap (λ (u : UnitOfRecovery). is_in u live) (unit_same other first is) ∙ once.0
    by_first true true false is was it further =
        let one : gone ≡ other = unit_same gone first was ∙ sym (unit_same other first is) in
        absurd (true≢false (sym (unit_self gone)
        ∙ ap (λ (u : UnitOfRecovery). same_unit gone u) one ∙ it))
    by_first true false true is was it further =
        let one : gone ≡ first = unit_same gone other it ∙ unit_same other first is in
        absurd (true≢false (sym (unit_self gone)
        ∙ ap (λ (u : UnitOfRecovery). same_unit gone u) one ∙ was))
    by_first true false false is was it further =
        ap (λ (b : Bool). b || is_in other (without gone live)) is
    by_first false true true is was it further =
        let one : other ≡ first = sym (unit_same gone other it) ∙ unit_same gone first was in
        absurd (true≢false (sym (unit_self other)
        ∙ ap (λ (u : UnitOfRecovery). same_unit other u) one ∙ is))
    by_first false true false is was it further = refl
    by_first false false true is was it further =
        ap (λ (b : Bool). b || is_in other (without gone live)) is ∙ further
    by_first false false false is was it further =
        ap (λ (b : Bool). b || is_in other (without gone live)) is ∙ further

-- the images of a log with the end of a unit are those of the other units
others-images : (gone : UnitOfRecovery) (live : List UnitOfRecovery) (records : List LogRecord)
    → AreOnce live → filter_map (image_in (without gone live)) records
    ≡ filter (λ (image : BeforeImage). is_other gone image.unit)
    (filter_map (image_in live) records)
others-images gone live [] once = refl
others-images gone live (End unit kind ∷ records) once = others-images gone live records once
others-images gone live (Before unit part place old ∷ records) once =
    ap (λ (b : Bool). cons_option (cond b (Some (image_of unit part place old)) None)
    (filter_map (image_in (without gone live)) records)) (in-without unit gone live once)
    ∙ ap (cons_option (cond (is_other gone unit && is_in unit live)
    (Some (image_of unit part place old)) None)) (others-images gone live records once)
    ∙ by_test (is_other gone unit) refl (is_in unit live)
  where
    rest : List BeforeImage
    rest = filter_map (image_in live) records

    kept : List BeforeImage → List BeforeImage
    kept images = filter (λ (image : BeforeImage). is_other gone image.unit) images

    by_test : (theirs : Bool) → is_other gone unit ≡ theirs → (there : Bool)
        → cons_option (cond (theirs && there) (Some (image_of unit part place old))
        None) (kept rest)
        ≡ kept (cons_option (cond there (Some (image_of unit part place old)) None)
        rest)
    by_test true is true =
        sym (ap (λ (b : Bool). cond b (image_of unit part place old ∷ kept rest) (kept rest)) is)
    by_test false is true =
        sym (ap (λ (b : Bool). cond b (image_of unit part place old ∷ kept rest) (kept rest)) is)
    by_test true is false = refl
    by_test false is false = refl

pub other-images : (gone : UnitOfRecovery) (records : List LogRecord)
    → filter_map (image_in (without gone (live_in records))) records
    ≡ filter (λ (image : BeforeImage). is_other gone image.unit) (images_of records)
other-images gone records = others-images gone (live_in records) records (live-once [] records tt)

-- so are those of all its records
pub left-images : (records : List LogRecord) (unit : UnitOfRecovery) (kind : EndKind)
    → images_of (records ++ End unit kind ∷ [])
    ≡ filter (λ (image : BeforeImage). is_other unit image.unit) (images_of records)
unfolding live_after
left-images records unit kind =
    ap (λ (live : List UnitOfRecovery). filter_map (image_in live) (records ++ End unit kind ∷ []))
    (live-append [] records (End unit kind))
    ∙ filter_map-append (image_in (without unit (live_in records))) records (End unit kind ∷ [])
    ∙ append-nil (filter_map (image_in (without unit (live_in records))) records)
    ∙ other-images unit records
