-- Whether each slot for which a record is kept has its interval: by the first of them that is past
-- the last slot of the chain.
use Rattle.std.proofs.Common.{◌≡◌, ⊎_elim, ◌<◌, ◌≤◌, ◌+◌, ◌*◌, ◌^◌, ℕ, Bool, true, false}
use Rattle.std.proofs.Common.{List, [], ◌∷◌, Option, Some, None, refl, sym, ap, ◌∙◌, arith}
use Rattle.std.proofs.Common.{true≢false}
use Rattle.std.specs.Prelude.{◌↔◌, All, IsTrue, MatchOption, cond, filter, not}
use Rattle.std.specs.Option.{is_some}
use Rattle.std.specs.Ordering.{is_lt, ordering_reverse}
use Rattle.std.specs.declared.cmp.Ordering.{Ordering}
use Rattle.std.specs.declared.cmp.Ordering.TheVariants.{Less, Equal, Greater}
use Rattle.std.proofs.Math.Nat.{div-lt_iff_lt-mul, le-div_iff_mul-le}
use Rattle.std.proofs.lemmas.Bool.{cases_lt}
use Rattle.std.proofs.lemmas.Cmp.{nat_list_cmp_total}
use Rattle.std.proofs.lemmas.List.Elements.{All-cons, All-head, All-nil, All-tail}
use Rattle.vr_types.specs.Content.{place_cmp}
use Rattle.vr_types.specs.Fields.{four}
use Rattle.vr_types.specs.Geometry.{area_count}
use Rattle.vr_types.specs.Image.{Image, block_at}
use Rattle.vr_space.specs.Room.{Lengths}
use Rattle.vr_space.specs.Rosters.{IsChained, IsNumbered, IsOf, Numbered, chain_of, used_of}
use Rattle.vr_space.specs.Numbered.{HasKeptPlace, IsFilled, IsNumberPlace, KeepsNumbered}
use Rattle.vr_space.specs.Numbered.{chain_block, interval_of, number_of, span_of, start_of}
use Rattle.vr_space.specs.Whence.{first_of, places_kept}
use Rattle.vr_space.proofs.CallerLemmas.{HasKeptLength, four-rises, interval-used, number-below}
use Rattle.vr_space.proofs.CallerLemmas.{same_is_equal, slot-length, span-some, used-interval}
use Rattle.vr_chained.specs.Walked.{IsThere}

abbrev pub IsNumberEntry : Numbered → List ℕ × ℕ → Type 0
IsNumberEntry part entry = IsNumberPlace part entry.0

-- the place is past that of the number
abbrev pub is_past : ℕ → List ℕ → Bool
is_past n place = is_lt (place_cmp (four n) place)

-- then its number is higher, and the other way round
past-is : (part : Numbered) (n : ℕ) (place : List ℕ) → IsNumberPlace part place
    → n < number_of place → is_past n place ≡ true
past-is part n place is less =
    let rises : place_cmp (four n) (four (number_of place)) ≡ Less =
    four-rises n (number_of place) less (number-below place is.bytes) in
    ap is_lt (ap (place_cmp (four n)) is.bytes ∙ rises)

not-past : (part : Numbered) (n : ℕ) (place : List ℕ) → IsNumberPlace part place
    → is_past n place ≡ false → number_of place ≤ n
not-past part n place is fails = ⊎_elim
    (λ less. absurd (true≢false (sym (past-is part n place is less) ∙ fails))) (λ most. most)
    (cases_lt n (number_of place))

is-past : (part : Numbered) (n : ℕ) (place : List ℕ) → n < 2 ^ 32 → IsNumberPlace part place
    → is_past n place ≡ true → n < number_of place
is-past part n place below is passes = ⊎_elim (λ less. less)
    (λ most. absurd (⊎_elim
    (λ lower. other Greater (ap (place_cmp (four n)) is.bytes
    ∙ nat_list_cmp_total.antisymm (four n) (four (number_of place))
    ∙ ap ordering_reverse (four-rises (number_of place) n lower below)) refl)
    (λ least. other Equal (ap (place_cmp (four n)) (is.bytes
    ∙ ap four (omega (arith, most, least))) ∙ same_is_equal (four n)) refl)
    (cases_lt (number_of place) n)))
    (cases_lt n (number_of place))
  where
    other : (order : Ordering) → place_cmp (four n) place ≡ order → is_lt order ≡ false → ⊥
    other order same fails = true≢false (sym passes ∙ ap is_lt same ∙ fails)

module _ (part : Numbered) (image : Image) (numbered : IsNumbered part)
    (chain : IsChained part (IsThere part) (IsFilled part) (IsOf image)) (n : ℕ)
    (n-is : n + 1 ≡ start_of part + used_of part image * span_of part) (below : n < 2 ^ 32)
    (relative : part.relative ≡ true) where
  -- a slot that isn't past the last one is in the chain
  in-chain : (place : List ℕ) → IsNumberPlace part place → number_of place ≤ n
      → interval_of part place < used_of part image
  in-chain place is most =
      (div-lt_iff_lt-mul (span-some part numbered)).1 (omega (arith, is.some, most, n-is))

  -- and one past it isn't
  past-chain : (place : List ℕ) → n < number_of place
      → used_of part image ≤ interval_of part place
  past-chain place less =
      (le-div_iff_mul-le (span-some part numbered)).1 (omega (arith, less, n-is))

  -- where there is none past it
  pub rooms-none : (kept : Lengths) → All (IsNumberEntry part) kept
      → first_of (filter (is_past n) (places_kept kept)) ≡ None
      → KeepsNumbered part kept (IsOf image)
  rooms-none [] places none = All-nil (HasKeptPlace part (IsOf image))
  rooms-none (entry ∷ kept) places none =
      by_test (is_past n entry.0) refl none
      (λ rest. rooms-none kept (All-tail (IsNumberEntry part) entry kept places) rest)
    where
      place : IsNumberPlace part entry.0
      place = All-head (IsNumberEntry part) entry kept places

      by_test : (past : Bool) → is_past n entry.0 ≡ past
          → first_of (cond past (entry.0 ∷ filter (is_past n) (places_kept kept))
          (filter (is_past n) (places_kept kept))) ≡ None
          → (first_of (filter (is_past n) (places_kept kept)) ≡ None
          → KeepsNumbered part kept (IsOf image))
          → KeepsNumbered part (entry ∷ kept) (IsOf image)
      by_test true is ends more = absurd cc
      by_test false is ends more = All-cons (HasKeptPlace part (IsOf image)) entry kept
          (record {
            place = place;
            interval = used-interval part (IsThere part) (IsFilled part) (HasKeptLength part entry)
                image (omega (arith, numbered.allowed.some_intervals)) (area_count part.geometry)
                (interval_of part entry.0) part.first chain
                (in-chain entry.0 place (not-past part n entry.0 place is))
                (slot-length part relative entry (block_at image
                (chain_block part (chain_of part image) (interval_of part entry.0))));
          })
          (more ends)

  -- where there is one
  pub rooms-some : (kept : Lengths) → All (IsNumberEntry part) kept → (at : List ℕ)
      → first_of (filter (is_past n) (places_kept kept)) ≡ Some at
      → KeepsNumbered part kept (IsOf image) → ⊥
  rooms-some [] places at some keeps = absurd cc
  rooms-some (entry ∷ kept) places at some keeps =
      by_test (is_past n entry.0) refl some
      (λ rest. rooms-some kept (All-tail (IsNumberEntry part) entry kept places) at rest
      (All-tail (HasKeptPlace part (IsOf image)) entry kept keeps))
    where
      place : IsNumberPlace part entry.0
      place = All-head (IsNumberEntry part) entry kept places

      by_test : (past : Bool) → is_past n entry.0 ≡ past
          → first_of (cond past (entry.0 ∷ filter (is_past n) (places_kept kept))
          (filter (is_past n) (places_kept kept))) ≡ Some at
          → (first_of (filter (is_past n) (places_kept kept)) ≡ Some at → ⊥) → ⊥
      by_test true is one more =
          let has = (All-head (HasKeptPlace part (IsOf image)) entry kept keeps).interval in
          let used = interval-used part (IsThere part) (IsFilled part) (HasKeptLength part entry)
          image (area_count part.geometry) (interval_of part entry.0) part.first chain has in
          omega (arith, used, past-chain entry.0 (is-past part n entry.0 below place is))
      by_test false is one more = more one

  -- by what is found
  pub rooms-by : {X : Type 0} (place_in : X → List ℕ) (kept : Lengths)
      → All (IsNumberEntry part) kept → (found : Option X)
      → MatchOption found (first_of (filter (is_past n) (places_kept kept)) ≡ None)
      (λ (x : X). first_of (filter (is_past n) (places_kept kept)) ≡ Some (place_in x))
      → (is : Bool) → is_some found ≡ not is → IsTrue is ↔ KeepsNumbered part kept (IsOf image)
  rooms-by place_in kept places None none true same =
      (λ _. rooms-none kept places none, λ _. refl)
  rooms-by place_in kept places None none false same = absurd (true≢false (sym same))
  rooms-by place_in kept places (Some x) some true same = absurd (true≢false same)
  rooms-by place_in kept places (Some x) some false same = (
    λ yes. absurd (true≢false (sym yes)),
    λ keeps. absurd (rooms-some kept places (place_in x) some keeps),
  )
