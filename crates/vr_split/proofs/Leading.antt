-- How the entries of a head lead: by place, and by interval, where each has one of its own.
use Rattle.std.proofs.Common.{◌≡◌, ◌≢◌, ◌⊎◌, inl, inr, ⊎_elim, ℕ, Bool, true, false, List}
use Rattle.std.proofs.Common.{[], ◌∷◌, ◌++◌, ◌||◌, length, Option, Some, refl, sym, ap, subst, ◌∙◌}
use Rattle.std.proofs.Common.{arith, All, is_some, true≢false, eqb}
use Rattle.std.specs.Prelude.{cond, unwrap_or, slice_index}
use Rattle.std.specs.List.{flat_map, list_any, IsDistinct, AllByRecursion}
use Rattle.std.specs.Ordering.{is_le, is_lt}
use Rattle.std.proofs.lemmas.Bool.{eqb-false, eq-eqb, or_left}
use Rattle.std.proofs.lemmas.List.Elements.{All-head, All-tail}
use Rattle.std.proofs.lemmas.Map.Keys.{IsDistinct-head, IsDistinct-tail}
use Rattle.vr_types.specs.Content.{place_cmp}
use Rattle.vr_types.specs.Image.{Block}
use Rattle.vr_types.specs.Seen.{Seen, Only}
use Rattle.vr_seqset.specs.Entry.{Entry}
use Rattle.vr_space.specs.Room.{Range, is_in, is_above}
use Rattle.vr_space.specs.Keyed.{Keyed, IsHead, EachMayLeave, entries_of, entry_above, entry_block}
use Rattle.vr_space.specs.Keyed.{entry_for, entry_in, low_of, range_of}
use Rattle.vr_space.specs.UnderWay.{interval_block}
use Rattle.vr_space.proofs.CallerLemmas.{found-above, in-both, is_past}
use Rattle.vr_split.specs.Switching.{OfBlock}
use Rattle.vr_split.proofs.Puts.{of-found}

-- ---- by place

-- the first entry reaches the place
pub record IsHere (low : Option (List ℕ)) (entry : Entry) (place : List ℕ)
    (at : Range × Entry) : Type 0 where
  pub reaches : is_le (place_cmp place entry.high) ≡ true
  pub its_range : at.0 ≡ range_of low entry
  pub is_it : at.1 ≡ entry

-- or one of the others
pub record IsOn (entry : Entry) (entries : List Entry) (place : List ℕ)
    (at : Range × Entry) : Type 0 where
  pub past : is_le (place_cmp place entry.high) ≡ false
  pub further : entry_for (Some entry.high) entries place ≡ Some at

pub led : (low : Option (List ℕ)) (entry : Entry) (entries : List Entry) (place : List ℕ)
    (at : Range × Entry) → entry_for low (entry ∷ entries) place ≡ Some at
    → IsHere low entry place at ⊎ IsOn entry entries place at
led low entry entries place at is = by (is_le (place_cmp place entry.high)) refl is
  where
    by : (b : Bool) → is_le (place_cmp place entry.high) ≡ b
        → cond b (Some (range_of low entry, entry)) (entry_for (Some entry.high) entries place) ≡
        Some at → IsHere low entry place at ⊎ IsOn entry entries place at
    by true reach same =
        let found : (let pair : Range × Entry = (range_of low entry, entry) in pair) ≡ at =
        ap (λ (o : Option (Range × Entry)). unwrap_or o at) same in
        inl (record {
          reaches = reach;
          its_range = sym (ap (λ (f : Range × Entry). f.0) found);
          is_it = sym (ap (λ (f : Range × Entry). f.1) found);
        })
    by false past same = inr (record { past = past; further = same })

-- the entries lead to the first, or on
pub leads-here : (low : Option (List ℕ)) (entry : Entry) (entries : List Entry) (place : List ℕ)
    → is_le (place_cmp place entry.high) ≡ true
    → entry_for low (entry ∷ entries) place ≡ Some (range_of low entry, entry)
leads-here low entry entries place is =
    ap (λ (b : Bool). cond b (Some (range_of low entry, entry))
    (entry_for (Some entry.high) entries place)) is

pub leads-on : (low : Option (List ℕ)) (entry : Entry) (entries : List Entry) (place : List ℕ)
    → is_le (place_cmp place entry.high) ≡ false
    → entry_for low (entry ∷ entries) place ≡ entry_for (Some entry.high) entries place
leads-on low entry entries place is =
    ap (λ (b : Bool). cond b (Some (range_of low entry, entry))
    (entry_for (Some entry.high) entries place)) is

pub none-some : (place : List ℕ) (low : Option (List ℕ)) (at : Range × Entry)
    → entry_for low [] place ≡ Some at → ⊥
none-some place low at is = true≢false (ap is_some (sym is))

-- a place is in the range that it leads to
pub found-range : (low : Option (List ℕ)) (entries : List Entry) (place : List ℕ)
    (at : Range × Entry) → is_above low place ≡ true → entry_for low entries place ≡ Some at
    → is_in at.0 place ≡ true
found-range low [] place at above is = absurd (none-some place low at is)
found-range low (entry ∷ entries) place at above is = ⊎_elim
    (λ here. subst (λ (range : Range). is_in range place ≡ true) (sym here.its_range)
    (in-both (range_of low entry) place above here.reaches))
    (λ on. found-range (Some entry.high) entries place at
    (ap is_lt (is_past place entry.high on.past)) on.further)
    (led low entry entries place at is)

-- an entry that is found in a head is the first that reaches the place
pub in-leads : (top : Block) (place : List ℕ) (at : Range × Entry) → entry_in top place ≡ Some at
    → entry_for (low_of top) (entries_of top) place ≡ Some at
in-leads top place at is = (found-above (low_of top) (entries_of top) place at is).leads

-- and its range holds it
pub in-range : (low : Option (List ℕ)) (entries : List Entry) (place : List ℕ)
    (at : Range × Entry) → entry_above low entries place ≡ Some at → is_in at.0 place ≡ true
in-range low entries place at is =
    let found = found-above low entries place at is in
    found-range low entries place at found.above found.leads

-- what holds of each interval and its range holds of the one of a place
pub each-found : (part : Keyed) (now : Seen) (Q : Range → Block
    → Type 0) (low : Option (List ℕ)) (entries : List Entry) (place : List ℕ)
    (at : Range × Entry) → EachMayLeave part now low entries Q
    → entry_for low entries place ≡ Some at → Only now (entry_block part at.1) (Q at.0)
each-found part now Q low [] place at left is = absurd (none-some place low at is)
each-found part now Q low (entry ∷ entries) place at left is = ⊎_elim
    (λ here. subst (λ (e : Entry). Only now (entry_block part e) (Q at.0)) (sym here.is_it)
    (subst (λ (range : Range). Only now (entry_block part entry) (Q range)) (sym here.its_range)
    left.0))
    (λ on. each-found part now Q (Some entry.high) entries place at left.1 on.further)
    (led low entry entries place at is)

-- ---- by interval

abbrev pub slot : Entry → ℕ
slot entry = slice_index entry.intervals 0

-- no entry has the interval
abbrev pub OtherThan : ℕ → List Entry → Type 0
OtherThan n [] = Unit {0}
OtherThan n (entry ∷ entries) = (slot entry ≢ n) × OtherThan n entries

-- no two have one
abbrev pub AreApart : List Entry → Type 0
AreApart [] = Unit {0}
AreApart (entry ∷ entries) = OtherThan (slot entry) entries × AreApart entries

pub without-found : (n : ℕ) (low : Option (List ℕ)) (entries : List Entry) (place : List ℕ)
    (at : Range × Entry) → OtherThan n entries → entry_for low entries place ≡ Some at
    → slot at.1 ≢ n
without-found n low [] place at none is = absurd (none-some place low at is)
without-found n low (entry ∷ entries) place at none is = ⊎_elim
    (λ here same. none.0 (ap slot (sym here.is_it) ∙ same))
    (λ on. without-found n (Some entry.high) entries place at none.1 on.further)
    (led low entry entries place at is)

pub of-without : (part : Keyed) (n : ℕ) (P : Range → Type 0) (low : Option (List ℕ))
    (entries : List Entry) → OtherThan n entries
    → OfBlock part (interval_block part n) low entries P
of-without part n P low [] none = tt
of-without part n P low (entry ∷ entries) none = (
  λ here. absurd (none.0 (omega (arith, here))),
  of-without part n P (Some entry.high) entries none.1,
)

-- the range of the one entry that leads to a block
pub of-one : (part : Keyed) (P : Range → Type 0) (low : Option (List ℕ)) (entries : List Entry)
    (place : List ℕ) (at : Range × Entry) → AreApart entries
    → entry_for low entries place ≡ Some at → P at.0
    → OfBlock part (entry_block part at.1) low entries P
of-one part P low [] place at once is holds = tt
of-one part P low (entry ∷ entries) place at once is holds = ⊎_elim
    (λ here. (
      λ same. subst P here.its_range holds,
      subst (λ (e : Entry). OfBlock part (entry_block part e) (Some entry.high) entries P)
          (sym here.is_it) (of-without part (slot entry) P (Some entry.high) entries once.0),
    ))
    (λ on. (
      λ same. absurd (without-found (slot entry) (Some entry.high) entries place at once.0
          on.further (omega (arith, same))),
      of-one part P (Some entry.high) entries place at once.1 on.further holds,
    ))
    (led low entry entries place at is)

-- the same of a block that it leads to
pub of-same : (part : Keyed) (n : ℕ) (low : Option (List ℕ)) (entries : List Entry) (P : Range
    → Type 0) (place : List ℕ) (at : Range × Entry) → AreApart entries
    → entry_for low entries place ≡ Some at → entry_block part at.1 ≡ n → P at.0
    → OfBlock part n low entries P
of-same part n low entries P place at apart is here holds =
    subst (λ (k : ℕ). OfBlock part k low entries P) here
    (of-one part P low entries place at apart is holds)

-- places that lead to one block lead to one range
pub one-range : (part : Keyed) (low : Option (List ℕ)) (entries : List Entry)
    (place other : List ℕ) (at to : Range × Entry) → AreApart entries
    → entry_for low entries place ≡ Some at → entry_for low entries other ≡ Some to
    → entry_block part to.1 ≡ entry_block part at.1 → to.0 ≡ at.0
one-range part low entries place other at to once leads leads-too same =
    of-found part (entry_block part at.1) low entries (λ range. range ≡ at.0) other to
    (of-one part (λ range. range ≡ at.0) low entries place at once leads refl) leads-too same

-- what holds of each interval holds of those of a block
pub of-each : (part : Keyed) (now : Seen) (n : ℕ) (Q : Range → Block
    → Type 0) (low : Option (List ℕ)) (entries : List Entry)
    → EachMayLeave part now low entries Q
    → OfBlock part n low entries (λ range. Only now n (Q range))
of-each part now n Q low [] left = tt
of-each part now n Q low (entry ∷ entries) left = (
  λ here. subst (λ (k : ℕ). Only now k (Q (range_of low entry))) here left.0,
  of-each part now n Q (Some entry.high) entries left.1,
)

pub of-more : (part : Keyed) (n : ℕ) (P R : Range → Type 0) (low : Option (List ℕ))
    (entries : List Entry) → ((range : Range) → P range → R range)
    → OfBlock part n low entries P → OfBlock part n low entries R
of-more part n P R low [] more of = tt
of-more part n P R low (entry ∷ entries) more of = (
  λ here. more (range_of low entry) (of.0 here),
  of-more part n P R (Some entry.high) entries more of.1,
)

-- ---- the intervals of entries that have one each

abbrev pub AreSingle : List Entry → Type 0
AreSingle entries = All (λ (entry : Entry). length entry.intervals ≡ 1) entries

abbrev pub used : List Entry → List ℕ
used entries = flat_map (λ (entry : Entry). entry.intervals) entries

one_number : (ns : List ℕ) → length ns ≡ 1 → ns ≡ slice_index ns 0 ∷ []
one_number [] one = absurd (omega (arith, one))
one_number (n ∷ []) one = refl
one_number (n ∷ m ∷ ns) one = absurd (omega (arith, one))

pub single-numbers : (entry : Entry) → length entry.intervals ≡ 1
    → entry.intervals ≡ slot entry ∷ []
single-numbers entry one = one_number entry.intervals one

pub used-more : (entry : Entry) (entries : List Entry) → length entry.intervals ≡ 1
    → used (entry ∷ entries) ≡ slot entry ∷ used entries
used-more entry entries one =
    ap (λ (ns : List ℕ). ns ++ used entries) (single-numbers entry one)

without-of : (n : ℕ) (entries : List Entry) → AreSingle entries
    → AllByRecursion (λ m. eqb n m ≡ false) (used entries) → OtherThan n entries
without-of n [] single apart = tt
without-of n (entry ∷ entries) single apart =
    let first : length entry.intervals ≡ 1 =
    All-head (λ (e : Entry). length e.intervals ≡ 1) entry entries single in
    let all : AllByRecursion (λ m. eqb n m ≡ false) (slot entry ∷ used entries) =
    subst (AllByRecursion (λ m. eqb n m ≡ false)) (used-more entry entries first) apart in (
      λ same. eqb-false n (slot entry) all.0 (sym same),
      without-of n entries
          (All-tail (λ (e : Entry). length e.intervals ≡ 1) entry entries single) all.1,
    )

pub are-apart : (entries : List Entry) → AreSingle entries → IsDistinct eqb (used entries)
    → AreApart entries
are-apart [] single once = tt
are-apart (entry ∷ entries) single once =
    let first : length entry.intervals ≡ 1 =
    All-head (λ (e : Entry). length e.intervals ≡ 1) entry entries single in
    let others : AreSingle entries =
    All-tail (λ (e : Entry). length e.intervals ≡ 1) entry entries single in
    let all : IsDistinct eqb (slot entry ∷ used entries) =
    subst (IsDistinct eqb) (used-more entry entries first) once in (
      without-of (slot entry) entries others
          (IsDistinct-head eqb (slot entry) (used entries) all),
      are-apart entries others (IsDistinct-tail eqb (slot entry) (used entries) all),
    )

-- no two entries of a head have one interval
pub head-apart : (part : Keyed) (top : Block) → IsHead part top → AreApart (entries_of top)
head-apart part top head =
    are-apart (entries_of top) head.single head.spelled.rules.numbers.once

-- a number that is none of them
pub without-unused : (n : ℕ) (entries : List Entry) → AreSingle entries
    → list_any (eqb n) (used entries) ≡ false → OtherThan n entries
without-unused n [] single unused = tt
without-unused n (entry ∷ entries) single unused =
    let first : length entry.intervals ≡ 1 =
    All-head (λ (e : Entry). length e.intervals ≡ 1) entry entries single in
    let all : (eqb n (slot entry) || list_any (eqb n) (used entries)) ≡ false =
    ap (list_any (eqb n)) (sym (used-more entry entries first)) ∙ unused in (
      λ same. true≢false (sym (or_left (eqb n (slot entry)) (list_any (eqb n) (used entries))
          (eq-eqb n (slot entry) (sym same))) ∙ all),
      without-unused n entries
          (All-tail (λ (e : Entry). length e.intervals ≡ 1) entry entries single)
          (none-right (eqb n (slot entry)) (list_any (eqb n) (used entries)) all),
    )
  where
    none-right : (a b : Bool) → (a || b) ≡ false → b ≡ false
    none-right true b is = absurd (true≢false is)
    none-right false b is = is
