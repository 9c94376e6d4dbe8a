-- Lengths that are gathered: of the records of an interval, and of what is kept for its places.
use Rattle.std.proofs.Common.{◌≡◌, ◌≢◌, ⊎_elim, ℕ, ◌+◌, ◌-◌, ◌≤◌, Bool, true}
use Rattle.std.proofs.Common.{false, List, [], ◌∷◌, ◌++◌, Option, Some, None, length, map}
use Rattle.std.proofs.Common.{drop}
use Rattle.std.proofs.Common.{All, refl, sym, ap, subst, ◌∙◌, arith, true≢false, append_assoc}
use Rattle.std.proofs.Common.{◌&&◌}
use Rattle.std.specs.Prelude.{cond, filter, unwrap_or, MatchBool}
use Rattle.std.specs.List.Sorted.{IsStrictlySortedBy}
use Rattle.std.specs.Ordering.{is_le, is_lt}
use Rattle.std.specs.declared.cmp.Ordering.{Ordering}
use Rattle.std.specs.declared.cmp.Ordering.TheVariants.{Less, Equal, Greater}
use Rattle.std.proofs.lemmas.Bool.{leb-true}
use Rattle.std.proofs.lemmas.Cmp.{nat_list_cmp_total, tied_itself}
use Rattle.std.proofs.lemmas.List.{append-nil, length-append, length-take, length-drop}
use Rattle.std.proofs.lemmas.List.Elements.{All-head, All-tail, All-cons, All-nil}
use Rattle.std.proofs.lemmas.List.Kept.{IsStrictlySortedBy-filter}
use Rattle.vr_types.specs.Content.{Placed, place_cmp}
use Rattle.vr_types.specs.Image.{Block}
use Rattle.vr_types.proofs.CallerLemmas.{same_place}
use Rattle.vr_ci.specs.Interval as ci
use Rattle.vr_ci.specs.Interval.{room}
use Rattle.vr_ci_match.specs.declared.form.Form.TheVariants.{Plain}
use Rattle.vr_ci.proofs.CallerLemmas.{interval_room}
use Rattle.vr_space.specs.Whence.{first_of, places_kept}
use Rattle.vr_space.specs.Room.{Lengths, Range, AscendLengths, is_in, is_above, weight, with_length}
use Rattle.vr_space.specs.Room.{with_lengths, lengths_in, length_at, length_by, HaveRoom}
use Rattle.vr_space.specs.Keyed.{Keyed, IsKept, IsValid, key_of, placed, length_of}
use Rattle.vr_space.specs.Keyed.{HoldsRange}
use Rattle.vr_space.specs.Room.{have_room}
use Rattle.vr_space.proofs.CallerLemmas.{items-read, above-more, in-above, in-most, in-both}
use Rattle.vr_space.proofs.CallerLemmas.{in-past}
use Rattle.vr_space.proofs.CallerLemmas.{is_past, not_past}
use Rattle.vr_split.specs.Weights.{LengthsRoom, HasNoRoom}
use Rattle.vr_split.proofs.CallerLemmas.{with_length-after, weight-with, weight_places}
use Rattle.vr_split.proofs.CallerLemmas.{ArePast}
use Rattle.vr_keyed.specs.Lent.{lengths_among, ArePlaces, HasRoomFor}
use Rattle.vr_keyed.specs.Lent.{with_record}

-- ---- the records of an interval

abbrev pub key_in : Keyed → ci.Item → List ℕ
key_in part item = key_of part item.bytes

-- the places of those in a range are the keys in it
among-places : (part : Keyed) (range : Range) (items : List ci.Item)
    → map (λ (entry : List ℕ × ℕ). entry.0) (lengths_among part range items)
    ≡ filter (is_in range) (map (key_in part) items)
among-places part range [] = refl
among-places part range (item ∷ items) =
    by (is_in range (key_in part item)) (among-places part range items)
  where
    rest : List Placed
    rest = filter (λ (entry : Placed). is_in range entry.0) (map (placed part) items)

    by : (b : Bool) → map (λ (entry : List ℕ × ℕ). entry.0) (map length_of rest)
        ≡ filter (is_in range) (map (key_in part) items)
        → map (λ (entry : List ℕ × ℕ). entry.0)
        (map length_of (cond b (placed part item ∷ rest) rest))
        ≡ cond b (key_in part item ∷ filter (is_in range) (map (key_in part) items))
        (filter (is_in range) (map (key_in part) items))
    by true more = ap (λ (l : List (List ℕ)). key_in part item ∷ l) more
    by false more = more

pub among-ascend : (part : Keyed) (range : Range) (items : List ci.Item)
    → IsStrictlySortedBy place_cmp (map (key_in part) items)
    → AscendLengths (lengths_among part range items)
among-ascend part range items ascends =
    subst (IsStrictlySortedBy place_cmp) (sym (among-places part range items))
    (IsStrictlySortedBy-filter place_cmp (is_in range) (map (key_in part) items) ascends)

-- they weigh no more than all
pub among-weight : (part : Keyed) (range : Range) (items : List ci.Item)
    → weight (lengths_among part range items) ≤ room items
among-weight part range [] = omega arith
among-weight part range (item ∷ items) =
    by (is_in range (key_in part item)) (among-weight part range items)
  where
    rest : List Placed
    rest = filter (λ (entry : Placed). is_in range entry.0) (map (placed part) items)

    by : (b : Bool) → weight (map length_of rest) ≤ room items
        → weight (map length_of (cond b (placed part item ∷ rest) rest)) ≤ room (item ∷ items)
    by true more = omega (arith, more)
    by false more = omega (arith, more)

-- the first of ascending places are below the next
below_next : (xs : Lengths) (next : List ℕ × ℕ) (ys : Lengths) → AscendLengths (xs ++ next ∷ ys)
    → All (λ (entry : List ℕ × ℕ). place_cmp entry.0 next.0 ≡ Less) xs
unfolding IsStrictlySortedBy
below_next [] next ys ascend = All-nil (λ (entry : List ℕ × ℕ). place_cmp entry.0 next.0 ≡ Less)
below_next (entry ∷ xs) next ys ascend =
    All-cons (λ (entry : List ℕ × ℕ). place_cmp entry.0 next.0 ≡ Less) entry xs
    (first xs ascend.0) (below_next xs next ys ascend.1)
  where
    first : (xs : Lengths) → ArePast entry.0 (xs ++ next ∷ ys) → place_cmp entry.0 next.0 ≡ Less
    first [] past = past.0
    first (x ∷ xs) past = first xs past.1

-- a place that comes after the others is added after them
pub added_last : (xs ys : Lengths) (place : List ℕ) (n : ℕ) → AscendLengths (xs ++ (place, n) ∷ ys)
    → with_length xs place n ++ ys ≡ xs ++ (place, n) ∷ ys
added_last xs ys place n ascend =
    ap (λ (l : Lengths). with_length l place n ++ ys) (sym (append-nil xs))
    ∙ ap (λ (l : Lengths). l ++ ys)
    (with_length-after xs [] place n (below_next xs (place, n) ys ascend))
    ∙ append_assoc xs ((place, n) ∷ []) ys

-- The records before these are gathered, of so many.
pub record IsGathering (part : Keyed) (range : Range) (all left : List ci.Item)
    (lengths : Lengths) (i : ℕ) : Type 0 where
  pub kept : All (IsKept part) left
  pub whole : lengths ++ lengths_among part range left ≡ lengths_among part range all
  pub count : length left + i ≡ length all

module _ (part : Keyed) (range : Range) (all old left : List ci.Item) (lengths : Lengths)
    (i : ℕ) (item : ci.Item) where
  -- the next record
  pub gather-more : (new : Lengths) → old ≡ item ∷ left
      → AscendLengths (lengths_among part range all)
      → (IsKept part item → new ≡ with_record part range lengths item.bytes)
      → IsGathering part range all old lengths i → IsGathering part range all left new (i + 1)
  gather-more new cut ascend added gathering =
      let kept : All (IsKept part) (item ∷ left) = subst (All (IsKept part)) cut gathering.kept in
      let whole : lengths ++ lengths_among part range (item ∷ left)
      ≡ lengths_among part range all =
      ap (λ (l : List ci.Item). lengths ++ lengths_among part range l) (sym cut)
      ∙ gathering.whole in
      record {
        kept = All-tail (IsKept part) item left kept;
        whole = ap (λ (l : Lengths). l ++ lengths_among part range left)
            (added (All-head (IsKept part) item left kept))
            ∙ by (is_in range (key_in part item)) whole;
        count = omega (arith, ap length cut, gathering.count);
      }
    where
      rest : List Placed
      rest = filter (λ (entry : Placed). is_in range entry.0) (map (placed part) left)

      by : (b : Bool)
          → lengths ++ map length_of (cond b (placed part item ∷ rest) rest)
          ≡ lengths_among part range all
          → cond b (with_length lengths (key_in part item) (length item.bytes)) lengths
          ++ map length_of rest ≡ lengths_among part range all
      by true whole =
          added_last lengths (map length_of rest) (key_in part item) (length item.bytes)
          (subst AscendLengths (sym whole) ascend) ∙ whole
      by false whole = whole

pub length-key : (part : Keyed) (bytes : List ℕ) → IsValid part bytes
    → length (key_of part bytes) ≡ part.key
length-key part bytes valid =
    omega (
      arith,
      length-take part.key (drop part.offset bytes),
      length-drop part.offset bytes,
      valid.least,
    )

-- lengths that have room in an interval have it here
no_more : (part : Keyed) (now : LengthsRoom) (place : List ℕ) (all : Lengths)
    → HasRoomFor part now → length place ≡ part.key → length now.lengths ≤ length all
    → weight all ≤ part.size - 4 → HasNoRoom now place → ⊥
no_more part now place all has key within fits none = ⊎_elim
    (λ full. absurd (omega (arith, full, within, fits, has.count, weight_places all)))
    (λ long. absurd (omega (arith, long, key, has.bytes))) none.full

pub gather-full : (part : Keyed) (range : Range) (all old left : List ci.Item) (i : ℕ)
    (item : ci.Item) (before now : LengthsRoom) → old ≡ item ∷ left
    → room all ≤ part.size - 4 → HasRoomFor part before → now.count ≡ before.count
    → now.bytes ≡ before.bytes → IsGathering part range all old now.lengths i
    → (IsKept part item → HasNoRoom now (key_in part item)) → ⊥
gather-full part range all old left i item before now cut fits has count bytes gathering none =
    let kept : IsKept part item = All-head (IsKept part) item left
    (subst (All (IsKept part)) cut gathering.kept) in
    no_more part now (key_in part item) (lengths_among part range all)
    (record {
      count = omega (arith, has.count, count);
      bytes = omega (arith, has.bytes, bytes);
    }) (length-key part item.bytes kept.valid)
    (omega (
      arith,
      ap length gathering.whole,
      length-append now.lengths (lengths_among part range old),
    ))
    (omega (arith, among-weight part range all, fits)) (none kept)

-- ---- what is kept

first-is : (first place : List ℕ) → Some first ≡ Some place → first ≡ place
first-is first place is = ap (λ (o : Option (List ℕ)). unwrap_or o place) is

-- what is past a place that is past the range is past it too
past-over : (range : Range) (place other : List ℕ) → is_le (place_cmp place range.high) ≡ false
    → place_cmp place other ≡ Less → is_le (place_cmp other range.high) ≡ false
past-over range place other over less = by (is_le (place_cmp other range.high)) refl
  where
    by : (b : Bool) → is_le (place_cmp other range.high) ≡ b → b ≡ false
    by true most = absurd (not_past other range.high most
        (nat_list_cmp_total.trans range.high place other (is_past place range.high over) less))
    by false most = refl

-- the least of what is kept above a low place, where it is in the range too
pub first-in : (range : Range) (kept : Lengths) (place : List ℕ)
    → first_of (filter (is_above range.low) (places_kept kept)) ≡ Some place
    → is_le (place_cmp place range.high) ≡ true
    → first_of (filter (is_in range) (places_kept kept)) ≡ Some place
first-in range [] place is most = is
first-in range (entry ∷ kept) place is most =
    by (is_above range.low entry.0) refl is (λ more. first-in range kept place more most)
  where
    above : List (List ℕ)
    above = filter (is_above range.low) (places_kept kept)

    rest : List (List ℕ)
    rest = filter (is_in range) (places_kept kept)

    by : (b : Bool) → is_above range.low entry.0 ≡ b
        → first_of (cond b (entry.0 ∷ above) above) ≡ Some place
        → (first_of above ≡ Some place → first_of rest ≡ Some place)
        → first_of (cond (b && is_le (place_cmp entry.0 range.high)) (entry.0 ∷ rest) rest)
        ≡ Some place
    by true low same more =
        let here : entry.0 ≡ place = first-is entry.0 place same in
        ap (λ (b : Bool). first_of (cond b (entry.0 ∷ rest) rest))
        (ap (λ (p : List ℕ). is_le (place_cmp p range.high)) here ∙ most) ∙ same
    by false low same more = more same

-- what is past a place that is past the range isn't in it
none-in : (range : Range) (place : List ℕ) (kept : Lengths)
    → is_le (place_cmp place range.high) ≡ false → ArePast place kept
    → filter (is_in range) (places_kept kept) ≡ []
none-in range place [] over past = refl
none-in range place (entry ∷ kept) over past =
    ap (λ (b : Bool). cond b (entry.0 ∷ filter (is_in range) (places_kept kept))
    (filter (is_in range) (places_kept kept)))
    (in-past range entry.0 (past-over range place entry.0 over past.0))
    ∙ none-in range place kept over past.1

-- where the least above the low place is past the range, none is in it
pub none-past : (range : Range) (kept : Lengths) (place : List ℕ) → AscendLengths kept
    → first_of (filter (is_above range.low) (places_kept kept)) ≡ Some place
    → is_le (place_cmp place range.high) ≡ false
    → first_of (filter (is_in range) (places_kept kept)) ≡ None
unfolding IsStrictlySortedBy
none-past range [] place ascend is over = refl
none-past range (entry ∷ kept) place ascend is over =
    by (is_above range.low entry.0) refl is (λ more. none-past range kept place ascend.1 more over)
  where
    above : List (List ℕ)
    above = filter (is_above range.low) (places_kept kept)

    rest : List (List ℕ)
    rest = filter (is_in range) (places_kept kept)

    by : (b : Bool) → is_above range.low entry.0 ≡ b
        → first_of (cond b (entry.0 ∷ above) above) ≡ Some place
        → (first_of above ≡ Some place → first_of rest ≡ None)
        → first_of (cond (b && is_le (place_cmp entry.0 range.high)) (entry.0 ∷ rest) rest) ≡ None
    by true low same more =
        let here : entry.0 ≡ place = first-is entry.0 place same in
        ap (λ (b : Bool). first_of (cond b (entry.0 ∷ rest) rest))
        (ap (λ (p : List ℕ). is_le (place_cmp p range.high)) here ∙ over)
        ∙ ap first_of (none-in range place kept over
        (subst (λ (p : List ℕ). ArePast p kept) here ascend.0))
    by false low same more = more same

-- where none is above the low place, none is in the range
pub none-above-in : (range : Range) (kept : Lengths)
    → first_of (filter (is_above range.low) (places_kept kept)) ≡ None
    → first_of (filter (is_in range) (places_kept kept)) ≡ None
none-above-in range [] none = refl
none-above-in range (entry ∷ kept) none =
    by (is_above range.low entry.0) none (none-above-in range kept)
  where
    above : List (List ℕ)
    above = filter (is_above range.low) (places_kept kept)

    rest : List (List ℕ)
    rest = filter (is_in range) (places_kept kept)

    by : (b : Bool) → first_of (cond b (entry.0 ∷ above) above) ≡ None
        → (first_of above ≡ None → first_of rest ≡ None)
        → first_of (cond (b && is_le (place_cmp entry.0 range.high)) (entry.0 ∷ rest) rest) ≡ None
    by true is more = absurd cc
    by false is more = more is

in-places : (range : Range) (kept : Lengths)
    → filter (is_in range) (places_kept kept) ≡ places_kept (lengths_in range kept)
in-places range [] = refl
in-places range (entry ∷ kept) = by (is_in range entry.0) (in-places range kept)
  where
    by : (b : Bool) → filter (is_in range) (places_kept kept)
        ≡ places_kept (lengths_in range kept)
        → cond b (entry.0 ∷ filter (is_in range) (places_kept kept))
        (filter (is_in range) (places_kept kept))
        ≡ places_kept (cond b (entry ∷ lengths_in range kept) (lengths_in range kept))
    by true more = ap (λ (l : List (List ℕ)). entry.0 ∷ l) more
    by false more = more

-- what a range has above a place of it
abbrev pub above_in : Range → List ℕ → Range
above_in range place = record { low = Some place; high = range.high }

-- The place is the least of what is kept for the range, and the others are above it.
pub record IsNextKept (kept : Lengths) (range : Range) (place : List ℕ) : Type 0 where
  pub longest : ℕ
  pub there : length_at kept place ≡ Some longest
  pub inside : is_in range place ≡ true
  pub first : lengths_in range kept ≡ (place, longest) ∷ lengths_in (above_in range place) kept

not-above-itself : (range : Range) (place : List ℕ) → is_in (above_in range place) place ≡ false
not-above-itself range place = ap (λ (o : Ordering). is_lt o && is_le (place_cmp place range.high))
    (tied_itself nat_list_cmp_total place)

pub above_then : (last : Option (List ℕ)) (place : List ℕ) → is_above last place ≡ true
    → (other : List ℕ) → place_cmp place other ≡ Less → is_above last other ≡ true
above_then last place above other less = above-more last place other above (ap is_lt less)

-- those past a place of the range are in it where they are in what is above the place
all-above : (range : Range) (place : List ℕ) (kept : Lengths) → is_in range place ≡ true
    → ArePast place kept → lengths_in range kept ≡ lengths_in (above_in range place) kept
all-above range place [] inside past = refl
all-above range place (entry ∷ kept) inside past =
    ap (λ (b : Bool). cond b (entry ∷ lengths_in range kept) (lengths_in range kept))
    (ap (λ (b : Bool). b && is_le (place_cmp entry.0 range.high))
    (above_then range.low place (in-above range place inside) entry.0 past.0
    ∙ sym (ap is_lt past.0)))
    ∙ ap (λ (l : Lengths). cond (is_in (above_in range place) entry.0) (entry ∷ l) l)
    (all-above range place kept inside past.1)

-- a place that isn't in the range isn't in what is above a place of it
not-above : (range : Range) (place other : List ℕ) → is_in range place ≡ true
    → is_in range other ≡ false → is_in (above_in range place) other ≡ false
not-above range place other inside out = by (is_in (above_in range place) other) refl
  where
    by : (b : Bool) → is_in (above_in range place) other ≡ b → b ≡ false
    by true is = absurd (true≢false (sym (in-both range other
        (above-more range.low place other (in-above range place inside)
        (in-above (above_in range place) other is))
        (in-most (above_in range place) other is)) ∙ out))
    by false is = refl

not_that : (range : Range) (place other : List ℕ) → is_in range place ≡ true
    → is_in range other ≡ false → place_cmp place other ≢ Equal
not_that range place other inside out equal =
    true≢false (sym inside ∙ ap (is_in range) (same_place place other equal) ∙ out)

passed : (o : Ordering) (here : ℕ) (further : Option ℕ) → o ≢ Equal
    → length_by o here further ≡ further
passed Less here further other = refl
passed Equal here further other = absurd (other refl)
passed Greater here further other = refl

pub next-kept : (kept : Lengths) (range : Range) (place : List ℕ) → AscendLengths kept
    → first_of (filter (is_in range) (places_kept kept)) ≡ Some place
    → IsNextKept kept range place
unfolding IsStrictlySortedBy
next-kept [] range place ascend is = absurd cc
next-kept (entry ∷ kept) range place ascend is =
    by (is_in range entry.0) refl is (λ more. next-kept kept range place ascend.1 more)
  where
    rest : Lengths
    rest = lengths_in range kept

    above : Lengths
    above = lengths_in (above_in range place) kept

    by : (b : Bool) → is_in range entry.0 ≡ b
        → first_of (cond b (entry.0 ∷ filter (is_in range) (places_kept kept))
        (filter (is_in range) (places_kept kept))) ≡ Some place
        → (first_of (filter (is_in range) (places_kept kept)) ≡ Some place
        → IsNextKept kept range place)
        → IsNextKept (entry ∷ kept) range place
    by true is_it same more =
        let here : entry.0 ≡ place = first-is entry.0 place same in
        let inside : is_in range place ≡ true = ap (is_in range) (sym here) ∙ is_it in
        let past : ArePast place kept = subst (λ (p : List ℕ). ArePast p kept) here ascend.0 in
        record {
          longest = entry.1;
          there = ap (λ (o : Ordering). length_by o entry.1 (length_at kept place))
              (ap (place_cmp place) here ∙ tied_itself nat_list_cmp_total place);
          inside = inside;
          first = ap (λ (b : Bool). cond b (entry ∷ rest) rest) is_it
              ∙ ap (λ (l : Lengths). entry ∷ l) (all-above range place kept inside past)
              ∙ ap (λ (p : List ℕ). let e : List ℕ × ℕ = (p, entry.1) in e ∷ above) here
              ∙ ap (λ (b : Bool). (place, entry.1) ∷ cond b (entry ∷ above) above)
              (sym (ap (is_in (above_in range place)) here ∙ not-above-itself range place));
        }
    by false out same more =
        let next : IsNextKept kept range place = more same in
        record {
          longest = next.longest;
          there = passed (place_cmp place entry.0) entry.1 (length_at kept place)
              (not_that range place entry.0 next.inside out)
              ∙ next.there;
          inside = next.inside;
          first = ap (λ (b : Bool). cond b (entry ∷ rest) rest) out
              ∙ next.first
              ∙ ap (λ (b : Bool). (place, next.longest) ∷ cond b (entry ∷ above) above)
              (sym (not-above range place entry.0 next.inside out));
        }

pub none-kept : (kept : Lengths) (range : Range)
    → first_of (filter (is_in range) (places_kept kept)) ≡ None → lengths_in range kept ≡ []
none-kept kept range is =
    empty (lengths_in range kept) (ap first_of (sym (in-places range kept)) ∙ is)
  where
    empty : (xs : Lengths) → first_of (places_kept xs) ≡ None → xs ≡ []
    empty [] none = refl
    empty (x ∷ xs) none = absurd cc

-- what is gathered with what is kept for the rest of a range is all
abbrev pub IsAdding : Range → Lengths → Lengths → Lengths → Type 0
IsAdding range all kept lengths = with_lengths lengths (lengths_in range kept) ≡ all

pub adding-more : (range : Range) (all kept lengths new : Lengths) (place : List ℕ)
    (next : IsNextKept kept range place) → new ≡ with_length lengths place next.longest
    → IsAdding range all kept lengths → IsAdding (above_in range place) all kept new
adding-more range all kept lengths new place next added adding =
    ap (λ (l : Lengths). with_lengths l (lengths_in (above_in range place) kept)) added
    ∙ ap (λ (l : Lengths). with_lengths lengths l) (sym next.first)
    ∙ adding

pub adding-ends : (range : Range) (all kept lengths : Lengths) → lengths_in range kept ≡ []
    → IsAdding range all kept lengths → lengths ≡ all
adding-ends range all kept lengths none adding =
    ap (λ (l : Lengths). with_lengths lengths l) (sym none) ∙ adding

pub weight-withs : (lengths more : Lengths) → weight lengths ≤ weight (with_lengths lengths more)
weight-withs lengths [] = omega arith
weight-withs lengths (entry ∷ more) =
    omega (
      arith,
      weight-with lengths entry.0 entry.1,
      weight-withs (with_length lengths entry.0 entry.1) more,
    )

-- a place that is kept has the bytes of one
pub kept-place : (key : ℕ) (kept : Lengths) (place : List ℕ) (n : ℕ) → ArePlaces key kept
    → length_at kept place ≡ Some n → length place ≡ key
kept-place key [] place n places is = absurd cc
kept-place key (entry ∷ kept) place n places is =
    by (place_cmp place entry.0) refl is
    (λ more. kept-place key kept place n
    (All-tail (λ (e : List ℕ × ℕ). length e.0 ≡ key) entry kept places) more)
  where
    by : (o : Ordering) → place_cmp place entry.0 ≡ o
        → length_by o entry.1 (length_at kept place) ≡ Some n
        → (length_at kept place ≡ Some n → length place ≡ key) → length place ≡ key
    by Less which same more = more same
    by Equal which same more = ap length (same_place place entry.0 which)
        ∙ All-head (λ (e : List ℕ × ℕ). length e.0 ≡ key) entry kept places
    by Greater which same more = more same

-- where there is no room for it, there is none in the interval
pub adding-full : (part : Keyed) (range : Range) (all kept : Lengths) (place : List ℕ)
    (before now : LengthsRoom) → ArePlaces part.key kept → IsNextKept kept range place
    → HasRoomFor part before → now.count ≡ before.count → now.bytes ≡ before.bytes
    → IsAdding range all kept now.lengths → HasNoRoom now place → HaveRoom part.size all → ⊥
adding-full part range all kept place before now places next has count bytes adding none fits =
    no_more part now place now.lengths
    (record {
      count = omega (arith, has.count, count);
      bytes = omega (arith, has.bytes, bytes);
    }) (kept-place part.key kept place next.longest places next.there) (omega arith)
    (omega (
      arith,
      ap weight adding,
      weight-withs now.lengths (lengths_in range kept),
      fits,
    ))
    none

-- where there is no room for one place more, there is none in the interval
pub last-full : (part : Keyed) (place : List ℕ) (before now : LengthsRoom)
    → length place ≡ part.key → HasRoomFor part before → now.count ≡ before.count
    → now.bytes ≡ before.bytes → HasNoRoom now place → HaveRoom part.size now.lengths → ⊥
last-full part place before now key has count bytes none fits =
    no_more part now place now.lengths
    (record {
      count = omega (arith, has.count, count);
      bytes = omega (arith, has.bytes, bytes);
    }) key (omega arith) fits none

-- ---- all of it

-- what is asked of the items of an interval that was read
pub record AreItems (part : Keyed) (items : List ci.Item) : Type 0 where
  pub kept : All (IsKept part) items
  pub sorted : IsStrictlySortedBy place_cmp (map (key_in part) items)
  pub fits : room items ≤ part.size - 4

pub items-ready : (part : Keyed) (range : Range) (block : Block) (value : ci.Interval)
    → HoldsRange part range block → ci.IsInterval Plain block value → AreItems part value.items
items-ready part range block value holds is =
    subst (AreItems part) (sym (items-read part range block value holds is)) (record {
      kept = holds.kept;
      sorted = holds.ascends;
      fits = omega (arith, interval_room Plain block _ holds.spelled refl, holds.size);
    })

pub room-cleared : (part : Keyed) (before cleared : LengthsRoom) → HasRoomFor part before
    → (cleared ≡ record { lengths = []; count = before.count; bytes = before.bytes })
    → HasRoomFor part cleared
room-cleared part before cleared has is = subst (HasRoomFor part) (sym is) (record {
  count = has.count;
  bytes = has.bytes;
})

pub room-kept : (part : Keyed) (before now : LengthsRoom) → HasRoomFor part before
    → now.count ≡ before.count → now.bytes ≡ before.bytes → HasRoomFor part now
room-kept part before now has count bytes = record {
  count = omega (arith, has.count, count);
  bytes = omega (arith, has.bytes, bytes);
}

-- what weighs more than the room that an interval has doesn't fit, nor with a place more
pub not-fits : (part : Keyed) (lengths : Lengths) (place : List ℕ) (n : ℕ)
    → (HaveRoom part.size lengths → ⊥) → have_room part.size (with_length lengths place n) ≡ false
not-fits part lengths place n none =
    by (have_room part.size (with_length lengths place n)) refl
  where
    by : (b : Bool) → have_room part.size (with_length lengths place n) ≡ b → b ≡ false
    by true is = absurd (none (omega (
      arith,
      weight-with lengths place n,
      leb-true (weight (with_length lengths place n)) (part.size - 4) is,
    )))
    by false is = refl

-- the place itself, after all others
pub add-last : (part : Keyed) (place : List ℕ) (n : ℕ) (before now new : LengthsRoom)
    (all : Lengths) (added : Bool)
    → MatchBool added (new ≡ record {
      lengths = with_length now.lengths place n;
      count = now.count;
      bytes = now.bytes;
    })
    ((new ≡ now) × HasNoRoom now place)
    → now.lengths ≡ all → HasRoomFor part before → now.count ≡ before.count
    → now.bytes ≡ before.bytes → length place ≡ part.key
    → MatchBool added (new.lengths ≡ with_length all place n) (HaveRoom part.size all → ⊥)
add-last part place n before now new all true is same has count bytes key =
    ap (λ (r : LengthsRoom). r.lengths) is ∙ ap (λ (l : Lengths). with_length l place n) same
add-last part place n before now new all false is same has count bytes key =
    λ fits. last-full part place before now key has count bytes is.1
    (subst (HaveRoom part.size) (sym same) fits)

-- what is weighed, told of other words for it
pub match-same : (part : Keyed) (added : Bool) (now one other : Lengths) → one ≡ other
    → MatchBool added (now ≡ one) (HaveRoom part.size one → ⊥)
    → MatchBool added (now ≡ other) (HaveRoom part.size other → ⊥)
match-same part added now one other same = subst
    (λ (l : Lengths). MatchBool added (now ≡ l) (HaveRoom part.size l → ⊥)) same
