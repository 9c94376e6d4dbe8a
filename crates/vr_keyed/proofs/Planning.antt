-- Where an interval is cut: the places are in its range, and one more is past the cut.
use Rattle.std.proofs.Common.{◌≡◌, ℕ, zero, suc, ◌+◌, ◌<◌, ◌≤◌, Bool, true, false, List}
use Rattle.std.proofs.Common.{[], ◌∷◌, length, map, get_or, All, refl, sym, ap, subst, ◌∙◌}
use Rattle.std.proofs.Common.{Option, Some, None, arith, true≢false, max, unwrap_or, add-one, ◌⊎◌}
use Rattle.std.proofs.Common.{inl, inr}
use Rattle.std.proofs.lemmas.Bool.{cases_lt}
use Rattle.std.specs.Prelude.{cond, filter, slice_get, slice_index}
use Rattle.std.specs.List.Sorted.{IsStrictlySortedBy}
use Rattle.std.specs.Ordering.{is_le, is_lt}
use Rattle.std.specs.declared.cmp.Ordering.{Ordering}
use Rattle.std.specs.declared.cmp.Ordering.TheVariants.{Less, Equal, Greater}
use Rattle.std.proofs.lemmas.Cmp.{nat_list_cmp_total, tied_itself}
use Rattle.std.proofs.lemmas.List.{take_all, get_or-map}
use Rattle.std.proofs.lemmas.List.Elements.{All-head, All-tail, All-cons, All-nil, All-get_or}
use Rattle.std.proofs.lemmas.Option.{get_or_from_slice_get}
use Rattle.vr_types.specs.Content.{Placed, place_cmp}
use Rattle.vr_types.specs.Image.{Block, Image, block_at}
use Rattle.vr_types.specs.declared.unit.StageKind.TheVariants.{CiCopy}
use Rattle.vr_types.proofs.CallerLemmas.{same_place}
use Rattle.vr_ci.specs.Interval as ci
use Rattle.vr_seqset.specs.Entry.{Entry}
use Rattle.vr_space.specs.Whence.{places_kept}
use Rattle.vr_space.specs.Room.{Lengths, Range, AscendLengths, is_in, is_above, with_length}
use Rattle.vr_space.specs.Room.{with_lengths, lengths_in, length_at, length_by, lengthen_by}
use Rattle.vr_space.specs.Room.{HaveRoom}
use Rattle.vr_space.specs.Keyed.{Keyed, IsHead, IsKept, HoldsRange, placed}
use Rattle.vr_space.specs.Keyed.{length_of, lengths_of, items_of, entries_of, entry_for, entry_in}
use Rattle.vr_space.specs.Keyed.{low_of, range_of}
use Rattle.vr_space.specs.Split.{free_interval}
use Rattle.vr_space.specs.UnderWay.{IsBegun}
use Rattle.vr_space.proofs.CallerLemmas.{AscendFrom, found-above, head-ascends, in-above, in-most}
use Rattle.vr_space.proofs.CallerLemmas.{leads-above, not_past}
use Rattle.vr_split.specs.Weights.{IsPosition}
use Rattle.vr_split.proofs.CallerLemmas.{ascend-with}
use Rattle.vr_keyed.specs.Lent.{lengths_among, ArePlaces}
use Rattle.vr_keyed.proofs.Gathering.{key_in, length-key, among-ascend, above_then}

-- ---- the places

-- where all are below a place, it isn't there
below-none : (lengths : Lengths) (place : List ℕ)
    → All (λ (entry : List ℕ × ℕ). place_cmp entry.0 place ≡ Less) lengths
    → length_at lengths place ≡ None
below-none [] place below = refl
below-none (entry ∷ lengths) place below =
    by (place_cmp place entry.0) refl
    (below-none lengths place
    (All-tail (λ (e : List ℕ × ℕ). place_cmp e.0 place ≡ Less) entry lengths below))
  where
    less : place_cmp entry.0 place ≡ Less
    less = All-head (λ (e : List ℕ × ℕ). place_cmp e.0 place ≡ Less) entry lengths below

    by : (o : Ordering) → place_cmp place entry.0 ≡ o → length_at lengths place ≡ None
        → length_by o entry.1 (length_at lengths place) ≡ None
    by Less is more = more
    by Equal is more =
        absurd (unequal (sym less ∙ ap (λ (p : List ℕ). place_cmp p place)
        (sym (same_place place entry.0 is)) ∙ tied_itself nat_list_cmp_total place))
      where
        unequal : Less ≡ Equal → ⊥
        unequal same = cc
    by Greater is more = more

-- a position past all is that of a place that isn't there
pub past-all : (lengths : Lengths) (place : List ℕ) (at n : ℕ) → IsPosition lengths place at
    → length lengths ≤ at → length_at lengths place ≡ Some n → ⊥
past-all lengths place at n position past there =
    no_some (sym (below-none lengths place
    (subst (All (λ (entry : List ℕ × ℕ). place_cmp entry.0 place ≡ Less))
    (take_all at lengths past) position.below)) ∙ there)
  where
    no_some : None ≡ Some n → ⊥
    no_some same = cc

-- a place that is added is there
pub is-there : (lengths : Lengths) (place : List ℕ) (n : ℕ)
    → (m : ℕ) × (length_at (with_length lengths place n) place ≡ Some m)
is-there [] place n =
    (n, ap (λ (o : Ordering). length_by o n None) (tied_itself nat_list_cmp_total place))
is-there (entry ∷ lengths) place n =
    by (place_cmp place entry.0) refl (is-there lengths place n)
  where
    by : (o : Ordering) → place_cmp place entry.0 ≡ o
        → ((m : ℕ) × (length_at (with_length lengths place n) place ≡ Some m))
        → (m : ℕ) × (length_at
        (lengthen_by o place n entry lengths (with_length lengths place n)) place ≡ Some m)
    by Less is more = (
      n,
      ap (λ (o : Ordering). length_by o n (length_at (entry ∷ lengths) place))
          (tied_itself nat_list_cmp_total place),
    )
    by Equal is more = (
      max n entry.1,
      ap (λ (o : Ordering). length_by o (max n entry.1) (length_at lengths place)) is,
    )
    by Greater is more = (
      more.0,
      ap (λ (o : Ordering). length_by o entry.1
          (length_at (with_length lengths place n) place)) is ∙ more.1,
    )

-- what holds of each place, and of one more
with-all : (P : List ℕ → Type 0) (lengths : Lengths) (place : List ℕ) (n : ℕ)
    → All (λ (entry : List ℕ × ℕ). P entry.0) lengths → P place
    → All (λ (entry : List ℕ × ℕ). P entry.0) (with_length lengths place n)
with-all P [] place n all here =
    All-cons (λ (e : List ℕ × ℕ). P e.0) (place, n) [] here (All-nil (λ (e : List ℕ × ℕ). P e.0))
with-all P (entry ∷ lengths) place n all here =
    by (place_cmp place entry.0) (with-all P lengths place n rest here)
  where
    Q : List ℕ × ℕ → Type 0
    Q e = P e.0

    first : P entry.0
    first = All-head (λ (e : List ℕ × ℕ). P e.0) entry lengths all

    rest : All (λ (e : List ℕ × ℕ). P e.0) lengths
    rest = All-tail (λ (e : List ℕ × ℕ). P e.0) entry lengths all

    by : (o : Ordering) → All (λ (e : List ℕ × ℕ). P e.0) (with_length lengths place n)
        → All (λ (e : List ℕ × ℕ). P e.0)
        (lengthen_by o place n entry lengths (with_length lengths place n))
    by Less more = All-cons (λ (e : List ℕ × ℕ). P e.0) (place, n) (entry ∷ lengths) here all
    by Equal more =
        All-cons (λ (e : List ℕ × ℕ). P e.0) (entry.0, max n entry.1) lengths first rest
    by Greater more =
        All-cons (λ (e : List ℕ × ℕ). P e.0) entry (with_length lengths place n) first more

withs-all : (P : List ℕ → Type 0) (lengths more : Lengths)
    → All (λ (entry : List ℕ × ℕ). P entry.0) lengths
    → All (λ (entry : List ℕ × ℕ). P entry.0) more
    → All (λ (entry : List ℕ × ℕ). P entry.0) (with_lengths lengths more)
withs-all P lengths [] all others = all
withs-all P lengths (entry ∷ more) all others =
    withs-all P (with_length lengths entry.0 entry.1) more
    (with-all P lengths entry.0 entry.1 all
    (All-head (λ (e : List ℕ × ℕ). P e.0) entry more others))
    (All-tail (λ (e : List ℕ × ℕ). P e.0) entry more others)

withs-ascend : (lengths more : Lengths) → AscendLengths lengths
    → AscendLengths (with_lengths lengths more)
withs-ascend lengths [] ascend = ascend
withs-ascend lengths (entry ∷ more) ascend =
    withs-ascend (with_length lengths entry.0 entry.1) more
    (ascend-with lengths entry.0 entry.1 ascend)

-- a place of the range, with the length of a key
pub record IsPlaceIn (part : Keyed) (range : Range) (place : List ℕ) : Type 0 where
  pub key : length place ≡ part.key
  pub inside : is_in range place ≡ true

abbrev pub ArePlacesIn : Keyed → Range → Lengths → Type 0
ArePlacesIn part range lengths = All (λ (entry : List ℕ × ℕ). IsPlaceIn part range entry.0) lengths

among-places : (part : Keyed) (range : Range) (items : List ci.Item) → All (IsKept part) items
    → ArePlacesIn part range (lengths_among part range items)
among-places part range [] kept =
    All-nil (λ (e : List ℕ × ℕ). IsPlaceIn part range e.0)
among-places part range (item ∷ items) kept =
    by (is_in range (key_in part item)) refl
    (among-places part range items (All-tail (IsKept part) item items kept))
  where
    rest : List Placed
    rest = filter (λ (entry : Placed). is_in range entry.0) (map (placed part) items)

    by : (b : Bool) → is_in range (key_in part item) ≡ b
        → ArePlacesIn part range (map length_of rest)
        → ArePlacesIn part range (map length_of (cond b (placed part item ∷ rest) rest))
    by true is more =
        All-cons (λ (e : List ℕ × ℕ). IsPlaceIn part range e.0)
        (key_in part item, length item.bytes) (map length_of rest) (record {
          key = length-key part item.bytes (All-head (IsKept part) item items kept).valid;
          inside = is;
        }) more
    by false is more = more

kept-places : (part : Keyed) (range : Range) (kept : Lengths) → ArePlaces part.key kept
    → ArePlacesIn part range (lengths_in range kept)
kept-places part range [] places = All-nil (λ (e : List ℕ × ℕ). IsPlaceIn part range e.0)
kept-places part range (entry ∷ kept) places =
    by (is_in range entry.0) refl
    (kept-places part range kept
    (All-tail (λ (e : List ℕ × ℕ). length e.0 ≡ part.key) entry kept places))
  where
    by : (b : Bool) → is_in range entry.0 ≡ b → ArePlacesIn part range (lengths_in range kept)
        → ArePlacesIn part range (cond b (entry ∷ lengths_in range kept) (lengths_in range kept))
    by true is more =
        All-cons (λ (e : List ℕ × ℕ). IsPlaceIn part range e.0) entry (lengths_in range kept)
        (record {
          key = All-head (λ (e : List ℕ × ℕ). length e.0 ≡ part.key) entry kept places;
          inside = is;
        }) more
    by false is more = more

-- The places that are weighed ascend, and are in the range.
pub record AreWeighed (part : Keyed) (range : Range) (lengths : Lengths) : Type 0 where
  pub ascend : AscendLengths lengths
  pub places : ArePlacesIn part range lengths

pub are-weighed : (part : Keyed) (range : Range) (kept : Lengths) (block : Block) (place : List ℕ)
    (n : ℕ) → HoldsRange part range block → ArePlaces part.key kept → length place ≡ part.key
    → is_in range place ≡ true
    → AreWeighed part range (with_length (lengths_of part kept range block) place n)
are-weighed part range kept block place n holds places key inside = record {
  ascend = ascend-with (lengths_of part kept range block) place n
      (withs-ascend (lengths_among part range (items_of block)) (lengths_in range kept)
      (among-ascend part range (items_of block) holds.ascends));
  places = with-all (IsPlaceIn part range) (lengths_of part kept range block) place n
      (withs-all (IsPlaceIn part range) (lengths_among part range (items_of block))
      (lengths_in range kept) (among-places part range (items_of block) holds.kept)
      (kept-places part range kept places))
      (record { key = key; inside = inside });
}

-- ---- the cut

ascend-next : (lengths : Lengths) (i : ℕ) (d : List ℕ × ℕ) → AscendLengths lengths
    → suc i < length lengths
    → place_cmp (get_or lengths i d).0 (get_or lengths (suc i) d).0 ≡ Less
unfolding IsStrictlySortedBy
ascend-next [] i d ascend within = absurd (omega (arith, within))
ascend-next (entry ∷ []) zero d ascend within = absurd (omega (arith, within))
ascend-next (entry ∷ other ∷ lengths) zero d ascend within = ascend.0.0
ascend-next (entry ∷ lengths) (suc i) d ascend within =
    ascend-next lengths i d ascend.1 (omega (arith, within))

ascend-at : (lengths : Lengths) (i : ℕ) (d : List ℕ × ℕ) → AscendLengths lengths
    → i + 1 < length lengths
    → place_cmp (get_or lengths i d).0 (get_or lengths (i + 1) d).0 ≡ Less
ascend-at lengths i d ascend within =
    subst (λ (n : ℕ). place_cmp (get_or lengths i d).0 (get_or lengths n d).0 ≡ Less)
    (sym (add-one i)) (ascend-next lengths i d ascend (omega (arith, within)))

less-le : (one other high : List ℕ) → place_cmp one other ≡ Less
    → is_le (place_cmp other high) ≡ true → place_cmp one high ≡ Less
less-le one other high less most = by (place_cmp other high) refl most
  where
    by : (o : Ordering) → place_cmp other high ≡ o → is_le o ≡ true → place_cmp one high ≡ Less
    by Less is most = nat_list_cmp_total.trans one other high less is
    by Equal is most = subst (λ (p : List ℕ). place_cmp one p ≡ Less)
        (same_place other high is) less
    by Greater is most = absurd (true≢false (sym most))

-- The cut is in the range, below its end.
pub record IsCutIn (part : Keyed) (range : Range) (cut : List ℕ) : Type 0 where
  pub place : IsPlaceIn part range cut
  pub below : place_cmp cut range.high ≡ Less

pub cut-in : (part : Keyed) (range : Range) (lengths : Lengths) (number : ℕ) (cut : List ℕ)
    → AreWeighed part range lengths → number + 1 < length lengths
    → slice_get (places_kept lengths) number ≡ Some cut → IsCutIn part range cut
cut-in part range lengths number cut weighed further is =
    let d : List ℕ × ℕ = (cut, 0) in
    let first : List ℕ × ℕ → List ℕ = λ e. e.0 in
    let here : (get_or lengths number d).0 ≡ cut =
    sym (get_or-map first lengths number d cut (omega (arith, further)))
    ∙ get_or_from_slice_get (places_kept lengths) number cut cut is in
    let P : List ℕ × ℕ → Type 0 = λ e. IsPlaceIn part range e.0 in
    let next : IsPlaceIn part range (get_or lengths (number + 1) d).0 =
    All-get_or P lengths (number + 1) d further weighed.places in
    record {
      place = subst (IsPlaceIn part range) here
          (All-get_or P lengths number d (omega (arith, further)) weighed.places);
      below = less-le cut (get_or lengths (number + 1) d).0 range.high
          (subst (λ (p : List ℕ). place_cmp p (get_or lengths (number + 1) d).0 ≡ Less) here
          (ascend-at lengths number d weighed.ascend further))
          (in-most range (get_or lengths (number + 1) d).0 next.inside);
    }

-- ---- two places

grows : (lengths : Lengths) (place : List ℕ) (n : ℕ)
    → length lengths ≤ length (with_length lengths place n)
grows [] place n = omega arith
grows (entry ∷ lengths) place n = by (place_cmp place entry.0) (grows lengths place n)
  where
    by : (o : Ordering) → length lengths ≤ length (with_length lengths place n)
        → length (entry ∷ lengths) ≤ length
        (lengthen_by o place n entry lengths (with_length lengths place n))
    by Less more = omega arith
    by Equal more = omega arith
    by Greater more = omega (arith, more)

some-there : (lengths : Lengths) (place : List ℕ) (n : ℕ)
    → 1 ≤ length (with_length lengths place n)
some-there [] place n = omega arith
some-there (entry ∷ lengths) place n = omega (arith, grows (entry ∷ lengths) place n)

-- where one place is all that stands and what is kept has room, a record has room
one-fits : (size : ℕ) (lengths : Lengths) (place : List ℕ) (n : ℕ)
    → length (with_length lengths place n) ≤ 1 → HaveRoom size lengths → n + 7 ≤ size
    → HaveRoom size (with_length lengths place n)
one-fits size [] place n few fits alone = omega (arith, alone)
one-fits size (entry ∷ other ∷ lengths) place n few fits alone =
    absurd (omega (arith, few, grows (entry ∷ other ∷ lengths) place n))
one-fits size (entry ∷ []) place n few fits alone =
    by (place_cmp place entry.0) few
  where
    by : (o : Ordering) → length (lengthen_by o place n entry [] ((place, n) ∷ [])) ≤ 1
        → HaveRoom size (lengthen_by o place n entry [] ((place, n) ∷ []))
    by Less few = absurd (omega (arith, few))
    by Equal few = omega (arith, alone, fits)
    by Greater few = absurd (omega (arith, few))

pub two-places : (size : ℕ) (lengths : Lengths) (place : List ℕ) (n : ℕ)
    → HaveRoom size lengths → n + 7 ≤ size → (HaveRoom size (with_length lengths place n) → ⊥)
    → 2 ≤ length (with_length lengths place n)
two-places size lengths place n fits alone none =
    by (cases_lt (length (with_length lengths place n)) 2)
  where
    by : ((length (with_length lengths place n) < 2) ⊎ (2 ≤ length (with_length lengths place n)))
        → 2 ≤ length (with_length lengths place n)
    by (inl few) = absurd (none (one-fits size lengths place n (omega (arith, few)) fits alone))
    by (inr some) = some

-- ---- what a split begins with

tested : (o : Ordering) → is_lt o ≡ true → o ≡ Less
tested Less is = refl
tested Equal is = absurd (true≢false (sym is))
tested Greater is = absurd (true≢false (sym is))

-- a place of a range that is found is above the low place of all
above-low : (low : Option (List ℕ)) (entries : List Entry) (place cut : List ℕ)
    (at : Range × Entry) → AscendFrom low entries → entry_for low entries place ≡ Some at
    → is_in at.0 cut ≡ true → is_above low cut ≡ true
above-low low [] place cut at ascend is inside = absurd cc
above-low low (entry ∷ entries) place cut at ascend is inside =
    by (is_le (place_cmp place entry.high)) is
    (λ more. above-low (Some entry.high) entries place cut at ascend.1 more inside)
  where
    by : (b : Bool)
        → cond b (Some (range_of low entry, entry)) (entry_for (Some entry.high) entries place)
        ≡ Some at
        → (entry_for (Some entry.high) entries place ≡ Some at
        → is_above (Some entry.high) cut ≡ true)
        → is_above low cut ≡ true
    by true same more =
        let here : (range_of low entry, entry) ≡ at =
        ap (λ (o : Option (Range × Entry)). unwrap_or o (range_of low entry, entry)) same in
        in-above (range_of low entry) cut
        (ap (λ (f : Range × Entry). is_in f.0 cut) here ∙ inside)
    by false same more =
        above_then low entry.high ascend.0 cut (tested (place_cmp entry.high cut) (more same))

-- where a place of a range is found, so is each of the range
same-entry : (low : Option (List ℕ)) (entries : List Entry) (place cut : List ℕ)
    (at : Range × Entry) → AscendFrom low entries → entry_for low entries place ≡ Some at
    → is_in at.0 cut ≡ true → entry_for low entries cut ≡ Some at
same-entry low [] place cut at ascend is inside = absurd cc
same-entry low (entry ∷ entries) place cut at ascend is inside =
    by (is_le (place_cmp place entry.high)) is
    (λ more. same-entry (Some entry.high) entries place cut at ascend.1 more inside)
  where
    isnt : (b : Bool) → is_le (place_cmp cut entry.high) ≡ b → is_above (Some entry.high) cut ≡ true
        → b ≡ false
    isnt true most above =
        absurd (not_past cut entry.high most (tested (place_cmp entry.high cut) above))
    isnt false most above = refl

    by : (b : Bool)
        → cond b (Some (range_of low entry, entry)) (entry_for (Some entry.high) entries place)
        ≡ Some at
        → (entry_for (Some entry.high) entries place ≡ Some at
        → entry_for (Some entry.high) entries cut ≡ Some at)
        → entry_for low (entry ∷ entries) cut ≡ Some at
    by true same more =
        let here : (range_of low entry, entry) ≡ at =
        ap (λ (o : Option (Range × Entry)). unwrap_or o (range_of low entry, entry)) same in
        ap (λ (b : Bool). cond b (Some (range_of low entry, entry))
        (entry_for (Some entry.high) entries cut))
        (in-most (range_of low entry) cut
        (ap (λ (f : Range × Entry). is_in f.0 cut) here ∙ inside))
        ∙ ap (λ (f : Range × Entry). Some f) here
    by false same more =
        ap (λ (b : Bool). cond b (Some (range_of low entry, entry))
        (entry_for (Some entry.high) entries cut))
        (isnt (is_le (place_cmp cut entry.high)) refl
        (above-low (Some entry.high) entries place cut at ascend.1 same inside))
        ∙ more same

pub begun-at : (part : Keyed) (image : Image) (place cut : List ℕ) (at : Range × Entry)
    (into : ℕ) → IsHead part (block_at image part.head)
    → entry_in (block_at image part.head) place ≡ Some at
    → free_interval part (block_at image part.head) ≡ Some into → IsCutIn part at.0 cut
    → IsBegun part (record {
      old = slice_index at.1.intervals 0;
      into = into;
      cut = cut;
      stage = CiCopy;
    }) image
begun-at part image place cut at into head is free inside =
    let top : Block = block_at image part.head in
    let found = found-above (low_of top) (entries_of top) place at is in
    let ascend : AscendFrom (low_of top) (entries_of top) = head-ascends part top head in
    let within : is_in at.0 cut ≡ true = inside.place.inside in
    record {
      at = at;
      length = inside.place.key;
      found = leads-above (low_of top) (entries_of top) cut
          (above-low (low_of top) (entries_of top) place cut at ascend found.leads within)
          ∙ same-entry (low_of top) (entries_of top) place cut at ascend found.leads within;
      old = refl;
      below = inside.below;
      free = free;
    }
