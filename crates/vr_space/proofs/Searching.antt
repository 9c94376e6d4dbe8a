-- Searching the entries of a head, and the records of an interval.
use Rattle.std.proofs.Common.{◌≡◌, ◌≢◌, ◌<◌, ◌≤◌, ◌+◌, ℕ, zero, suc, Bool, IsTrue}
use Rattle.std.proofs.Common.{true, false, List, [], ◌∷◌, ◌++◌, length, map, Option, Some}
use Rattle.std.proofs.Common.{None, All, refl, sym, ap, subst, ◌∙◌, arith, unwrap_or, append_assoc}
use Rattle.std.proofs.Common.{◌/◌, get_or, ◌-◌, ◌↔◌, true≢false}
use Rattle.std.specs.Prelude.{cond, min, slice_index, IfSome, IfNone}
use Rattle.std.specs.List.{position, position_from, slice_get, flat_map, AllByRecursion}
use Rattle.std.specs.List.Sorted.{IsStrictlySortedBy}
use Rattle.std.specs.Ordering.{is_le}
use Rattle.std.specs.declared.cmp.Ordering.TheVariants.{Less}
use Rattle.std.proofs.lemmas.Cmp.{nat_list_cmp_total}
use Rattle.std.proofs.lemmas.Iterator.Adapters.{position_from-zero}
use Rattle.std.proofs.lemmas.List.{take_at, drop_at, length-append}
use Rattle.std.proofs.lemmas.List.Elements.{All-head, All-tail, All-push, All-nil}
use Rattle.std.proofs.lemmas.List.Elements.{All-from_recursion}
use Rattle.std.proofs.lemmas.Map.Keys.{sorted_head, sorted_tail}
use Rattle.vr_types.specs.Content.{place_cmp, item_at, found_by}
use Rattle.vr_types.specs.Content.Item.{Standing}
use Rattle.vr_types.proofs.CallerLemmas.{same_place}
use Rattle.vr_ci_match.specs.declared.form.Form.TheVariants.{Plain}
use Rattle.vr_types.specs.Image.{Block, Image, block_at}
use Rattle.vr_ci.specs.Interval as ci
use Rattle.vr_ci.proofs.CallerLemmas.{one_value}
use Rattle.vr_seqset.specs.Entry.{Entry, IsWhole}
use Rattle.vr_seqset.specs.Numbers.{intervals_used}
use Rattle.vr_seqset.specs.SequenceSet.{SequenceSet, KeepsRules}
use Rattle.vr_seqset.proofs.CallerLemmas.{All-left, All-right}
use Rattle.std.proofs.lemmas.Option.{slice_get_within, get_or_from_slice_get}
use Rattle.vr_seqset.specs.Search.{reaches}
use Rattle.vr_space.specs.Room.{Range, is_above}
use Rattle.vr_space.specs.Keyed.{Keyed, IsKept, HoldsRange, range_of, entry_for, key_of, placed}
use Rattle.vr_space.specs.Keyed.{items_of, HoldRanges, entry_above, entry_block}
use Rattle.vr_space.specs.Search.{AreUpTo, low_before}
use Rattle.vr_space.proofs.KeyedContent.{leads-above}
use Rattle.vr_space.proofs.Places.{by_other, same_is_equal, is_past}

-- ---- entries

from-least : (test : Entry → Bool) (entries : List Entry) (k m : ℕ)
    → position_from test k entries ≡ Some m → k ≤ m
from-least test [] k m is = absurd cc
from-least test (entry ∷ entries) k m is =
    by_test (test entry) is (λ more. from-least test entries (k + 1) m more)
  where
    by_test : (b : Bool) → cond b (Some k) (position_from test (k + 1) entries) ≡ Some m
        → (position_from test (k + 1) entries ≡ Some m → k + 1 ≤ m) → k ≤ m
    by_test true same more =
        let here : k ≡ m = ap (λ (o : Option ℕ). unwrap_or o k) same in omega (arith, here)
    by_test false same more = omega (arith, more same)

-- the first entry that reaches the place is the one whose range holds it
found-from : (place : List ℕ) (low : Option (List ℕ)) (entries : List Entry) (k i : ℕ)
    (found : Entry) → position_from (reaches place) k entries ≡ Some (k + i)
    → slice_get entries i ≡ Some found
    → entry_for low entries place ≡ Some (range_of (low_before low entries i) found, found)
found-from place low [] k i found is has = absurd cc
found-from place low (entry ∷ entries) k i found is has =
    by_test (reaches place entry) i is has
    (λ j same there. found-from place (Some entry.high) entries (k + 1) j found same there)
  where
    by_test : (b : Bool) (i : ℕ)
        → cond b (Some k) (position_from (reaches place) (k + 1) entries) ≡ Some (k + i)
        → slice_get (entry ∷ entries) i ≡ Some found
        → ((j : ℕ) → position_from (reaches place) (k + 1) entries ≡ Some (k + 1 + j)
        → slice_get entries j ≡ Some found
        → entry_for (Some entry.high) entries place
        ≡ Some (range_of (low_before (Some entry.high) entries j) found, found))
        → cond b (Some (range_of low entry, entry)) (entry_for (Some entry.high) entries place)
        ≡ Some (range_of (low_before low (entry ∷ entries) i) found, found)
    by_test true zero same has more =
        let here : entry ≡ found = ap (λ (o : Option Entry). unwrap_or o entry) has in
        ap (λ (e : Entry). let pair : Option (Range × Entry) = Some (range_of low e, e) in pair)
        here
    by_test true (suc i) same has more =
        let here : k ≡ k + suc i = ap (λ (o : Option ℕ). unwrap_or o k) same in
        absurd (omega (arith, here))
    by_test false zero same has more =
        absurd (omega (arith, from-least (reaches place) entries (k + 1) (k + 0) same))
    by_test false (suc i) same has more =
        let shifted : k + suc i ≡ k + 1 + i = omega arith in
        more i (same ∙ ap (λ (n : ℕ). Some n) shifted) has

none-from : (place : List ℕ) (low : Option (List ℕ)) (entries : List Entry) (k : ℕ)
    → position_from (reaches place) k entries ≡ None → entry_for low entries place ≡ None
none-from place low [] k is = refl
none-from place low (entry ∷ entries) k is =
    by_test (reaches place entry) is
    (λ more. none-from place (Some entry.high) entries (k + 1) more)
  where
    by_test : (b : Bool)
        → cond b (Some k) (position_from (reaches place) (k + 1) entries) ≡ None
        → (position_from (reaches place) (k + 1) entries ≡ None
        → entry_for (Some entry.high) entries place ≡ None)
        → cond b (Some (range_of low entry, entry)) (entry_for (Some entry.high) entries place)
        ≡ None
    by_test true same more = absurd cc
    by_test false same more = more same

pub found-entry : (place : List ℕ) (low : Option (List ℕ)) (entries : List Entry) (i : ℕ)
    (found : Entry) → position (reaches place) entries ≡ Some i → slice_get entries i ≡ Some found
    → entry_for low entries place ≡ Some (range_of (low_before low entries i) found, found)
found-entry place low entries i found is has =
    let shifted : i ≡ 0 + i = omega arith in
    found-from place low entries 0 i found
    (sym (position_from-zero (reaches place) entries) ∙ is ∙ ap (λ (n : ℕ). Some n) shifted) has

pub found-none : (place : List ℕ) (low : Option (List ℕ)) (entries : List Entry)
    → position (reaches place) entries ≡ None → entry_for low entries place ≡ None
found-none place low entries is =
    none-from place low entries 0 (sym (position_from-zero (reaches place) entries) ∙ is)

-- the same of what a search answers for a place above the low one
pub above-found : (place : List ℕ) (low : Option (List ℕ)) (entries : List Entry)
    (found : Option (ℕ × Entry)) → is_above low place ≡ true
    → IfSome found (λ f. position (reaches place) entries ≡ Some f.0)
    → IfSome found (λ f. slice_get entries f.0 ≡ Some f.1)
    → IfSome found (λ f. entry_above low entries place
    ≡ Some (range_of (low_before low entries f.0) f.1, f.1))
above-found place low entries None above first there = tt
above-found place low entries (Some found) above first there =
    leads-above low entries place above
    ∙ found-entry place low entries found.0 found.1 first there

pub above-none : (place : List ℕ) (low : Option (List ℕ)) (entries : List Entry)
    (found : Option (ℕ × Entry)) → IfNone found (position (reaches place) entries ≡ None)
    → IfNone found (entry_above low entries place ≡ None)
above-none place low entries None none = by_test (is_above low place)
  where
    by_test : (b : Bool) → cond b (entry_for low entries place) None ≡ None
    by_test true = found-none place low entries none
    by_test false = refl
above-none place low entries (Some found) none = tt

-- it begins where the entry before ends
low-after : (low : Option (List ℕ)) (entries : List Entry) (i : ℕ) (d : Entry)
    → i < length entries → low_before low entries (suc i) ≡ Some (get_or entries i d).high
low-after low [] i d within = absurd (omega (arith, within))
low-after low (entry ∷ entries) zero d within = refl
low-after low (entry ∷ entries) (suc i) d within =
    low-after (Some entry.high) entries i d (omega (arith, within))

pub low_at : (low : Option (List ℕ)) (entries : List Entry) (n : ℕ) (d : Entry) → n ≢ 0
    → n < length entries → low_before low entries n ≡ Some (get_or entries (n - 1) d).high
low_at low entries zero d some within = absurd (some refl)
low_at low entries (suc n) d some within =
    let same : suc n - 1 ≡ n = omega arith in
    low-after low entries n d (omega (arith, within))
    ∙ ap (λ (k : ℕ). Some (get_or entries k d).high) (sym same)

-- the range that is answered
pub found_range : (low wanted : Option (List ℕ)) (high : List ℕ) (entry : Entry) → wanted ≡ low
    → high ≡ entry.high
    → (let range : Range = record { low = wanted; high = high } in range) ≡ range_of low entry
found_range low wanted high entry lows highs = λ i. record { low = lows i; high = highs i }

-- an entry that is found is whole, and its intervals are in the area
pub got-whole : (n : ℕ) (entries : List Entry) (i : ℕ) (found : Entry)
    → All (IsWhole n) entries → slice_get entries i ≡ Some found → IsWhole n found
got-whole n entries i found all is =
    subst (IsWhole n) (get_or_from_slice_get entries i found found is)
    (all i found (slice_get_within entries i found is))

got-below : (limit : ℕ) (entries : List Entry) (i : ℕ) (found : Entry)
    → All (λ (n : ℕ). n < limit) (flat_map (λ (e : Entry). e.intervals) entries)
    → slice_get entries i ≡ Some found → All (λ (n : ℕ). n < limit) found.intervals
got-below limit [] i found all is = absurd cc
got-below limit (entry ∷ entries) zero found all is =
    let here : entry ≡ found = ap (λ (o : Option Entry). unwrap_or o entry) is in
    subst (λ (e : Entry). All (λ (n : ℕ). n < limit) e.intervals) here
    (All-left (λ (n : ℕ). n < limit) entry.intervals
    (flat_map (λ (e : Entry). e.intervals) entries) all)
got-below limit (entry ∷ entries) (suc i) found all is =
    got-below limit entries i found
    (All-right (λ (n : ℕ). n < limit) entry.intervals
    (flat_map (λ (e : Entry). e.intervals) entries) all) is

min-left : (m n : ℕ) → min m n ≤ m
min-left m n = omega arith

pub got-in : (area size : ℕ) (s : SequenceSet) (i : ℕ) (found : Entry) → KeepsRules area size s
    → slice_get s.entries i ≡ Some found → slice_index found.intervals 0 < area
got-in area size s i found rules is =
    let whole = got-whole (length s.low) s.entries i found rules.lengths.whole is in
    let below : slice_index found.intervals 0 < intervals_used area size (length s.low) =
    got-below (intervals_used area size (length s.low)) s.entries i found rules.numbers.below is
    0 0 whole.some in
    let most : intervals_used area size (length s.low) ≤ area =
    min-left area ((size - 32 - length s.low) / (4 + length s.low)) in
    omega (arith, below, most)

-- ---- records

-- what is read of an interval is its items
pub items-read : (part : Keyed) (range : Range) (block : Block) (value : ci.Interval)
    → HoldsRange part range block → ci.IsInterval Plain block value
    → value.items ≡ items_of block
items-read part range block value holds is =
    ap (λ (v : ci.Interval). v.items) (one_value Plain block value _ is holds.spelled)

-- what a test that is false says of a record that is kept
pub test-false : {A : Type 0} (test other : Bool) → (IsTrue test ↔ (A × IsTrue other))
    → test ≡ false → A → other ≡ false
test-false test true says fails least =
    absurd (true≢false (sym (says.1 (least, refl)) ∙ fails))
test-false test false says fails least = refl

-- The search has passed i records without finding the place.
pub record IsSearching (part : Keyed) (place : List ℕ) (all left : List ci.Item)
    (i : ℕ) : Type 0 where
  pub kept : All (IsKept part) left
  pub same : item_at (map (placed part) left) place ≡ item_at (map (placed part) all) place
  pub count : length left + i ≡ length all

pub search-starts : (part : Keyed) (place : List ℕ) (all : List ci.Item) → All (IsKept part) all
    → IsSearching part place all all 0
search-starts part place all kept = record { kept = kept; same = refl; count = omega arith }

module _ (part : Keyed) (place : List ℕ) (all old left : List ci.Item) (i : ℕ) (item : ci.Item)
  where
    -- the next record is at another place
    pub search-passes : old ≡ item ∷ left
        → (IsKept part item → key_of part item.bytes ≡ place → ⊥)
        → IsSearching part place all old i → IsSearching part place all left (i + 1)
    search-passes cut other search =
        let kept : All (IsKept part) (item ∷ left) = subst (All (IsKept part)) cut search.kept in
        record {
          kept = All-tail (IsKept part) item left kept;
          same = sym
              (by_other (place_cmp place (key_of part item.bytes)) (Some (Standing item.bytes))
              (item_at (map (placed part) left) place)
              (λ equal. other (All-head (IsKept part) item left kept)
              (sym (same_place place (key_of part item.bytes) equal))))
              ∙ sym (ap (λ (xs : List ci.Item). item_at (map (placed part) xs) place) cut)
              ∙ search.same;
          count = omega (arith, ap length cut, search.count);
        }

    -- or at this one
    pub search-finds : old ≡ item ∷ left → key_of part item.bytes ≡ place
        → IsSearching part place all old i
        → item_at (map (placed part) all) place ≡ Some (Standing item.bytes)
    search-finds cut here search =
        sym search.same ∙ ap (λ (xs : List ci.Item). item_at (map (placed part) xs) place) cut
        ∙ ap (λ (o : Rattle.std.specs.declared.cmp.Ordering.Ordering).
        found_by o (Some (Standing item.bytes)) (item_at (map (placed part) left) place))
        (ap (place_cmp place) here ∙ same_is_equal place)

no_items : (xs : List ci.Item) → length xs ≡ 0 → xs ≡ []
no_items [] none = refl
no_items (x ∷ xs) none = absurd (omega (arith, none))

-- none is left
pub search-ends : (part : Keyed) (place : List ℕ) (all left : List ci.Item) (i : ℕ)
    → (length left ≡ 0) → IsSearching part place all left i
    → item_at (map (placed part) all) place ≡ None
search-ends part place all left i none search =
    sym search.same
    ∙ ap (λ (xs : List ci.Item). item_at (map (placed part) xs) place) (no_items left none)

-- ---- how many records are at a place or before it

abbrev pub item_key : Keyed → ci.Item → List ℕ
item_key part item = key_of part item.bytes

-- So many first records are at the place or before it, and these are left.
pub record IsCounting (part : Keyed) (place : List ℕ) (all left : List ci.Item)
    (i : ℕ) : Type 0 where
  pub kept : All (IsKept part) left
  pub before : List (List ℕ)
  pub whole : map (item_key part) all ≡ before ++ map (item_key part) left
  pub count : length before ≡ i
  pub upto : All (λ (key : List ℕ). IsTrue (is_le (place_cmp key place))) before

pub count-starts : (part : Keyed) (place : List ℕ) (all : List ci.Item) → All (IsKept part) all
    → IsCounting part place all all 0
count-starts part place all kept = record {
  kept = kept;
  before = [];
  whole = refl;
  count = refl;
  upto = All-nil (λ (key : List ℕ). IsTrue (is_le (place_cmp key place)));
}

module _ (part : Keyed) (place : List ℕ) (all old left : List ci.Item) (i : ℕ) (item : ci.Item)
  where
    -- the next one is too
    pub count-passes : old ≡ item ∷ left → IsTrue (is_le (place_cmp (item_key part item) place))
        → IsCounting part place all old i → IsCounting part place all left (i + 1)
    count-passes cut upto counting = record {
      kept = All-tail (IsKept part) item left (subst (All (IsKept part)) cut counting.kept);
      before = counting.before ++ item_key part item ∷ [];
      whole = counting.whole
          ∙ ap (λ (xs : List ci.Item). counting.before ++ map (item_key part) xs) cut
          ∙ sym (append_assoc counting.before (item_key part item ∷ []) (map (item_key part) left));
      count = length-append counting.before (item_key part item ∷ [])
          ∙ ap (λ (n : ℕ). n + 1) counting.count;
      upto = All-push (λ (key : List ℕ). IsTrue (is_le (place_cmp key place))) counting.before
          (item_key part item) counting.upto upto;
    }

    past-all : (p key : List ℕ) (keys : List (List ℕ)) → place_cmp p key ≡ Less
        → AllByRecursion (λ (y : List ℕ). place_cmp key y ≡ Less) keys
        → AllByRecursion (λ (y : List ℕ). place_cmp p y ≡ Less) keys
    past-all p key [] past all = tt
    past-all p key (y ∷ keys) past all =
        (nat_list_cmp_total.trans p key y past all.0, past-all p key keys past all.1)

    sorted-after : (before keys : List (List ℕ)) → IsStrictlySortedBy place_cmp (before ++ keys)
        → IsStrictlySortedBy place_cmp keys
    sorted-after [] keys sorted = sorted
    sorted-after (key ∷ before) keys sorted =
        sorted-after before keys (sorted_tail place_cmp key (before ++ keys) sorted)

    -- or it is past it, and all after it are
    pub count-stops : old ≡ item ∷ left
        → (IsKept part item → is_le (place_cmp (item_key part item) place) ≡ false)
        → IsStrictlySortedBy place_cmp (map (item_key part) all)
        → IsCounting part place all old i → AreUpTo (map (item_key part) all) place i
    count-stops cut past sorted counting =
        let key : List ℕ = item_key part item in
        let rest : List (List ℕ) = map (item_key part) left in
        let whole : map (item_key part) all ≡ counting.before ++ (key ∷ rest) = counting.whole
        ∙ ap (λ (xs : List ci.Item). counting.before ++ map (item_key part) xs) cut in
        let is : IsKept part item =
        All-head (IsKept part) item left (subst (All (IsKept part)) cut counting.kept) in
        let here : place_cmp place key ≡ Less = is_past key place (past is) in
        let after : IsStrictlySortedBy place_cmp (key ∷ rest) = sorted-after counting.before
        (key ∷ rest) (subst (IsStrictlySortedBy place_cmp) whole sorted) in
        subst (λ (keys : List (List ℕ)). AreUpTo keys place i) (sym whole) (record {
          within = omega (arith, length-append counting.before (key ∷ rest), counting.count);
          upto = subst (All (λ (k : List ℕ). IsTrue (is_le (place_cmp k place))))
              (sym (take_at counting.before (key ∷ rest) i counting.count)) counting.upto;
          past = subst (All (λ (k : List ℕ). place_cmp place k ≡ Less))
              (sym (drop_at counting.before (key ∷ rest) i counting.count))
              (All-from_recursion (λ (k : List ℕ). place_cmp place k ≡ Less) (key ∷ rest) (
                here,
                past-all place key rest here (sorted_head place_cmp key rest after),
              ));
        })

-- or none is left
pub count-ends : (part : Keyed) (place : List ℕ) (all left : List ci.Item) (i : ℕ)
    → length left ≡ 0 → IsCounting part place all left i
    → AreUpTo (map (item_key part) all) place i
count-ends part place all left i none counting =
    let whole : map (item_key part) all ≡ counting.before ++ [] = counting.whole
    ∙ ap (λ (xs : List ci.Item). counting.before ++ map (item_key part) xs) (no_items left none) in
    subst (λ (keys : List (List ℕ)). AreUpTo keys place i) (sym whole) (record {
      within = omega (arith, length-append counting.before [], counting.count);
      upto = subst (All (λ (k : List ℕ). IsTrue (is_le (place_cmp k place))))
          (sym (take_at counting.before [] i counting.count)) counting.upto;
      past = subst (All (λ (k : List ℕ). place_cmp place k ≡ Less))
          (sym (drop_at counting.before [] i counting.count))
          (All-nil (λ (k : List ℕ). place_cmp place k ≡ Less));
    })

-- the interval of the entry of a number is one of its range
pub holds-nth : (part : Keyed) (image : Image) (low : Option (List ℕ)) (entries : List Entry)
    (n : ℕ) (entry : Entry) → HoldRanges part image low entries → slice_get entries n ≡ Some entry
    → HoldsRange part (range_of (low_before low entries n) entry)
    (block_at image (entry_block part entry))
holds-nth part image low [] n entry hold is = absurd cc
holds-nth part image low (first_entry ∷ entries) zero entry hold is =
    let here : first_entry ≡ entry = ap (λ (o : Option Entry). unwrap_or o first_entry) is in
    subst (λ (e : Entry). HoldsRange part (range_of low e) (block_at image (entry_block part e)))
    here hold.0
holds-nth part image low (first_entry ∷ entries) (suc n) entry hold is =
    holds-nth part image (Some first_entry.high) entries n entry hold.1 is
