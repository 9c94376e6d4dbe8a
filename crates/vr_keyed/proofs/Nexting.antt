-- Searching for the next place with a record.
use Rattle.std.proofs.Common.{◌≡◌, ◌≢◌, ◌⊎◌, inl, inr, ⊎_elim, ◌<◌, ◌≤◌, ◌+◌, ℕ, zero, suc}
use Rattle.std.proofs.Common.{Bool, IsTrue, true, false, ◌&&◌, List, [], ◌∷◌, Option, Some, None}
use Rattle.std.proofs.Common.{All}
use Rattle.std.proofs.Common.{refl, sym, ap, subst, ◌∙◌, arith, true≢false, length, map}
use Rattle.std.specs.Prelude.{cond, filter, is_some, option_and_then, unwrap_or, slice_get}
use Rattle.std.specs.List.{position, position_from}
use Rattle.std.specs.Ordering.{is_le, is_lt, ordering_reverse}
use Rattle.std.specs.declared.cmp.Ordering.{Ordering}
use Rattle.std.specs.declared.cmp.Ordering.TheVariants.{Less, Equal, Greater}
use Rattle.std.proofs.lemmas.Cmp.{nat_list_cmp_total}
use Rattle.std.proofs.lemmas.Iterator.Adapters.{position_from-zero}
use Rattle.std.proofs.lemmas.List.Elements.{All-head, All-tail}
use Rattle.vr_types.specs.Content.{Content, place_cmp, places_of, item_at, record_of}
use Rattle.vr_types.specs.Content.Item.{Standing}
use Rattle.vr_types.specs.Content.{found_by}
use Rattle.vr_types.specs.Image.{Block, Image, block_at}
use Rattle.vr_types.proofs.CallerLemmas.{same_place}
use Rattle.vr_ci.specs.Interval as ci
use Rattle.vr_seqset.specs.Entry.{Entry}
use Rattle.vr_seqset.specs.Search.{reaches}
use Rattle.vr_space.specs.declared.whence.Whence.{Whence}
use Rattle.vr_space.specs.Whence.{allows, first_of}
use Rattle.vr_space.specs.Room.{Range, is_in, is_above}
use Rattle.vr_space.specs.Keyed.{Keyed, IsKept, HoldsRange, entries_of, entry_for, key_of, placed}
use Rattle.vr_space.specs.Keyed.{records_of, range_of, HoldRanges, entry_block, low_of, way_in}
use Rattle.vr_space.specs.Way.{found_on}
use Rattle.vr_space.specs.AreaCalls.{IsNextHere, item_here, read_here}
use Rattle.vr_space.specs.Search.{low_before}
use Rattle.vr_space.proofs.CallerLemmas.{AllAbove, Rising, by_other, same_is_equal, lt_from_test}
use Rattle.vr_space.proofs.CallerLemmas.{AscendFrom, head-ascends, in-most, in-above, above-more}
use Rattle.vr_space.proofs.CallerLemmas.{found-entry, found-none, places-placed, rising-sorted}
use Rattle.vr_space.proofs.CallerLemmas.{holds-nth, leads-above}
use Rattle.vr_split.proofs.CallerLemmas.{found-range}
use Rattle.vr_keyed.specs.Look.{AreaStands}
use Rattle.vr_keyed.specs.Next.{is_sought, first_sought, HasNth}
use Rattle.std.proofs.lemmas.Bool.{cases_lt}

-- ---- the order

pub le-trans : (p q h : List ℕ) → is_le (place_cmp p q) ≡ true → is_le (place_cmp q h) ≡ true
    → is_le (place_cmp p h) ≡ true
le-trans p q h first second = by (place_cmp p q) (place_cmp q h) refl refl first second
  where
    by : (o u : Ordering) → place_cmp p q ≡ o → place_cmp q h ≡ u → is_le o ≡ true
        → is_le u ≡ true → is_le (place_cmp p h) ≡ true
    by Less Less is is_u most most_u = ap is_le (nat_list_cmp_total.trans p q h is is_u)
    by Less Equal is is_u most most_u =
        ap is_le (ap (place_cmp p) (sym (same_place q h is_u)) ∙ is)
    by Less Greater is is_u most most_u = absurd (true≢false (sym most_u))
    by Equal u is is_u most most_u =
        ap is_le (ap (λ (x : List ℕ). place_cmp x h) (same_place p q is) ∙ is_u) ∙ most_u
    by Greater u is is_u most most_u = absurd (true≢false (sym most))

-- ---- records of an interval

abbrev pub item_key : Keyed → ci.Item → List ℕ
item_key part item = key_of part item.bytes

-- The search has passed i records without finding one that is sought.
pub record IsLooking (part : Keyed) (range : Range) (from : Whence) (all left : List ci.Item)
    (i : ℕ) : Type 0 where
  pub kept : All (IsKept part) left
  pub same : first_sought range from (map (item_key part) left)
      ≡ first_sought range from (map (item_key part) all)
  pub count : length left + i ≡ length all

module _ (part : Keyed) (range : Range) (from : Whence) (all old left : List ci.Item) (i : ℕ)
    (item : ci.Item) where
  first-by : (b : Bool) → is_sought range from (item_key part item) ≡ b → old ≡ item ∷ left
      → first_sought range from (map (item_key part) old)
      ≡ first_of (cond b (item_key part item
      ∷ filter (is_sought range from) (map (item_key part) left))
      (filter (is_sought range from) (map (item_key part) left)))
  first-by b is cut =
      ap (λ (xs : List ci.Item). first_sought range from (map (item_key part) xs)) cut
      ∙ ap (λ (t : Bool). first_of (cond t (item_key part item
      ∷ filter (is_sought range from) (map (item_key part) left))
      (filter (is_sought range from) (map (item_key part) left)))) is

  pub looking-passes : old ≡ item ∷ left
      → (IsKept part item → is_sought range from (item_key part item) ≡ false)
      → IsLooking part range from all old i → IsLooking part range from all left (i + 1)
  looking-passes cut other looking =
      let kept : All (IsKept part) (item ∷ left) = subst (All (IsKept part)) cut looking.kept in
      record {
        kept = All-tail (IsKept part) item left kept;
        same = sym (first-by false (other (All-head (IsKept part) item left kept)) cut)
            ∙ looking.same;
        count = omega (arith, ap length cut, looking.count);
      }

no_items : (xs : List ci.Item) → length xs ≡ 0 → xs ≡ []
no_items [] none = refl
no_items (x ∷ xs) none = absurd (omega (arith, none))

-- ---- what the first key says of the records

module _ (test : List ℕ → Bool) where
  abbrev first : Content → Option (List ℕ)
  first content = first_of (filter test (places_of content))

  -- none passes
  pub none-passes : (content : Content) (q : List ℕ) → first content ≡ None → test q ≡ true
      → item_at content q ≡ None
  none-passes [] q none is = refl
  none-passes (entry ∷ content) q none is =
      by (test entry.0) refl none (λ more. none-passes content q more is)
    where
      by : (b : Bool) → test entry.0 ≡ b
          → first_of (cond b (entry.0 ∷ filter test (places_of content))
          (filter test (places_of content))) ≡ None
          → (first content ≡ None → item_at content q ≡ None)
          → item_at (entry ∷ content) q ≡ None
      by true it same more = absurd cc
      by false it same more =
          by_other (place_cmp q entry.0) (Some entry.1) (item_at content q)
          (λ equal. true≢false (sym is ∙ ap test (same_place q entry.0 equal) ∙ it))
          ∙ more same

  pub first-passes : (content : Content) (key : List ℕ) → first content ≡ Some key
      → test key ≡ true
  first-passes [] key is = absurd cc
  first-passes (entry ∷ content) key is =
      by (test entry.0) refl is (λ more. first-passes content key more)
    where
      by : (b : Bool) → test entry.0 ≡ b
          → first_of (cond b (entry.0 ∷ filter test (places_of content))
          (filter test (places_of content))) ≡ Some key
          → (first content ≡ Some key → test key ≡ true) → test key ≡ true
      by true it same more =
          let here : entry.0 ≡ key = ap (λ (o : Option (List ℕ)). unwrap_or o key) same in
          ap test (sym here) ∙ it
      by false it same more = more same

  -- those before the first that passes don't
  pub none-before : (content : Content) (key q : List ℕ) → Rising content
      → first content ≡ Some key → test q ≡ true → place_cmp q key ≡ Less
      → item_at content q ≡ None
  none-before [] key q rising is passes less = refl
  none-before (entry ∷ content) key q rising is passes less =
      by (test entry.0) refl is
      (λ more. none-before content key q rising.1 more passes less)
    where
      never : (xs : Content) → AllAbove (Some entry.0) xs → place_cmp q entry.0 ≡ Less
          → item_at xs q ≡ None
      never [] above under = refl
      never (x ∷ xs) above under =
          by_other (place_cmp q x.0) (Some x.1) (item_at xs q)
          (λ equal. absurd (unequal (nat_list_cmp_total.trans q entry.0 x.0 under
          (lt_from_test (place_cmp entry.0 x.0) above.0)) equal))
          ∙ never xs above.1 under
        where
          unequal : {o : Ordering} → o ≡ Less → o ≡ Equal → ⊥
          unequal is_less is_equal = cc

      by : (b : Bool) → test entry.0 ≡ b
          → first_of (cond b (entry.0 ∷ filter test (places_of content))
          (filter test (places_of content))) ≡ Some key
          → (first content ≡ Some key → item_at content q ≡ None)
          → item_at (entry ∷ content) q ≡ None
      by true it same more =
          let here : entry.0 ≡ key = ap (λ (o : Option (List ℕ)). unwrap_or o key) same in
          let under : place_cmp q entry.0 ≡ Less = ap (place_cmp q) here ∙ less in
          by_other (place_cmp q entry.0) (Some entry.1) (item_at content q)
          (λ equal. absurd (two under equal))
          ∙ never content rising.0 under
        where
          two : place_cmp q entry.0 ≡ Less → place_cmp q entry.0 ≡ Equal → ⊥
          two is_less is_equal = cc
      by false it same more =
          by_other (place_cmp q entry.0) (Some entry.1) (item_at content q)
          (λ equal. true≢false (sym passes ∙ ap test (same_place q entry.0 equal) ∙ it))
          ∙ more same

-- the first has a record
pub first-has : (part : Keyed) (test : List ℕ → Bool) (items : List ci.Item) (key : List ℕ)
    → first_of (filter test (map (item_key part) items)) ≡ Some key
    → option_and_then record_of (item_at (map (placed part) items) key) ≢ None
first-has part test [] key is none = absurd cc
first-has part test (item ∷ items) key is none =
    by (test (item_key part item)) is (place_cmp key (item_key part item)) refl
    (λ more. first-has part test items key more)
  where
    Has : Ordering → Type 0
    Has o = option_and_then record_of
        (found_by o (Some (Standing item.bytes)) (item_at (map (placed part) items) key)) ≡ None

    none_by : (o : Ordering) → place_cmp key (item_key part item) ≡ o
        → Has o
    none_by o same = sym (ap (λ (u : Ordering). option_and_then record_of
        (found_by u (Some (Standing item.bytes)) (item_at (map (placed part) items) key))) same)
        ∙ none

    by : (b : Bool)
        → first_of (cond b (item_key part item ∷ filter test (map (item_key part) items))
        (filter test (map (item_key part) items))) ≡ Some key
        → (o : Ordering) → place_cmp key (item_key part item) ≡ o
        → (first_of (filter test (map (item_key part) items)) ≡ Some key
        → option_and_then record_of (item_at (map (placed part) items) key) ≢ None) → ⊥
    by true same o compared more =
        let here : item_key part item ≡ key =
        ap (λ (x : Option (List ℕ)). unwrap_or x key) same in
        true≢false (ap is_some (none_by Equal
        (ap (place_cmp key) here ∙ same_is_equal key)))
    by false same Less compared more = more same (none_by Less compared)
    by false same Equal compared more = true≢false (ap is_some (none_by Equal compared))
    by false same Greater compared more = more same (none_by Greater compared)

-- ---- entries

pub position-up : (p q : List ℕ) (entries : List Entry) (k i j : ℕ)
    → is_le (place_cmp p q) ≡ true → position_from (reaches p) k entries ≡ Some i
    → position_from (reaches q) k entries ≡ Some j → i ≤ j
position-up p q [] k i j most first second = absurd cc
position-up p q (entry ∷ entries) k i j most first second =
    by (reaches p entry) (reaches q entry) refl refl first second
    (λ one other. position-up p q entries (k + 1) i j most one other)
  where
    least : (es : List Entry) (n m : ℕ) → position_from (reaches q) n es ≡ Some m → n ≤ m
    least [] n m is = absurd cc
    least (e ∷ es) n m is = at (reaches q e) is (λ more. least es (n + 1) m more)
      where
        at : (b : Bool) → cond b (Some n) (position_from (reaches q) (n + 1) es) ≡ Some m
            → (position_from (reaches q) (n + 1) es ≡ Some m → n + 1 ≤ m) → n ≤ m
        at true same more =
            let here : n ≡ m = ap (λ (o : Option ℕ). unwrap_or o n) same in omega (arith, here)
        at false same more = omega (arith, more same)

    by : (b c : Bool) → reaches p entry ≡ b → reaches q entry ≡ c
        → cond b (Some k) (position_from (reaches p) (k + 1) entries) ≡ Some i
        → cond c (Some k) (position_from (reaches q) (k + 1) entries) ≡ Some j
        → (position_from (reaches p) (k + 1) entries ≡ Some i
        → position_from (reaches q) (k + 1) entries ≡ Some j → i ≤ j) → i ≤ j
    by true true is_p is_q one other more =
        let here : k ≡ i = ap (λ (o : Option ℕ). unwrap_or o k) one in
        let there : k ≡ j = ap (λ (o : Option ℕ). unwrap_or o k) other in
        omega (arith, here, there)
    by true false is_p is_q one other more =
        let here : k ≡ i = ap (λ (o : Option ℕ). unwrap_or o k) one in
        omega (arith, here, least entries (k + 1) j other)
    by false true is_p is_q one other more =
        absurd (true≢false (sym (le-trans p q entry.high most is_q) ∙ is_p))
    by false false is_p is_q one other more = more one other

pub position-most : (p q : List ℕ) (entries : List Entry) (i j : ℕ)
    → is_le (place_cmp p q) ≡ true → position (reaches p) entries ≡ Some i
    → position (reaches q) entries ≡ Some j → i ≤ j
position-most p q entries i j most first second =
    position-up p q entries 0 i j most (sym (position_from-zero (reaches p) entries) ∙ first)
    (sym (position_from-zero (reaches q) entries) ∙ second)

-- ---- the entry of a number

-- a place above where the range of an entry begins is above the low place of all
low-above : (low : Option (List ℕ)) (entries : List Entry) (n : ℕ) (place : List ℕ)
    → AscendFrom low entries → is_above (low_before low entries n) place ≡ true
    → is_above low place ≡ true
low-above low entries zero place ascend above = above
low-above low [] (suc n) place ascend above = above
low-above low (entry ∷ entries) (suc n) place ascend above =
    above-more low entry.high place ascend.0
    (low-above (Some entry.high) entries n place ascend.1 above)

position-in : (place : List ℕ) (low : Option (List ℕ)) (entries : List Entry) (k n : ℕ)
    (entry : Entry) → AscendFrom low entries → slice_get entries n ≡ Some entry
    → is_in (range_of (low_before low entries n) entry) place ≡ true
    → position_from (reaches place) k entries ≡ Some (k + n)
position-in place low [] k n entry ascend is inside = absurd cc
position-in place low (first_entry ∷ entries) k zero entry ascend is inside =
    let here : first_entry ≡ entry = ap (λ (o : Option Entry). unwrap_or o first_entry) is in
    let same : k ≡ k + 0 = omega arith in
    ap (λ (b : Bool). cond b (Some k) (position_from (reaches place) (k + 1) entries))
    (ap (reaches place) here ∙ in-most (range_of low entry) place inside)
    ∙ ap (λ (m : ℕ). Some m) same
position-in place low (first_entry ∷ entries) k (suc n) entry ascend is inside =
    let past : is_above (Some first_entry.high) place ≡ true =
    low-above (Some first_entry.high) entries n place ascend.1
    (in-above (range_of (low_before (Some first_entry.high) entries n) entry) place inside) in
    let missed : reaches place first_entry ≡ false =
    ap is_le (nat_list_cmp_total.antisymm place first_entry.high
    ∙ ap ordering_reverse (lt_from_test (place_cmp first_entry.high place) past)) in
    let same : k + 1 + n ≡ k + suc n = omega arith in
    ap (λ (b : Bool). cond b (Some k) (position_from (reaches place) (k + 1) entries)) missed
    ∙ position-in place (Some first_entry.high) entries (k + 1) n entry ascend.1 is inside
    ∙ ap (λ (m : ℕ). Some m) same

position-below : (place : List ℕ) (entries : List Entry) (k i : ℕ)
    → position_from (reaches place) k entries ≡ Some i → i < k + length entries
position-below place [] k i is = absurd cc
position-below place (entry ∷ entries) k i is =
    by (reaches place entry) is (λ more. position-below place entries (k + 1) i more)
  where
    by : (b : Bool) → cond b (Some k) (position_from (reaches place) (k + 1) entries) ≡ Some i
        → (position_from (reaches place) (k + 1) entries ≡ Some i → i < k + 1 + length entries)
        → i < k + length (entry ∷ entries)
    by true same more =
        let here : k ≡ i = ap (λ (o : Option ℕ). unwrap_or o k) same in omega (arith, here)
    by false same more = omega (arith, more same)

-- ---- entry after entry

module _ (part : Keyed) (image : Image) (from : Whence) (stands : AreaStands part image) where
  abbrev all-entries : List Entry
  all-entries = entries_of (block_at image part.head)

  -- where the first range begins
  abbrev first-low : Option (List ℕ)
  first-low = low_of (block_at image part.head)

  above-or : (q : List ℕ) → (is_above first-low q ≡ true) ⊎ (is_above first-low q ≡ false)
  above-or q = by (is_above first-low q)
    where
      by : (b : Bool) → (b ≡ true) ⊎ (b ≡ false)
      by true = inl refl
      by false = inr refl

  -- the area has no item at a place that isn't above
  none-out : (q : List ℕ) → is_above first-low q ≡ false
      → item_here part image q ≡ None
  none-out q out = ap (λ (b : Bool). found_on image
      (way_in part q (cond b (entry_for first-low all-entries q) None))) out

  -- nor at one that no entry reaches
  none-reached : (q : List ℕ) → position (reaches q) all-entries ≡ None
      → item_here part image q ≡ None
  none-reached q is = ⊎_elim
      (λ above. ap (λ (o : Option (Range × Entry)). found_on image (way_in part q o))
      (leads-above first-low all-entries q above ∙ found-none q first-low all-entries is))
      (λ out. none-out q out) (above-or q)

  -- none of the entries before holds a place that the search may find, with a record
  abbrev pub NoneBefore : ℕ → Type 0
  NoneBefore n = (q : List ℕ) (i : ℕ) → IsTrue (allows from q)
      → position (reaches q) all-entries ≡ Some i → i < n
      → item_here part image q ≡ None

  module _ (n : ℕ) (first_is : Option (List ℕ)) (has : HasNth part image n from first_is) where
    abbrev nth-range : Range
    nth-range = range_of (low_before first-low all-entries n) has.entry

    abbrev nth-block : Block
    nth-block = block_at image (entry_block part has.entry)

    nth-holds : HoldsRange part nth-range nth-block
    nth-holds = holds-nth part image first-low all-entries n has.entry stands.1.intervals has.is

    nth-first : first_of (filter (is_sought nth-range from)
        (places_of (records_of part nth-block))) ≡ first_is
    nth-first = ap (λ (places : List (List ℕ)). first_of (filter (is_sought nth-range from) places))
        (places-placed part (Rattle.vr_space.specs.Keyed.items_of nth-block)) ∙ has.first_is

    nth-rises : Rising (records_of part nth-block)
    nth-rises = rising-sorted (records_of part nth-block)
        (subst (Rattle.std.specs.List.Sorted.IsStrictlySortedBy place_cmp)
        (sym (places-placed part (Rattle.vr_space.specs.Keyed.items_of nth-block)))
        nth-holds.ascends)

    -- what is read at a place of the range
    nth-item : (q : List ℕ) → is_above first-low q ≡ true
        → position (reaches q) all-entries ≡ Some n
        → item_here part image q ≡ item_at (records_of part nth-block) q
    nth-item q above is = ap (λ (o : Option (Range × Entry)). found_on image (way_in part q o))
        (leads-above first-low all-entries q above
        ∙ found-entry q first-low all-entries n has.entry is has.is)

    nth-sought : (q : List ℕ) → is_above first-low q ≡ true → IsTrue (allows from q)
        → position (reaches q) all-entries ≡ Some n → is_sought nth-range from q ≡ true
    nth-sought q above allowed is =
        both (is_in nth-range q) (allows from q)
        (found-range first-low all-entries q (nth-range, has.entry) above
        (found-entry q first-low all-entries n has.entry is has.is)) allowed
      where
        both : (x y : Bool) → x ≡ true → y ≡ true → (x && y) ≡ true
        both true y left right = right
        both false y left right = absurd (true≢false (sym left))

  -- one more
  pub none-more : (n : ℕ)
      → (HasNth part image n from None ⊎ (length all-entries ≤ n))
      → NoneBefore n → NoneBefore (n + 1)
  none-more n has none q i allowed is below =
      ⊎_elim (λ less. none q i allowed is less)
      (λ most.
      let here : i ≡ n = omega (arith, most, below) in
      let at_n : position (reaches q) all-entries ≡ Some n = is ∙ ap (λ (m : ℕ). Some m) here in
      ⊎_elim
      (λ nth. ⊎_elim
      (λ above. nth-item n None nth q above at_n
      ∙ none-passes (is_sought (nth-range n None nth) from)
      (records_of part (nth-block n None nth)) q (nth-first n None nth)
      (nth-sought n None nth q above allowed at_n))
      (λ out. none-out q out) (above-or q))
      (λ past. absurd (omega (
        arith,
        past,
        position-below q all-entries 0 n
            (sym (position_from-zero (reaches q) all-entries) ∙ at_n),
      )))
      has)
      (cases_lt i n)

  -- none at all
  pub no-next : (n : ℕ) → length all-entries ≤ n → NoneBefore n
      → (q : List ℕ) → IsTrue (allows from q) → read_here part image q ≡ None
  no-next n all none q allowed =
      ap (option_and_then record_of) (by (position (reaches q) all-entries) refl)
    where
      by : (o : Option ℕ) → position (reaches q) all-entries ≡ o
          → item_here part image q ≡ None
      by None is = none-reached q is
      by (Some i) is = none q i allowed is (omega (
        arith,
        all,
        position-below q all-entries 0 i
            (sym (position_from-zero (reaches q) all-entries) ∙ is),
      ))

  -- the first of the entry of this number
  pub next-is : (n : ℕ) (place : List ℕ) → HasNth part image n from (Some place) → NoneBefore n
      → IsNextHere part image from place
  next-is n place has none = record {
    allowed = right (is_in range place) (allows from place) passes;
    some = λ nothing. first-has part (is_sought range from)
        (Rattle.vr_space.specs.Keyed.items_of (nth-block n (Some place) has)) place has.first_is
        (ap (option_and_then record_of) (sym (nth-item n (Some place) has place above at_n))
        ∙ nothing);
    least = λ q allowed less. ap (option_and_then record_of)
        (by q (position (reaches q) all-entries) refl allowed less);
  }
    where
      range : Range
      range = nth-range n (Some place) has

      passes : is_sought range from place ≡ true
      passes = first-passes (is_sought range from)
          (records_of part (nth-block n (Some place) has)) place (nth-first n (Some place) has)

      left : (x y : Bool) → (x && y) ≡ true → x ≡ true
      left true y is = refl
      left false y is = is

      right : (x y : Bool) → (x && y) ≡ true → y ≡ true
      right true y is = is
      right false y is = absurd (true≢false (sym is))

      ascends : AscendFrom first-low all-entries
      ascends = head-ascends part (block_at image part.head) stands.1.head

      inside : is_in range place ≡ true
      inside = left (is_in range place) (allows from place) passes

      above : is_above first-low place ≡ true
      above = low-above first-low all-entries n place ascends (in-above range place inside)

      at_n : position (reaches place) all-entries ≡ Some n
      at_n =
          let same : 0 + n ≡ n = omega arith in
          position_from-zero (reaches place) all-entries
          ∙ position-in place first-low all-entries 0 n has.entry ascends has.is inside
          ∙ ap (λ (m : ℕ). Some m) same

      by : (q : List ℕ) (o : Option ℕ) → position (reaches q) all-entries ≡ o
          → IsTrue (allows from q) → place_cmp q place ≡ Less
          → item_here part image q ≡ None
      by q None is allowed less = none-reached q is
      by q (Some i) is allowed less = ⊎_elim (λ under. none q i allowed is under)
          (λ most.
          let up : i ≤ n = position-most q place all-entries i n (ap is_le less) is at_n in
          let here : i ≡ n = omega (arith, most, up) in
          let there : position (reaches q) all-entries ≡ Some n = is ∙ ap (λ (m : ℕ). Some m) here
          in
          ⊎_elim
          (λ over. nth-item n (Some place) has q over there
          ∙ none-before (is_sought range from)
          (records_of part (nth-block n (Some place) has)) place q (nth-rises n (Some place) has)
          (nth-first n (Some place) has) (nth-sought n (Some place) has q over allowed there) less)
          (λ out. none-out q out) (above-or q))
          (cases_lt i n)
