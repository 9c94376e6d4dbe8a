-- Room once a record is kept that stands: it takes no more.
use Rattle.std.proofs.Common.{◌≡◌, ◌≤◌, ℕ, zero, suc, IfSome, Bool, true, false, cond, List, []}
use Rattle.std.proofs.Common.{◌∷◌, map}
use Rattle.std.proofs.Common.{Option, Some, None, refl, sym, ap, subst, ◌∙◌, arith, length}
use Rattle.std.specs.Prelude.{max, nat_le}
use Rattle.std.proofs.lemmas.Bool.{leb-false, leb-true, true≢false}
use Rattle.std.specs.Prelude.{All, filter}
use Rattle.std.specs.List.{AllByRecursion}
use Rattle.std.specs.List.Sorted.{IsStrictlySortedBy}
use Rattle.std.specs.Ordering.{is_le, ordering_reverse}
use Rattle.std.specs.declared.cmp.Ordering.{Ordering}
use Rattle.std.specs.declared.cmp.Ordering.TheVariants.{Less, Equal, Greater}
use Rattle.std.proofs.lemmas.Cmp.{nat_list_cmp_total}
use Rattle.std.proofs.lemmas.Map.Keys.{sorted_head, sorted_tail}
use Rattle.std.specs.Cmp.{tied_itself}
use Rattle.vr_types.specs.Content.{Item, Placed, found_by, place_cmp, item_at}
use Rattle.vr_types.specs.Content.Item.{Standing}
use Rattle.vr_types.specs.Geometry.{area_count}
use Rattle.vr_types.specs.Image.{Block}
use Rattle.vr_types.specs.Seen.{Seen}
use Rattle.vr_types.proofs.CallerLemmas.{same_place}
use Rattle.vr_ci.specs.Interval as ci
use Rattle.vr_seqset.specs.Entry.{Entry}
use Rattle.vr_seqset.specs.Reading.{record_in}
use Rattle.vr_space.specs.Keyed.{EachMayLeave, HoldsRange, IsKeyedSound, Keyed, KeepsRoom}
use Rattle.vr_space.specs.Keyed.{entries_of, entry_in, way_under}
use Rattle.vr_space.specs.Areas.{EachAfter, IsFollowed, IsOwnedArea, KeyedChain, Links, area_of}
use Rattle.vr_space.specs.Areas.{areas_way, end_of, head_of, reaches, way_past}
use Rattle.vr_space.specs.Keyed.{entry_above, entry_block, entry_for, items_of, key_of, length_of}
use Rattle.vr_space.specs.Keyed.{lengths_of, low_of, placed, range_of, records_in, records_of}
use Rattle.vr_space.specs.Owners.{Owners}
use Rattle.vr_space.specs.Part.{HasKeptRoom, IsPlaceOf, IsSound, KeyedShape, MayGoBack, MayHold}
use Rattle.vr_space.specs.Part.{NumberedShape, Shape}
use Rattle.vr_space.specs.Room.{HaveRoom, Lengths, Range, is_in, lengthen_by, lengths_in}
use Rattle.vr_space.specs.Room.{with_length, with_lengths}
use Rattle.vr_space.specs.Numbered.{HasKeptPlace, IsFilled, IsKeptLength}
use Rattle.vr_space.specs.Rosters.{IsOwnArea, after_next}
use Rattle.vr_space.specs.Way.{Found, MayFind, Way}
use Rattle.vr_space.specs.Keyed.{way_in}
use Rattle.vr_space.specs.Room.{is_above}
use Rattle.vr_types.specs.Seen.{Only}
use Rattle.vr_space.proofs.AreaEnds.{above-past, found-between, past-low}
use Rattle.vr_space.proofs.KeyedContent.{AscendFrom, leads-above}
use Rattle.vr_space.proofs.KeyedSound.{head-ascends}
use Rattle.vr_space.proofs.NumberedRooms.{IsKeptItem, finds-place}
use Rattle.vr_space.proofs.Places.{above-more, in-past, lt_from_test, not_past}
use Rattle.std.proofs.lemmas.List.Elements.{All-from_recursion, recursion_from_All}
use Rattle.std.specs.Prelude.{◌&&◌}

-- ---- lengths that have a place

-- the place is among ascending ones, with this length
abbrev pub holds_by : Ordering → ℕ → ℕ → Type 0 → Type 0
holds_by Less n here further = ⊥
holds_by Equal n here further = n ≤ here
holds_by Greater n here further = further

-- with this length at least
abbrev pub Holds : Lengths → List ℕ → ℕ → Type 0
Holds [] place n = ⊥
Holds (entry ∷ lengths) place n =
    holds_by (place_cmp place entry.0) n entry.1 (Holds lengths place n)

-- no less has to be kept there
absorbs : (lengths : Lengths) (place : List ℕ) (n more : ℕ) → Holds lengths place n
    → with_length lengths place (max n more) ≡ with_length lengths place more
absorbs [] place n more holds = absurd holds
absorbs (entry ∷ lengths) place n more holds =
    by_order (place_cmp place entry.0) holds (absorbs lengths place n more)
  where
    by_order : (order : Ordering) → holds_by order n entry.1 (Holds lengths place n)
        → (Holds lengths place n
        → with_length lengths place (max n more) ≡ with_length lengths place more)
        → lengthen_by order place (max n more) entry lengths
        (with_length lengths place (max n more))
        ≡ lengthen_by order place more entry lengths (with_length lengths place more)
    by_order Less here further = absurd here
    by_order Equal here further =
        ap (λ (m : ℕ). let first : List ℕ × ℕ = (entry.0, m) in first ∷ lengths)
        (omega (arith, here))
    by_order Greater here further = ap (λ (rest : Lengths). entry ∷ rest) (further here)

stays : (lengths : Lengths) (place : List ℕ) (n : ℕ) → Holds lengths place n
    → with_length lengths place n ≡ lengths
stays [] place n holds = absurd holds
stays (entry ∷ lengths) place n holds =
    by_order (place_cmp place entry.0) holds (stays lengths place n)
  where
    by_order : (order : Ordering) → holds_by order n entry.1 (Holds lengths place n)
        → (Holds lengths place n → with_length lengths place n ≡ lengths)
        → lengthen_by order place n entry lengths (with_length lengths place n) ≡ entry ∷ lengths
    by_order Less here further = absurd here
    by_order Equal here further =
        ap (λ (m : ℕ). let first : List ℕ × ℕ = (entry.0, m) in first ∷ lengths)
        (omega (arith, here))
    by_order Greater here further = ap (λ (rest : Lengths). entry ∷ rest) (further here)

-- what is kept elsewhere leaves it there
holds-with : (lengths : Lengths) (place : List ℕ) (n : ℕ) (other : List ℕ) (m : ℕ)
    → Holds lengths place n → Holds (with_length lengths other m) place n
holds-with [] place n other m holds = absurd holds
holds-with (entry ∷ lengths) place n other m holds =
    by_order (place_cmp other entry.0) refl (holds-with lengths place n other m)
  where
    less-greater : (one two : List ℕ) → place_cmp one two ≡ Less → place_cmp two one ≡ Greater
    less-greater one two less = nat_list_cmp_total.antisymm two one ∙ ap ordering_reverse less

    -- below the first place there is nothing
    past-first : (order : Ordering) → place_cmp place entry.0 ≡ order
        → holds_by order n entry.1 (Holds lengths place n) → place_cmp other entry.0 ≡ Less
        → place_cmp place other ≡ Greater
    past-first Less is here less = absurd here
    past-first Equal is here less = less-greater other place
        (subst (λ (q : List ℕ). place_cmp other q ≡ Less) (sym (same_place place entry.0 is)) less)
    past-first Greater is here less = less-greater other place
        (nat_list_cmp_total.trans other entry.0 place less
        (nat_list_cmp_total.antisymm entry.0 place ∙ ap ordering_reverse is))

    here-more : (order : Ordering) → holds_by order n entry.1 (Holds lengths place n)
        → holds_by order n (max m entry.1) (Holds lengths place n)
    here-more Less here = here
    here-more Equal here = omega (arith, here)
    here-more Greater here = here

    on-further : (order : Ordering) → holds_by order n entry.1 (Holds lengths place n)
        → (Holds lengths place n → Holds (with_length lengths other m) place n)
        → holds_by order n entry.1 (Holds (with_length lengths other m) place n)
    on-further Less here further = here
    on-further Equal here further = here
    on-further Greater here further = further here

    by_order : (order : Ordering) → place_cmp other entry.0 ≡ order
        → (Holds lengths place n → Holds (with_length lengths other m) place n)
        → Holds (lengthen_by order other m entry lengths (with_length lengths other m)) place n
    by_order Less is further =
        subst (λ (order : Ordering). holds_by order n m (Holds (entry ∷ lengths) place n))
        (sym (past-first (place_cmp place entry.0) refl holds is)) holds
    by_order Equal is further = here-more (place_cmp place entry.0) holds
    by_order Greater is further = on-further (place_cmp place entry.0) holds further

-- ---- what is kept beside it

-- a record that stands may be kept too
pub kept-stands : (range : Range) (lengths kept : Lengths) (place : List ℕ) (n : ℕ)
    → Holds lengths place n
    → with_lengths lengths (lengths_in range (with_length kept place n)) ≡ with_lengths lengths
    (lengths_in range kept)
kept-stands range lengths [] place n holds = by_test (is_in range place)
  where
    by_test : (inside : Bool) → with_lengths lengths (cond inside ((place, n) ∷ []) []) ≡ lengths
    by_test true = stays lengths place n holds
    by_test false = refl
kept-stands range lengths (entry ∷ kept) place n holds =
    by_order (place_cmp place entry.0) refl
    (λ (l : Lengths) there. kept-stands range l kept place n there)
  where
    first-in : (inside : Bool)
        → with_lengths lengths (cond inside ((place, n) ∷ lengths_in range (entry ∷ kept))
        (lengths_in range (entry ∷ kept)))
        ≡ with_lengths lengths (lengths_in range (entry ∷ kept))
    first-in true = ap (λ (l : Lengths). with_lengths l (lengths_in range (entry ∷ kept)))
        (stays lengths place n holds)
    first-in false = refl

    same-in : (inside : Bool) → place ≡ entry.0
        → with_lengths lengths (cond inside ((entry.0, max n entry.1) ∷ lengths_in range kept)
        (lengths_in range kept))
        ≡ with_lengths lengths (cond inside (entry ∷ lengths_in range kept)
        (lengths_in range kept))
    same-in true at = ap (λ (l : Lengths). with_lengths l (lengths_in range kept))
        (subst (λ (q : List ℕ). with_length lengths q (max n entry.1)
        ≡ with_length lengths q entry.1)
        at (absorbs lengths place n entry.1 holds))
    same-in false at = refl

    later-in : (inside : Bool)
        → ((l : Lengths) → Holds l place n
        → with_lengths l (lengths_in range (with_length kept place n)) ≡ with_lengths l
        (lengths_in range kept))
        → with_lengths lengths (cond inside (entry ∷ lengths_in range (with_length kept place n))
        (lengths_in range (with_length kept place n)))
        ≡ with_lengths lengths (cond inside (entry ∷ lengths_in range kept)
        (lengths_in range kept))
    later-in true further = further (with_length lengths entry.0 entry.1)
        (holds-with lengths place n entry.0 entry.1 holds)
    later-in false further = further lengths holds

    by_order : (order : Ordering) → place_cmp place entry.0 ≡ order
        → ((l : Lengths) → Holds l place n
        → with_lengths l (lengths_in range (with_length kept place n)) ≡ with_lengths l
        (lengths_in range kept))
        → with_lengths lengths (lengths_in range (lengthen_by order place n entry kept
        (with_length kept place n)))
        ≡ with_lengths lengths (lengths_in range (entry ∷ kept))
    by_order Less is further = first-in (is_in range place)
    by_order Equal is further = same-in (is_in range entry.0) (same_place place entry.0 is)
    by_order Greater is further = later-in (is_in range entry.0) further

-- ---- the records of an interval

-- what is read of an item that stands
some-bytes : (one other : List ℕ) → Some (Standing one) ≡ Some (Standing other) → one ≡ other
some-bytes one other same = cc

some-none : (one : Item) → Some one ≡ None → ⊥
some-none one is = cc

-- ascending keys above a place have no record there
none-above : (part : Keyed) (items : List ci.Item) (place : List ℕ)
    → AllByRecursion (λ key. place_cmp place key ≡ Less)
    (map (λ (item : ci.Item). key_of part item.bytes) items)
    → item_at (map (placed part) items) place ≡ None
none-above part [] place all = refl
none-above part (item ∷ items) place all =
    ap (λ (order : Ordering). found_by order (Some (Standing item.bytes))
    (item_at (map (placed part) items) place)) all.0
    ∙ none-above part items place all.1

all-more : (low place : List ℕ) (keys : List (List ℕ)) → place_cmp low place ≡ Less
    → AllByRecursion (λ key. place_cmp place key ≡ Less) keys
    → AllByRecursion (λ key. place_cmp low key ≡ Less) keys
all-more low place [] less all = tt
all-more low place (key ∷ keys) less all = (
  nat_list_cmp_total.trans low place key less all.0,
  all-more low place keys less all.1,
)

-- a record that is read in a range has its length there
pub holds-read : (part : Keyed) (range : Range) (items : List ci.Item) (place bytes : List ℕ)
    (n : ℕ)
    → IsStrictlySortedBy place_cmp (map (λ (item : ci.Item). key_of part item.bytes) items)
    → is_in range place ≡ true → item_at (map (placed part) items) place ≡ Some (Standing bytes)
    → n ≤ length bytes
    → Holds (map length_of (filter (λ (entry : Placed). is_in range entry.0)
    (map (placed part) items))) place n
holds-read part range [] place bytes n sorted inside reads most = absurd (cc)
holds-read part range (item ∷ items) place bytes n sorted inside reads most =
    by_order (place_cmp place (key_of part item.bytes)) refl reads
    (λ there. holds-read part range items place bytes n
    (sorted_tail place_cmp (key_of part item.bytes)
    (map (λ (other : ci.Item). key_of part other.bytes) items) sorted) inside there most)
  where
    above : AllByRecursion (λ key. place_cmp (key_of part item.bytes) key ≡ Less)
        (map (λ (other : ci.Item). key_of part other.bytes) items)
    above = sorted_head place_cmp (key_of part item.bytes)
        (map (λ (other : ci.Item). key_of part other.bytes) items) sorted

    here : place ≡ key_of part item.bytes → Some (Standing item.bytes) ≡ Some (Standing bytes)
        → (inside-key : Bool)
        → is_in range (key_of part item.bytes) ≡ inside-key
        → Holds (map length_of (cond inside-key
        (placed part item ∷ filter (λ (entry : Placed). is_in range entry.0)
        (map (placed part) items))
        (filter (λ (entry : Placed). is_in range entry.0) (map (placed part) items)))) place n
    here at same true is =
        subst (λ (order : Ordering). holds_by order n (length item.bytes)
        (Holds (map length_of (filter (λ (entry : Placed). is_in range entry.0)
        (map (placed part) items))) place n))
        (sym (ap (λ (q : List ℕ). place_cmp place q) (sym at)
        ∙ tied_itself nat_list_cmp_total place))
        (subst (λ (b : List ℕ). n ≤ length b) (sym (some-bytes item.bytes bytes same)) most)
    here at same false is =
        absurd (true≢false (sym inside ∙ ap (is_in range) at ∙ is))

    past : place_cmp place (key_of part item.bytes) ≡ Greater
        → Holds (map length_of (filter (λ (entry : Placed). is_in range entry.0)
        (map (placed part) items))) place n
        → (inside-key : Bool)
        → Holds (map length_of (cond inside-key
        (placed part item ∷ filter (λ (entry : Placed). is_in range entry.0)
        (map (placed part) items))
        (filter (λ (entry : Placed). is_in range entry.0) (map (placed part) items)))) place n
    past is further true =
        subst (λ (order : Ordering). holds_by order n (length item.bytes)
        (Holds (map length_of (filter (λ (entry : Placed). is_in range entry.0)
        (map (placed part) items))) place n)) (sym is) further
    past is further false = further

    by_order : (order : Ordering) → place_cmp place (key_of part item.bytes) ≡ order
        → found_by order (Some (Standing item.bytes)) (item_at (map (placed part) items) place)
        ≡ Some (Standing bytes)
        → (item_at (map (placed part) items) place ≡ Some (Standing bytes)
        → Holds (map length_of (filter (λ (entry : Placed). is_in range entry.0)
        (map (placed part) items))) place n)
        → Holds (map length_of (filter (λ (entry : Placed). is_in range entry.0)
        (map (placed part) (item ∷ items)))) place n
    by_order Less is there further = absurd (some-none (Standing bytes) (sym there
        ∙ none-above part items place (all-more place (key_of part item.bytes)
        (map (λ (other : ci.Item). key_of part other.bytes) items) is above)))
    by_order Equal is there further =
        here (same_place place (key_of part item.bytes) is) there
        (is_in range (key_of part item.bytes)) refl
    by_order Greater is there further = past is (further there)
        (is_in range (key_of part item.bytes))

-- ---- the intervals

-- beyond a range nothing more is kept
pub kept-out : (range : Range) (kept : Lengths) (place : List ℕ) (n : ℕ) → is_in range place ≡ false
    → lengths_in range (with_length kept place n) ≡ lengths_in range kept
kept-out range [] place n out =
    ap (λ (inside : Bool). cond inside (let one : List ℕ × ℕ = (place, n) in one ∷ []) []) out
kept-out range (entry ∷ kept) place n out =
    by_order (place_cmp place entry.0) refl (kept-out range kept place n out)
  where
    by_order : (order : Ordering) → place_cmp place entry.0 ≡ order
        → lengths_in range (with_length kept place n) ≡ lengths_in range kept
        → lengths_in range (lengthen_by order place n entry kept (with_length kept place n))
        ≡ lengths_in range (entry ∷ kept)
    by_order Less is further =
        ap (λ (inside : Bool). cond inside
        (let one : List ℕ × ℕ = (place, n) in one ∷ lengths_in range (entry ∷ kept))
        (lengths_in range (entry ∷ kept))) out
    by_order Equal is further =
        let other : is_in range entry.0 ≡ false =
        ap (is_in range) (sym (same_place place entry.0 is)) ∙ out in
        ap (λ (inside : Bool). cond inside
        (let one : List ℕ × ℕ = (entry.0, max n entry.1) in one ∷ lengths_in range kept)
        (lengths_in range kept)) other
        ∙ sym (ap (λ (inside : Bool). cond inside (entry ∷ lengths_in range kept)
        (lengths_in range kept)) other)
    by_order Greater is further =
        ap (λ (rest : Lengths). cond (is_in range entry.0) (entry ∷ rest) rest) further

-- the block has such a record at the place
abbrev pub HasLonger : Keyed → List ℕ → ℕ → Block → Type 0
HasLonger part place n block = (bytes : List ℕ)
    × (item_at (records_of part block) place ≡ Some (Standing bytes)) × (n ≤ length bytes)

module _ (part : Keyed) (kept : Lengths) (place : List ℕ) (n : ℕ) (now : Seen) where
  abbrev Room : Lengths → Range → Block → Type 0
  Room lengths range block = HaveRoom part.size (lengths_of part lengths range block)

  room-out : (range : Range) (block : Block) → is_in range place ≡ false → Room kept range block
      → Room (with_length kept place n) range block
  room-out range block out room = subst
      (λ (those : Lengths). HaveRoom part.size
      (with_lengths (map length_of (records_in part range block)) those))
      (sym (kept-out range kept place n out)) room

  room-in : (range : Range) (block : Block) → is_in range place ≡ true → HoldsRange part range block
      → HasLonger part place n block → Room kept range block
      → Room (with_length kept place n) range block
  room-in range block inside holds has room = subst (HaveRoom part.size)
      (sym (kept-stands range (map length_of (records_in part range block)) kept place n
      (holds-read part range (items_of block) place has.0 n holds.ascends inside has.1 has.2)))
      room

  room-by : (range : Range) (block : Block) (inside : Bool) → is_in range place ≡ inside
      → HoldsRange part range block → HasLonger part place n block → Room kept range block
      → Room (with_length kept place n) range block
  room-by range block true is holds has room = room-in range block is holds has room
  room-by range block false is holds has room = room-out range block is room

  -- where the place isn't above the low bound, it is in none of the ranges
  each-out : (low : List ℕ) (entries : List Entry) → AscendFrom (Some low) entries
      → is_above (Some low) place ≡ false → EachMayLeave part now (Some low) entries (Room kept)
      → EachMayLeave part now (Some low) entries (Room (with_length kept place n))
  each-out low [] ascend out each = tt
  each-out low (entry ∷ entries) ascend out each = (
    λ block may. room-out (range_of (Some low) entry) block
        (ap (λ (above : Bool). above && is_le (place_cmp place entry.high)) out)
        (each.0 block may),
    each-out entry.high entries ascend.1 (not-above (is_above (Some entry.high) place) refl)
        each.1,
  )
    where
      not-above : (above : Bool) → is_above (Some entry.high) place ≡ above
          → is_above (Some entry.high) place ≡ false
      not-above true is =
          absurd (true≢false (sym (above-more (Some low) entry.high place ascend.0 is) ∙ out))
      not-above false is = is

  each-kept : (low : Option (List ℕ)) (entries : List Entry) → AscendFrom low entries
      → ((at : Range × Entry) → entry_for low entries place ≡ Some at
      → Only now (entry_block part at.1) (HasLonger part place n))
      → EachMayLeave part now low entries (HoldsRange part)
      → EachMayLeave part now low entries (Room kept)
      → EachMayLeave part now low entries (Room (with_length kept place n))
  each-kept low [] ascend found holds each = tt
  each-kept low (entry ∷ entries) ascend found holds each =
      by_test (is_le (place_cmp place entry.high)) refl found
      (λ below. each-kept (Some entry.high) entries ascend.1 below holds.1 each.1)
    where
      not-lt : is_le (place_cmp place entry.high) ≡ true → (above : Bool)
          → is_above (Some entry.high) place ≡ above → is_above (Some entry.high) place ≡ false
      not-lt most true is =
          absurd (not_past place entry.high most (lt_from_test (place_cmp entry.high place) is))
      not-lt most false is = is

      by_test : (reaches : Bool) → is_le (place_cmp place entry.high) ≡ reaches
          → ((at : Range × Entry)
          → cond reaches (Some (range_of low entry, entry))
          (entry_for (Some entry.high) entries place) ≡ Some at
          → Only now (entry_block part at.1) (HasLonger part place n))
          → (((at : Range × Entry) → entry_for (Some entry.high) entries place ≡ Some at
          → Only now (entry_block part at.1) (HasLonger part place n))
          → EachMayLeave part now (Some entry.high) entries (Room (with_length kept place n)))
          → EachMayLeave part now low (entry ∷ entries) (Room (with_length kept place n))
      by_test true is here further = (
        λ block may. room-by (range_of low entry) block (is_in (range_of low entry) place) refl
            (holds.0 block may) (here (range_of low entry, entry) refl block may)
            (each.0 block may),
        each-out entry.high entries ascend.1
            (not-lt is (is_above (Some entry.high) place) refl) each.1,
      )
      by_test false is here further = (
        λ block may. room-out (range_of low entry) block
            (in-past (range_of low entry) place is) (each.0 block may),
        further here,
      )

  -- wherever the place is
  each-any : (low : Option (List ℕ)) (entries : List Entry) → AscendFrom low entries
      → ((at : Range × Entry) → entry_above low entries place ≡ Some at
      → Only now (entry_block part at.1) (HasLonger part place n))
      → EachMayLeave part now low entries (HoldsRange part)
      → EachMayLeave part now low entries (Room kept)
      → EachMayLeave part now low entries (Room (with_length kept place n))
  each-any low entries ascend found holds each = by_test (is_above low place) refl
    where
      below : (bound : Option (List ℕ)) → AscendFrom bound entries → is_above bound place ≡ false
          → EachMayLeave part now bound entries (Room kept)
          → EachMayLeave part now bound entries (Room (with_length kept place n))
      below None rises out all = absurd (true≢false out)
      below (Some bound) rises out all = each-out bound entries rises out all

      by_test : (b : Bool) → is_above low place ≡ b
          → EachMayLeave part now low entries (Room (with_length kept place n))
      by_test true above = each-kept low entries ascend
          (λ at leads. found at (leads-above low entries place above ∙ leads)) holds each
      by_test false out = below low ascend out each

-- ---- places

-- what is true of each that is kept and of one more is true of all
places-with : (P : List ℕ × ℕ → Type 0) (kept : Lengths) (place : List ℕ) (n : ℕ)
    → P (place, n) → AllByRecursion P kept → AllByRecursion P (with_length kept place n)
places-with P [] place n one all = (one, tt)
places-with P (entry ∷ kept) place n one all =
    by_order (place_cmp place entry.0) refl (places-with P kept place n one all.1)
  where
    longer : (more : Bool) → nat_le n entry.1 ≡ more → place ≡ entry.0
        → P (entry.0, max n entry.1)
    longer true is same =
        subst (λ (m : ℕ). P (entry.0, m)) (omega (arith, leb-true n entry.1 is)) all.0
    longer false is same = subst (λ (m : ℕ). P (entry.0, m))
        (omega (arith, leb-false n entry.1 is)) (subst (λ (at : List ℕ). P (at, n)) same one)

    by_order : (order : Ordering) → place_cmp place entry.0 ≡ order
        → AllByRecursion P (with_length kept place n)
        → AllByRecursion P (lengthen_by order place n entry kept (with_length kept place n))
    by_order Less is further = (one, all)
    by_order Equal is further =
        (longer (nat_le n entry.1) refl (same_place place entry.0 is), all.1)
    by_order Greater is further = (all.0, further)

places-kept : (P : List ℕ × ℕ → Type 0) (kept : Lengths) (place : List ℕ) (n : ℕ)
    → P (place, n) → All P kept → All P (with_length kept place n)
places-kept P kept place n one all = All-from_recursion P (with_length kept place n)
    (places-with P kept place n one (recursion_from_All P kept all))

-- ---- the law

-- a record of which this length may be kept
kept-item : (relative : Bool) (n : ℕ) (bytes : List ℕ)
    → IsKeptLength relative (length bytes) n → IsKeptItem relative n (Some (Standing bytes))
kept-item true n bytes is = λ none. some-none (Standing bytes) none
kept-item false n bytes is = ap (λ (m : ℕ). Some m) (sym is)

-- a record of at least this length
abbrev pub IsLonger : ℕ → Option Item → Type 0
IsLonger n item = (bytes : List ℕ) × (item ≡ Some (Standing bytes)) × (n ≤ length bytes)

-- It may be kept in an area where each head that leads to an interval of the place finds it there,
pub keep-here : (part : Keyed) (kept : Lengths) (place : List ℕ) (n : ℕ) (now : Seen)
    → length place ≡ part.key → IsKeyedSound part now → KeepsRoom part kept now
    → ((top : Block) → now.may part.head top → (at : Range × Entry)
    → entry_in top place ≡ Some at → (item : Option Item)
    → MayFind now.may item (way_under part place top) → IsLonger n item)
    → KeepsRoom part (with_length kept place n) now
keep-here part kept place n now long sound room stands = record {
  places = places-kept (λ (entry : List ℕ × ℕ). length entry.0 ≡ part.key) kept place n long
      room.places;
  each = λ top may. each-any part kept place n now (low_of top) (entries_of top)
      (head-ascends part top (sound.heads top may))
      (λ at leads block block-may. stands top may at leads (item_at (records_of part block) place)
      (subst (λ (found : Option (Range × Entry)). MayFind now.may
      (item_at (records_of part block) place) (way_in part place found)) (sym leads)
      (block, block-may, refl)))
      (sound.intervals top may) (room.each top may);
}

-- and in a chain where each way that comes to the place does.
keep-links : (part : KeyedChain) (Own : ℕ → Type 0) (kept : Lengths) (place : List ℕ) (n : ℕ)
    (now : Seen) → length place ≡ part.key → (k area : ℕ) (low : Option (List ℕ))
    → Links part Own now k area low
    → EachAfter part (λ at. KeepsRoom (area_of part at) kept now) now.may k area
    → (is_above low place ≡ true → (item : Option Item)
    → MayFind now.may item (areas_way part place k area) → IsLonger n item)
    → EachAfter part (λ at. KeepsRoom (area_of part at) (with_length kept place n) now) now.may k
    area
keep-links part Own kept place n now long zero area low chain room stands = tt
keep-links part Own kept place n now long (suc k) area low chain room stands = (
  keep-here one kept place n now long chain.1.sound room.0
      (λ top may at leads item finds.
      let between = found-between one top (chain.1.sound.heads top may) place at leads in
      stands (subst (λ (bound : Option (List ℕ)). is_above bound place ≡ true)
      (chain.1.begins top may) between.0) item
      (top, may, by_reach top item true between.1 finds)),
  λ top may. by_next top may (record_in top).next refl (chain.1.next top may) (room.1 top may)
      (λ further bound goes all past. keep-links part Own kept place n now long k further bound goes
      all past),
)
  where
    one : Keyed
    one = area_of part area

    after : Option ℕ → Way
    after next = after_next (Found None) (areas_way part place k) next

    by_reach : (top : Block) (item : Option Item) (test : Bool) → reaches top place ≡ test
        → MayFind now.may item (cond test (way_under one place top) (after (record_in top).next))
        → MayFind now.may item (way_past part place area (areas_way part place k) top)
    by_reach top item test is finds = subst (λ (b : Bool). MayFind now.may item
        (cond b (way_under one place top) (after (record_in top).next))) (sym is) finds

    Room : ℕ → Type 0
    Room = EachAfter part (λ at. KeepsRoom (area_of part at) kept now) now.may k

    Longer : ℕ → Type 0
    Longer = EachAfter part (λ at. KeepsRoom (area_of part at) (with_length kept place n) now)
        now.may k

    by_next : (top : Block) → now.may (head_of part area) top → (next : Option ℕ)
        → (record_in top).next ≡ next → IsFollowed part (Links part Own now k) top next
        → IfSome next Room
        → ((further : ℕ) (bound : Option (List ℕ)) → Links part Own now k further bound
        → Room further
        → (is_above bound place ≡ true → (item : Option Item)
        → MayFind now.may item (areas_way part place k further) → IsLonger n item)
        → Longer further)
        → IfSome next Longer
    by_next top may None is last all more = tt
    by_next top may (Some further) is goes all more = more further (end_of top) goes all
        (λ above item finds. stands
        (subst (λ (bound : Option (List ℕ)). is_above bound place ≡ true)
        (chain.1.begins top may)
        (past-low one top (chain.1.sound.heads top may) place above)) item (
          top,
          may,
          by_reach top item false (above-past (end_of top) place above)
              (subst (λ (next : Option ℕ). MayFind now.may item (after next)) (sym is) finds),
        ))

-- The record that a crash leaves at a place may be kept, where it is the only one.
pub keep-room : (shape : Shape) (owners : Owners) (kept : Lengths) (place : List ℕ) (n : ℕ)
    (now : Seen)
    → IsPlaceOf shape place → IsSound shape owners now → HasKeptRoom shape kept now
    → ((item : Option Item) → MayHold shape now.may place item
    → (bytes : List ℕ) × (item ≡ Some (Standing bytes)) × MayGoBack shape (length bytes) n)
    → HasKeptRoom shape (with_length kept place n) now
keep-room (KeyedShape part) owners kept place n now long sound room stands =
    let count = area_count part.geometry in
    keep-links part (IsOwnedArea part owners) kept place n now long count part.first None
    sound.chain
    room (λ above. stands)
keep-room (NumberedShape part) owners kept place n now numbered sound room stands =
    places-kept (HasKeptPlace part now.may) kept place n
    (finds-place part (IsOwnArea part owners) (IsFilled part) now.may place n numbered sound.chain
    (λ item holds.
    let there = stands item holds in
    subst (IsKeptItem part.relative n) (sym there.1)
    (kept-item part.relative n there.0 there.2))) room
