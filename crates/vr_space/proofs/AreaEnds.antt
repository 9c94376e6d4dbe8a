-- Where the ranges of a head end: which places they reach, and which are past them.
use Rattle.std.proofs.Common.{◌≡◌, ◌<◌, ℕ, Bool, true, false, List, [], ◌∷◌, ◌++◌, length, Option}
use Rattle.std.proofs.Common.{Some, None, refl, sym, ap, subst, ◌∙◌, arith, true≢false}
use Rattle.std.specs.Prelude.{cond}
use Rattle.std.specs.Ordering.{is_le, is_lt}
use Rattle.vr_types.specs.Content.{Content, place_cmp}
use Rattle.vr_types.specs.Image.{Block, Image, block_at}
use Rattle.vr_seqset.specs.Entry.{Entry}
use Rattle.vr_space.specs.Room.{Range, is_above}
use Rattle.vr_space.specs.Keyed.{IsHead, Keyed, content_from, entries_of, entry_block, entry_for}
use Rattle.vr_space.specs.Keyed.{entry_in, last_high, low_of, range_of, records_in, records_of}
use Rattle.vr_space.specs.Areas.{end_of, is_upto, reaches}
use Rattle.vr_space.proofs.KeyedContent.{AscendFrom, IsFoundAbove, found-above, leads-above}
use Rattle.vr_space.proofs.KeyedSound.{head-ascends}
use Rattle.vr_space.proofs.Places.{AllAbove, NoneAt, above-more, in-past, is_past, lt_from_test}
use Rattle.vr_space.proofs.Places.{none-filter, not_past}

some-same : (one other : List ℕ) → Some one ≡ Some other → one ≡ other
some-same one other same = cc

-- ---- places and an end

-- what an end doesn't reach is above it,
pub past-above : (end : Option (List ℕ)) (place : List ℕ) → is_upto end place ≡ false
    → is_above end place ≡ true
past-above None place past = refl
past-above (Some high) place past = ap is_lt (is_past place high past)

-- and what it reaches is not
pub reached-below : (end : Option (List ℕ)) (place : List ℕ) → is_upto end place ≡ true
    → is_above end place ≡ true → ⊥
reached-below None place upto above = true≢false (sym upto)
reached-below (Some high) place upto above = not_past place high upto (lt_from_test _ above)

pub above-past : (end : Option (List ℕ)) (place : List ℕ) → is_above end place ≡ true
    → is_upto end place ≡ false
above-past end place above = by_test (is_upto end place) refl
  where
    by_test : (b : Bool) → is_upto end place ≡ b → is_upto end place ≡ false
    by_test true upto = absurd (reached-below end place upto above)
    by_test false past = past

-- a place above another is no part of what goes up to that
pub above-not-upto : (high place : List ℕ) → is_above (Some high) place ≡ true
    → is_le (place_cmp place high) ≡ false
above-not-upto high place above = above-past (Some high) place above

-- ---- entries

-- what is above the end of the last range is above where the first begins
pub above-end : (low : Option (List ℕ)) (entries : List Entry) (place : List ℕ)
    → 0 < length entries → AscendFrom low entries → is_above (last_high entries) place ≡ true
    → is_above low place ≡ true
above-end low [] place some ascend above = absurd (omega (arith, some))
above-end low (entry ∷ []) place some ascend above =
    above-more low entry.high place ascend.0 above
above-end low (entry ∷ other ∷ entries) place some ascend above =
    above-more low entry.high place ascend.0
    (above-end (Some entry.high) (other ∷ entries) place (omega arith) ascend.1 above)

-- so is the end
pub end-above : (low : Option (List ℕ)) (entries : List Entry) (high : List ℕ)
    → AscendFrom low entries → last_high entries ≡ Some high → is_above low high ≡ true
end-above low [] high ascend is = absurd cc
end-above low (entry ∷ []) high ascend is =
    subst (λ (end : List ℕ). is_above low end ≡ true) (some-same entry.high high is) ascend.0
end-above low (entry ∷ other ∷ entries) high ascend is =
    above-more low entry.high high ascend.0
    (end-above (Some entry.high) (other ∷ entries) high ascend.1 is)

-- there is one
pub has-end : (entries : List Entry) → 0 < length entries → last_high entries ≡ None → ⊥
has-end [] some none = omega (arith, some)
has-end (entry ∷ []) some none = cc
has-end (entry ∷ other ∷ entries) some none = has-end (other ∷ entries) (omega arith) none

-- A place up to it is found in a walk over the entries,
pub reach-found : (low : Option (List ℕ)) (entries : List Entry) (place : List ℕ)
    → is_upto (last_high entries) place ≡ true
    → (at : Range × Entry) × (entry_for low entries place ≡ Some at)
reach-found low [] place upto = absurd (true≢false (sym upto))
reach-found low (entry ∷ []) place upto = (
  (range_of low entry, entry),
  ap (λ (b : Bool). cond b (Some (range_of low entry, entry)) None) upto,
)
reach-found low (entry ∷ other ∷ entries) place upto =
    by_test (is_le (place_cmp place entry.high))
    (reach-found (Some entry.high) (other ∷ entries) place upto)
  where
    by_test : (b : Bool)
        → (at : Range × Entry) × (entry_for (Some entry.high) (other ∷ entries) place ≡ Some at)
        → (at : Range × Entry) × (cond b (Some (range_of low entry, entry))
        (entry_for (Some entry.high) (other ∷ entries) place) ≡ Some at)
    by_test true more = ((range_of low entry, entry), refl)
    by_test false more = more

-- and a place past it isn't.
pub past-none : (low : Option (List ℕ)) (entries : List Entry) (place : List ℕ)
    → AscendFrom low entries → is_above (last_high entries) place ≡ true
    → entry_for low entries place ≡ None
past-none low [] place ascend above = refl
past-none low (entry ∷ []) place ascend above =
    ap (λ (b : Bool). cond b (Some (range_of low entry, entry)) None)
    (above-not-upto entry.high place above)
past-none low (entry ∷ other ∷ entries) place ascend above =
    ap (λ (b : Bool). cond b (Some (range_of low entry, entry))
    (entry_for (Some entry.high) (other ∷ entries) place))
    (above-not-upto entry.high place
    (above-end (Some entry.high) (other ∷ entries) place (omega arith) ascend.1 above))
    ∙ past-none (Some entry.high) (other ∷ entries) place ascend.1 above

-- ---- contents

none-both : (place : List ℕ) (xs ys : Content) → NoneAt place xs → NoneAt place ys
    → NoneAt place (xs ++ ys)
none-both place [] ys left right = right
none-both place (entry ∷ xs) ys left right = (left.0, none-both place xs ys left.1 right)

none-range : (part : Keyed) (image : Image) (low : Option (List ℕ)) (entry : Entry)
    (place : List ℕ) → is_above (Some entry.high) place ≡ true
    → NoneAt place (records_in part (range_of low entry)
    (block_at image (entry_block part entry)))
none-range part image low entry place above =
    none-filter (range_of low entry) (records_of part (block_at image (entry_block part entry)))
    place (in-past (range_of low entry) place (above-not-upto entry.high place above))

-- no record stands past the end
pub none-past : (part : Keyed) (image : Image) (low : Option (List ℕ)) (entries : List Entry)
    (place : List ℕ) → AscendFrom low entries → is_above (last_high entries) place ≡ true
    → NoneAt place (content_from part image low entries)
none-past part image low [] place ascend above = tt
none-past part image low (entry ∷ []) place ascend above =
    none-both place
    (records_in part (range_of low entry) (block_at image (entry_block part entry))) []
    (none-range part image low entry place above) tt
none-past part image low (entry ∷ other ∷ entries) place ascend above =
    none-both place
    (records_in part (range_of low entry) (block_at image (entry_block part entry)))
    (content_from part image (Some entry.high) (other ∷ entries))
    (none-range part image low entry place
    (above-end (Some entry.high) (other ∷ entries) place (omega arith) ascend.1 above))
    (none-past part image (Some entry.high) (other ∷ entries) place ascend.1 above)

-- ---- a head

module _ (part : Keyed) (top : Block) (head : IsHead part top) (place : List ℕ) where
  -- what is past its end is above its low place
  pub past-low : is_above (end_of top) place ≡ true → is_above (low_of top) place ≡ true
  past-low = above-end (low_of top) (entries_of top) place head.spelled.some
      (head-ascends part top head)

  -- A place above its low place and up to its end is in the range of one of its entries,
  pub head-found : is_above (low_of top) place ≡ true → reaches top place ≡ true
      → (at : Range × Entry) × (entry_in top place ≡ Some at)
  head-found above upto =
      let found = reach-found (low_of top) (entries_of top) place upto in
      (found.0, leads-above (low_of top) (entries_of top) place above ∙ found.1)

  -- and so is each that one has.
  pub found-between : (at : Range × Entry) → entry_in top place ≡ Some at
      → (is_above (low_of top) place ≡ true) × (reaches top place ≡ true)
  found-between at is =
      let found : IsFoundAbove (low_of top) (entries_of top) place at =
      found-above (low_of top) (entries_of top) place at is in
      (found.above, by_test (reaches top place) refl found.leads)
    where
      by_test : (b : Bool) → reaches top place ≡ b
          → entry_for (low_of top) (entries_of top) place ≡ Some at → reaches top place ≡ true
      by_test true upto leads = upto
      by_test false past leads =
          let none : entry_for (low_of top) (entries_of top) place ≡ None =
          past-none (low_of top) (entries_of top) place (head-ascends part top head)
          (past-above (end_of top) place past) in
          absurd cc

-- what is above its end is above its low place
pub all-past : (part : Keyed) (top : Block) → IsHead part top → (xs : Content)
    → AllAbove (end_of top) xs → AllAbove (low_of top) xs
all-past part top head [] above = tt
all-past part top head (entry ∷ xs) above =
    (past-low part top head entry.0 above.0, all-past part top head xs above.1)
