-- An area of a keyed part of which everything that a crash may leave is in order: each image has it
-- in order, and each place of it has something that it may hold.
use Rattle.std.proofs.Common.{◌≡◌, ◌<◌, ◌≤◌, ◌+◌, ◌-◌, ◌/◌, ℕ, Bool, true, false, List, [], ◌∷◌}
use Rattle.std.proofs.Common.{◌++◌, length, map, Option, Some, None, refl, ap, ◌∙◌}
use Rattle.std.proofs.Common.{arith, All}
use Rattle.std.specs.Prelude.{cond, IfSome, min, slice_index}
use Rattle.std.specs.List.{flat_map}
use Rattle.std.specs.List.Sorted.{IsStrictlySortedBy}
use Rattle.std.specs.Ordering.{is_le, is_lt}
use Rattle.std.proofs.lemmas.List.Elements.{All-head, All-tail}
use Rattle.std.proofs.lemmas.Map.Keys.{sorted_head, sorted_tail}
use Rattle.vr_types.specs.Content.{place_cmp}
use Rattle.vr_types.specs.Image.{Block, Image, block_at}
use Rattle.vr_types.specs.Seen.{Seen}
use Rattle.vr_types.specs.Regions.{IsImageOn}
use Rattle.vr_seqset.specs.Entry.{Entry}
use Rattle.vr_seqset.specs.Numbers.{intervals_used}
use Rattle.vr_seqset.specs.SequenceSet.{SequenceSet, bounds_of}
use Rattle.vr_seqset.specs.Reading.{record_in}
use Rattle.vr_seqset.proofs.ListLemmas.{All-left, All-right}
use Rattle.vr_space.specs.Way.{IsWithin}
use Rattle.vr_space.specs.Room.{Range, is_above}
use Rattle.vr_space.specs.Keyed.{Keyed, IsHead, HoldsRange, HoldRanges, EachMayLeave, IsKeyedSound}
use Rattle.vr_space.specs.Keyed.{entries_of, entry_above, entry_block, entry_for, entry_in, low_in}
use Rattle.vr_space.specs.Keyed.{InArea, area_way, low_of, range_of, way_in}
use Rattle.vr_space.specs.AreaCalls.{HasHere, MayHoldHere}
use Rattle.vr_space.proofs.Ends.{same-ends}
use Rattle.vr_space.proofs.KeyedContent.{AscendFrom}
use Rattle.vr_space.proofs.Ways.{found-may}

-- ---- what a head says

ascend-by : (low : List ℕ) (entries : List Entry)
    → IsStrictlySortedBy place_cmp (low ∷ map (λ (entry : Entry). entry.high) entries)
    → AscendFrom (Some low) entries
ascend-by low [] sorted = tt
ascend-by low (entry ∷ entries) sorted = (
  ap is_lt (sorted_head place_cmp low (map (λ (e : Entry). e.high) (entry ∷ entries)) sorted).0,
  ascend-by entry.high entries
      (sorted_tail place_cmp low (map (λ (e : Entry). e.high) (entry ∷ entries)) sorted),
)

ascend-start : (entries : List Entry)
    → IsStrictlySortedBy place_cmp (map (λ (entry : Entry). entry.high) entries)
    → AscendFrom None entries
ascend-start [] sorted = tt
ascend-start (entry ∷ entries) sorted = (refl, ascend-by entry.high entries sorted)

-- its high places ascend, the first above the low place
ascend-bounds : (s : SequenceSet) → IsStrictlySortedBy place_cmp (bounds_of s)
    → AscendFrom (low_in s) s.entries
ascend-bounds s = by_first s.first
  where
    by_first : (b : Bool)
        → IsStrictlySortedBy place_cmp
        (cond b [] (s.low ∷ []) ++ map (λ (entry : Entry). entry.high) s.entries)
        → AscendFrom (cond b None (Some s.low)) s.entries
    by_first true sorted = ascend-start s.entries sorted
    by_first false sorted = ascend-by s.low s.entries sorted

pub head-ascends : (part : Keyed) (top : Block) → IsHead part top
    → AscendFrom (low_of top) (entries_of top)
head-ascends part top head = ascend-bounds (record_in top) head.spelled.rules.ascends

-- the interval of each is one of the area
abbrev pub AreIn : ℕ → List Entry → Type 0
AreIn area [] = Unit {0}
AreIn area (entry ∷ entries) = (slice_index entry.intervals 0 < area) × AreIn area entries

first_of_one : (P : ℕ → Type 0) (ns : List ℕ) → length ns ≡ 1 → All P ns → P (slice_index ns 0)
first_of_one P ns one all = all 0 0 (omega (arith, one))

are-in : (limit : ℕ) (entries : List Entry)
    → All (λ (entry : Entry). length entry.intervals ≡ 1) entries
    → All (λ n. n < limit) (flat_map (λ (entry : Entry). entry.intervals) entries)
    → AreIn limit entries
are-in limit [] single below = tt
are-in limit (entry ∷ entries) single below = (
  first_of_one (λ n. n < limit) entry.intervals
      (All-head (λ (e : Entry). length e.intervals ≡ 1) entry entries single)
      (All-left (λ n. n < limit) entry.intervals (flat_map (λ (e : Entry). e.intervals) entries)
      below),
  are-in limit entries (All-tail (λ (e : Entry). length e.intervals ≡ 1) entry entries single)
      (All-right (λ n. n < limit) entry.intervals (flat_map (λ (e : Entry). e.intervals) entries)
      below),
)

in-more : (less more : ℕ) (entries : List Entry) → less ≤ more → AreIn less entries
    → AreIn more entries
in-more less more [] most all = tt
in-more less more (entry ∷ entries) most all =
    (omega (arith, most, all.0), in-more less more entries most all.1)

min-left : (m n : ℕ) → min m n ≤ m
min-left m n = omega arith

pub head-in : (part : Keyed) (top : Block) → IsHead part top → AreIn part.area (entries_of top)
head-in part top head =
    in-more (intervals_used part.area (length top) (length (record_in top).low)) part.area
    (entries_of top)
    (min-left part.area
    ((length top - 32 - length (record_in top).low) / (4 + length (record_in top).low)))
    (are-in _ (entries_of top) head.single head.spelled.rules.numbers.below)

-- the entry of a place has its interval in the area
pub entry-in : (area : ℕ) (low : Option (List ℕ)) (entries : List Entry) (place : List ℕ)
    → AreIn area entries
    → IfSome (entry_for low entries place) (λ found. slice_index found.1.intervals 0 < area)
entry-in area low [] place all = tt
entry-in area low (entry ∷ entries) place all =
    reached (is_le (place_cmp place entry.high))
    (entry-in area (Some entry.high) entries place all.1)
  where
    reached : (b : Bool)
        → IfSome (entry_for (Some entry.high) entries place)
        (λ found. slice_index found.1.intervals 0 < area)
        → IfSome (cond b (Some (range_of low entry, entry))
        (entry_for (Some entry.high) entries place))
        (λ found. slice_index found.1.intervals 0 < area)
    reached true more = all.0
    reached false more = more

pub entry-in-above : (area : ℕ) (low : Option (List ℕ)) (entries : List Entry) (place : List ℕ)
    → AreIn area entries
    → IfSome (entry_above low entries place) (λ found. slice_index found.1.intervals 0 < area)
entry-in-above area low entries place all =
    by_test (is_above low place) (entry-in area low entries place all)
  where
    by_test : (b : Bool)
        → IfSome (entry_for low entries place) (λ found. slice_index found.1.intervals 0 < area)
        → IfSome (cond b (entry_for low entries place) None)
        (λ found. slice_index found.1.intervals 0 < area)
    by_test true more = more
    by_test false more = tt

-- ---- the blocks of the area

module _ (part : Keyed) (now : Seen) where
  -- a block of the area that is there
  abbrev pub IsBlock : ℕ → Type 0
  IsBlock n = (n < now.count) × InArea part n

  way-within : (place : List ℕ) (found : Option (Range × Entry))
      → part.head + part.area < now.count
      → IfSome found (λ f. slice_index f.1.intervals 0 < part.area)
      → IsWithin IsBlock now.may (way_in part place found)
  way-within place None area is = tt
  way-within place (Some found) area is =
      ((omega (arith, area, is), (omega arith, omega (arith, is))), λ block may. tt)

  pub keyed-within : IsKeyedSound part now → (place : List ℕ)
      → IsWithin IsBlock now.may (area_way part place)
  keyed-within sound place = (
    (omega (arith, sound.area), (omega arith, omega arith)),
    λ top may. way-within place (entry_in top place) sound.area
        (entry-in-above part.area (low_of top) (entries_of top) place
        (head-in part top (sound.heads top may))),
  )

  -- what each image has of the intervals, where it is allowed there
  pub ranges-held : (image : Image) (low : Option (List ℕ)) (entries : List Entry)
      → ((n : ℕ) → IsBlock n → now.may n (block_at image n)) → part.head + part.area < now.count
      → AreIn part.area entries
      → EachMayLeave part now low entries (HoldsRange part) → HoldRanges part image low entries
  ranges-held image low [] each area all left = tt
  ranges-held image low (entry ∷ entries) each area all left = (
    left.0 (block_at image (entry_block part entry))
        (each (entry_block part entry)
        (omega (arith, area, all.0), (omega arith, omega (arith, all.0)))),
    ranges-held image (Some entry.high) entries each area all.1 left.1,
  )

  -- its head is such a block
  pub head-block : IsKeyedSound part now → IsBlock part.head
  head-block sound = (omega (arith, sound.area), (omega arith, omega arith))

  -- what an image has of the area, with the ends of its head and what each place may hold
  pub keyed-image : IsKeyedSound part now → (image : Image)
      → IsImageOn (InArea part) now.count now.may image
      → HasHere part now (MayHoldHere part now.may) image
  keyed-image sound image left =
      let each : (n : ℕ) → IsBlock n → now.may n (block_at image n) =
      λ n is. left.each n is.0 is.1 in
      let top : Block = block_at image part.head in
      let may : now.may part.head top = each part.head (head-block sound) in
      let head : IsHead part top = sound.heads top may in
      record {
        head = head;
        intervals = ranges-held image (low_of top) (entries_of top) each sound.area
            (head-in part top head) (sound.intervals top may);
        before = top;
        allowed = may;
        ends = same-ends top;
        each = λ place. found-may IsBlock now.may image each (area_way part place)
            (keyed-within sound place);
      }

-- what a call leaves that adds nothing to the area's blocks
pub each-less : (part : Keyed) (old new : Seen) (Q : Range → Block
    → Type 0) (low : Option (List ℕ)) (entries : List Entry)
    → ((n : ℕ) (block : Block) → IsBlock part old n → new.may n block → old.may n block)
    → part.head + part.area < old.count → AreIn part.area entries
    → EachMayLeave part old low entries Q → EachMayLeave part new low entries Q
each-less part old new Q low [] less area all left = tt
each-less part old new Q low (entry ∷ entries) less area all left = (
  λ block may. left.0 block
      (less (entry_block part entry) block
      (omega (arith, area, all.0), (omega arith, omega (arith, all.0))) may),
  each-less part old new Q (Some entry.high) entries less area all.1 left.1,
)

pub keyed-less : (part : Keyed) (old new : Seen) → new.count ≡ old.count → new.size ≡ old.size
    → ((n : ℕ) (block : Block) → IsBlock part old n → new.may n block → old.may n block)
    → IsKeyedSound part old → IsKeyedSound part new
keyed-less part old new count size less sound =
    let before : (top : Block) → new.may part.head top → old.may part.head top =
    λ top may. less part.head top (omega (arith, sound.area), (omega arith, omega arith)) may in
    record {
      area = omega (arith, sound.area, count);
      size = size ∙ sound.size;
      heads = λ top may. sound.heads top (before top may);
      intervals = λ top may. each-less part old new (HoldsRange part) (low_of top)
          (entries_of top) less sound.area (head-in part top (sound.heads top (before top may)))
          (sound.intervals top (before top may));
    }
