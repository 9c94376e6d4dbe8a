-- The content of an entry-sequenced part is what its used intervals have, one after another.
use Rattle.std.proofs.Common.{◌≡◌, ◌+◌, ◌-◌, ◌*◌, ◌/◌, ◌^◌, ◌<◌, ◌≤◌, ℕ, zero, suc, Bool, true}
use Rattle.std.proofs.Common.{false, cond, List, [], ◌∷◌, ◌++◌, length, Some, None, refl, sym, ap}
use Rattle.std.proofs.Common.{subst, ◌∙◌, arith, ⊎_elim}
use Rattle.std.specs.Prelude.{◌%◌, Option, slice_index}
use Rattle.std.specs.List.{AllByRecursion}
use Rattle.std.proofs.Math.Nat.{div-eq-sub-div, div-eq_of_lt, mod-eq-sub-mod, mod-eq_of_lt}
use Rattle.std.proofs.Math.Nat.{mul-le-mul_right}
use Rattle.std.proofs.lemmas.Bool.{cases_lt}
use Rattle.std.proofs.lemmas.List.{append_assoc, append-nil}
use Rattle.vr_types.specs.Content.{Content, Item, Placed}
use Rattle.vr_types.specs.Content.Item.{Standing, Withdrawn}
use Rattle.vr_types.specs.Fields.{four}
use Rattle.vr_types.specs.Geometry.{area_count}
use Rattle.vr_types.specs.Image.{Block, Image, block_at}
use Rattle.vr_ci.specs.Interval as ci
use Rattle.vr_seqset.specs.Roster.{Roster}
use Rattle.vr_space.specs.Entries.{IsEntries, IsEntry, Tail, bytes_in, entries_from, entry_of}
use Rattle.vr_space.specs.Entries.{item_length}
use Rattle.vr_space.specs.Keyed.{items_of}
use Rattle.vr_space.specs.Numbered.{AreEmptyFrom, IsFilled, IsFilledBy, IsTail, NumberedStandsFor}
use Rattle.vr_space.specs.Numbered.{chain_block, items_at, items_by, items_from, items_over}
use Rattle.vr_space.specs.Numbered.{number_of, span_by, span_of, start_by, start_of}
use Rattle.vr_space.specs.Rosters.{Chains, IsChainedBy, IsNextOf, IsOf, Numbered, after_next}
use Rattle.vr_space.specs.Rosters.{areas_from, interval_in, roster_at, roster_block, used_from}
use Rattle.vr_space.specs.Rosters.{used_of}
use Rattle.vr_space.proofs.CallerLemmas.{chained-here, number-four, numbers-below, span_up}
use Rattle.vr_history.specs.Address.{length_of}

-- ---- lengths

-- The two words for the length of an item are one.
pub lengths-agree : (item : Item) → item_length item ≡ length_of item
lengths-agree (Standing bytes) = refl
lengths-agree (Withdrawn n) = refl

-- what stands there is as long as the item
pub entry-long : (item : ci.Item) → length_of (entry_of item) ≡ length item.bytes
entry-long item = by_live item.live
  where
    by_live : (live : Bool)
        → length_of (cond live (Standing item.bytes) (Withdrawn (length item.bytes)))
        ≡ length item.bytes
    by_live true = refl
    by_live false = refl

-- ---- the items of one interval

-- an item has a byte or more, and no more than the longest record
pub record IsKept (most : ℕ) (item : ci.Item) : Type 0 where
  pub some : 0 < length item.bytes
  pub within : length item.bytes ≤ most

-- so have all of them
abbrev pub AreKept : ℕ → List ci.Item → Type 0
AreKept most items = AllByRecursion (IsKept most) items

-- An item of a content lies at the place of a number from one on and below another, and is no
-- longer than the longest record.
pub record IsLying (most from to : ℕ) (placed : Placed) : Type 0 where
  pub place : placed.0 ≡ four (number_of placed.0)
  pub least : from ≤ number_of placed.0
  pub below : number_of placed.0 < to
  pub some : 0 < item_length placed.1
  pub within : item_length placed.1 ≤ most

abbrev pub AllLie : ℕ → ℕ → ℕ → Content → Type 0
AllLie most from to content = AllByRecursion (IsLying most from to) content

-- their bounds may be wider
pub lie-wider : (most from to less more : ℕ) (content : Content) → less ≤ from → to ≤ more
    → AllLie most from to content → AllLie most less more content
lie-wider most from to less more [] lower higher all = tt
lie-wider most from to less more (placed ∷ content) lower higher all = (
  record {
    place = all.0.place;
    least = omega (arith, lower, all.0.least);
    below = omega (arith, higher, all.0.below);
    some = all.0.some;
    within = all.0.within;
  },
  lie-wider most from to less more content lower higher all.1,
)

-- what each of two contents has, both together have
pub all-append : (P : Placed → Type 0) (xs ys : Content) → AllByRecursion P xs
    → AllByRecursion P ys → AllByRecursion P (xs ++ ys)
all-append P [] ys left right = right
all-append P (placed ∷ xs) ys left right = (left.0, all-append P xs ys left.1 right)

-- those of an interval lie in it, one after another
pub entries-lie : (most from to number : ℕ) (items : List ci.Item) → AreKept most items
    → from ≤ number → number + bytes_in items ≤ to → to ≤ 2 ^ 32
    → AllLie most from to (entries_from number items)
entries-lie most from to number [] kept least ends fits = tt
entries-lie most from to number (item ∷ items) kept least ends fits =
    let back : number_of (four number) ≡ number =
    number-four number (omega (arith, ends, fits, kept.0.some)) in
    let long = lengths-agree (entry_of item) ∙ entry-long item in (
      record {
        place = ap four (sym back);
        least = omega (arith, least, back);
        below = omega (arith, ends, back, kept.0.some);
        some = omega (arith, long, kept.0.some);
        within = omega (arith, long, kept.0.within);
      },
      entries-lie most from to (number + length item.bytes) items kept.1 (omega (arith, least))
          (omega (arith, ends)) fits,
    )

-- ---- several intervals

-- the items that these intervals have, one after another, the first of which has this number
abbrev pub entries_over : ℕ → ℕ → (ℕ → List ci.Item) → ℕ → Content
entries_over size number items zero = []
entries_over size number items (suc count) =
    entries_from number (items 0)
    ++ entries_over size (number + size) (λ interval. items (suc interval)) count

-- those that have the same items
over-same : (size number other count : ℕ) (one these : ℕ → List ci.Item) → number ≡ other
    → ((i : ℕ) → i < count → one i ≡ these i)
    → entries_over size number one count ≡ entries_over size other these count
over-same size number other zero one these equal same = refl
over-same size number other (suc count) one these equal same =
    let first : entries_from number (one 0) ≡ entries_from other (these 0) =
    ap (λ (n : ℕ). entries_from n (one 0)) equal
    ∙ ap (entries_from other) (same 0 (omega arith)) in
    let rest = over-same size (number + size) (other + size) count (λ i. one (suc i))
    (λ i. these (suc i)) (omega (arith, equal)) (λ i below. same (suc i) (omega (arith, below))) in
    cc

-- some of them, and then the others
over-append : (size number left right count : ℕ) (all one other : ℕ → List ci.Item)
    → count ≡ left + right → ((i : ℕ) → i < left → all i ≡ one i)
    → ((i : ℕ) → i < right → all (left + i) ≡ other i)
    → entries_over size number all count
    ≡ entries_over size number one left ++ entries_over size (number + left * size) other right
over-append size number zero right count all one other whole first later =
    ap (entries_over size number all) (omega (arith, whole))
    ∙ over-same size number (number + 0 * size) right all other (omega arith)
    (λ i below. let same : i ≡ 0 + i = omega arith in ap all same ∙ later i below)
over-append size number (suc left) right zero all one other whole first later =
    absurd (omega (arith, whole))
over-append size number (suc left) right (suc count) all one other whole first later =
    let start : entries_from number (all 0) ≡ entries_from number (one 0) =
    ap (entries_from number) (first 0 (omega arith)) in
    let rest = over-append size (number + size) left right count (λ i. all (suc i))
    (λ i. one (suc i)) other (omega (arith, whole))
    (λ i below. first (suc i) (omega (arith, below)))
    (λ i below. let same : suc (left + i) ≡ suc left + i = omega arith in
    ap all same ∙ later i below) in
    let place : number + size + left * size ≡ number + suc left * size = omega arith in
    ap (λ (xs : Content). xs ++ entries_over size (number + size) (λ i. all (suc i)) count) start
    ∙ ap (λ (xs : Content). entries_from number (one 0) ++ xs) rest
    ∙ sym (append_assoc (entries_from number (one 0))
    (entries_over size (number + size) (λ i. one (suc i)) left)
    (entries_over size (number + size + left * size) other right))
    ∙ ap (λ (n : ℕ). entries_over size number one (suc left) ++ entries_over size n other right)
    place

-- empty ones have none
over-empty : (size number count : ℕ) (items : ℕ → List ci.Item)
    → ((i : ℕ) → i < count → items i ≡ [])
    → entries_over size number items count ≡ []
over-empty size number zero items empty = refl
over-empty size number (suc count) items empty =
    ap (λ (xs : List ci.Item). entries_from number xs
    ++ entries_over size (number + size) (λ i. items (suc i)) count) (empty 0 (omega arith))
    ∙ over-empty size (number + size) count (λ i. items (suc i))
    (λ i below. empty (suc i) (omega (arith, below)))

-- what an interval of the part has: items of its lengths, and room for them
pub record AreRecords (part : Numbered) (items : List ci.Item) : Type 0 where
  pub kept : AreKept part.most items
  pub room : ci.room items ≤ part.geometry.size - 4

bytes-room : (items : List ci.Item) → bytes_in items ≤ ci.room items
bytes-room [] = omega arith
bytes-room (item ∷ items) = omega (arith, bytes-room items)

-- their items lie in them
over-lie : (part : Numbered) (number count : ℕ) (items : ℕ → List ci.Item)
    → ((i : ℕ) → i < count → AreRecords part (items i))
    → number + count * part.geometry.size ≤ 2 ^ 32
    → AllLie part.most number (number + count * part.geometry.size)
    (entries_over part.geometry.size number items count)
over-lie part number zero items records fits = tt
over-lie part number (suc count) items records fits =
    let size = part.geometry.size in
    let end = number + suc count * size in
    let first = records 0 (omega arith) in
    let later : ℕ → List ci.Item = λ i. items (suc i) in
    all-append (IsLying part.most number end) (entries_from number (items 0))
    (entries_over size (number + size) later count)
    (entries-lie part.most number end number (items 0) first.kept (omega arith)
    (omega (arith, bytes-room (items 0), first.room)) fits)
    (lie-wider part.most (number + size) (number + size + count * size) number end
    (entries_over size (number + size) later count) (omega arith) (omega arith)
    (over-lie part (number + size) count later
    (λ i below. records (suc i) (omega (arith, below))) (omega (arith, fits))))

-- ---- the intervals of a chain

all-kept : (part : Numbered) (items : List ci.Item) → AllByRecursion ci.IsItem items
    → AllByRecursion (IsEntry part) items → AreKept part.most items
all-kept part [] are each = tt
all-kept part (item ∷ items) are each =
    (record { some = are.0.some; within = each.0 }, all-kept part items are.1 each.1)

-- an interval of an entry-sequenced part
interval-records : (part : Numbered) (block : Block) → part.relative ≡ false → IsFilled part block
    → AreRecords part (items_of block)
interval-records part block entries filled =
    let is : IsEntries part block =
    subst (λ (relative : Bool). IsFilledBy relative part block) entries filled in
    record {
      kept = all-kept part (items_of block) is.spelled.fits.items is.each;
      room = subst (λ (size : ℕ). ci.room (items_of block) ≤ size - 4) is.size
          is.spelled.fits.block;
    }

-- the first intervals are those of the first area,
block-first : (part : Numbered) (area i : ℕ) (rest : List ℕ) → i < part.geometry.area
    → chain_block part (area ∷ rest) i ≡ interval_in part area i
block-first part area i rest below =
    ap (λ (n : ℕ). interval_in part (slice_index (area ∷ rest) n) (i % part.geometry.area))
    (div-eq_of_lt below)
    ∙ ap (interval_in part area) (mod-eq_of_lt below)

-- and the others those of the areas after it
block-later : (part : Numbered) (area i : ℕ) (rest : List ℕ) → 0 < part.geometry.area
    → chain_block part (area ∷ rest) (part.geometry.area + i) ≡ chain_block part rest i
block-later part area i rest some =
    let whole = part.geometry.area in
    let least : whole ≤ whole + i = omega arith in
    let back : whole + i - whole ≡ i = omega arith in
    let over : (whole + i) / whole ≡ suc (i / whole) =
    div-eq-sub-div some least ∙ omega (arith, ap (λ (n : ℕ). n / whole) back) in
    let left : (whole + i) % whole ≡ i % whole =
    mod-eq-sub-mod least ∙ ap (λ (n : ℕ). n % whole) back in
    ap (λ (n : ℕ). interval_in part (slice_index (area ∷ rest) n) ((whole + i) % whole)) over
    ∙ ap (interval_in part (slice_index rest (i / whole))) left

module _ (part : Numbered) (Own : ℕ → Type 0) (image : Image) (entries : part.relative ≡ false)
    (some : 0 < part.geometry.area) where
  -- the items of the interval of that number, counted from the area on
  abbrev items_in : ℕ → ℕ → ℕ → List ci.Item
  items_in k area i = items_of (block_at image (chain_block part (areas_from part image k area) i))

  -- those of the intervals of an area
  abbrev items_here : ℕ → ℕ → List ci.Item
  items_here n i = items_of (block_at image (n + i))

  span-is : span_of part ≡ part.geometry.size
  span-is = ap (λ (relative : Bool). span_by relative part) entries

  items-over : (number n count : ℕ)
      → items_over part image number n count
      ≡ entries_over part.geometry.size number (items_here n) count
  items-over number n zero = refl
  items-over number n (suc count) =
      let size = part.geometry.size in
      let same : n ≡ n + 0 = omega arith in
      let first : items_by part.relative number (items_of (block_at image n))
      ≡ entries_from number (items_here n 0) =
      ap (λ (relative : Bool). items_by relative number (items_of (block_at image n))) entries
      ∙ ap (λ (m : ℕ). entries_from number (items_of (block_at image m))) same in
      let rest : items_over part image (number + span_of part) (suc n) count
      ≡ entries_over size (number + size) (λ i. items_here n (suc i)) count =
      items-over (number + span_of part) (suc n) count
      ∙ over-same size (number + span_of part) (number + size) count (items_here (suc n))
      (λ i. items_here n (suc i)) (omega (arith, span-is))
      (λ i below. let next : suc n + i ≡ n + suc i = omega arith in
      ap (λ (m : ℕ). items_of (block_at image m)) next) in
      ap (λ (xs : Content). xs ++ items_over part image (number + span_of part) (suc n) count) first
      ∙ ap (λ (xs : Content). entries_from number (items_here n 0) ++ xs) rest

  -- what a chain has is what its intervals have
  chain-over : (k number area : ℕ) → Chains part Own (IsFilled part) (IsOf image) k area
      → items_from part image k number area
      ≡ entries_over part.geometry.size number (items_in k area) (used_from part image k area)
  chain-over zero number area chain = absurd chain
  chain-over (suc k) number area chain =
      ap (λ (xs : Content). xs ++ after_next [] (items_from part image k past) top.next)
      (items-over number (interval_in part area 0) top.used)
      ∙ by_next top.next here.next (λ from after. chain-over k from after)
    where
      here : IsChainedBy part (IsFilled part) (IsOf image) area
          (Chains part Own (IsFilled part) (IsOf image) k)
          (block_at image (roster_block part area))
      here = chained-here part Own (IsFilled part) image k area chain

      top : Roster
      top = roster_at part image area

      past : ℕ
      past = number + top.used * span_of part

      size : ℕ
      size = part.geometry.size

      first : ℕ → List ci.Item
      first = items_here (interval_in part area 0)

      items_of_areas : List ℕ → ℕ → List ci.Item
      items_of_areas areas i = items_of (block_at image (chain_block part areas i))

      first-same : (rest : List ℕ) (i : ℕ) → i < top.used
          → items_of_areas (area ∷ rest) i ≡ first i
      first-same rest i below =
          let same : interval_in part area i ≡ interval_in part area 0 + i = omega arith in
          ap (λ (m : ℕ). items_of (block_at image m))
          (block-first part area i rest (omega (arith, below, here.roster.spelled.rules.used))
          ∙ same)

      by_next : (next : Option ℕ)
          → IsNextOf top.used part.geometry.area
          (Chains part Own (IsFilled part) (IsOf image) k) next
          → ((from after : ℕ) → Chains part Own (IsFilled part) (IsOf image) k after
          → items_from part image k from after
          ≡ entries_over size from (items_in k after) (used_from part image k after))
          → entries_over size number first top.used
          ++ after_next [] (items_from part image k past) next
          ≡ entries_over size number
          (items_of_areas (area ∷ after_next [] (areas_from part image k) next))
          (top.used + after_next 0 (used_from part image k) next)
      by_next None rule more =
          sym (over-append size number top.used 0 (top.used + 0) (items_of_areas (area ∷ []))
          first first refl (first-same []) (λ i below. absurd (omega (arith, below))))
      by_next (Some after) (all, rule) more =
          let used = used_from part image k after in
          let rest = areas_from part image k after in
          let from : past ≡ number + top.used * size =
          ap (λ (span : ℕ). number + top.used * span) span-is in
          ap (λ (xs : Content). entries_over size number first top.used ++ xs)
          (more past after rule
          ∙ ap (λ (n : ℕ). entries_over size n (items_in k after) used) from)
          ∙ sym (over-append size number top.used used (top.used + used)
          (items_of_areas (area ∷ rest)) first (items_in k after) refl (first-same rest)
          (λ i below. ap (λ (n : ℕ). items_of_areas (area ∷ rest) (n + i)) all
          ∙ ap (λ (n : ℕ). items_of (block_at image n)) (block-later part area i rest some)))

  -- each of its intervals is one of the part
  chain-records : (k area i : ℕ) → Chains part Own (IsFilled part) (IsOf image) k area
      → i < used_from part image k area → AreRecords part (items_in k area i)
  chain-records zero area i chain below = absurd chain
  chain-records (suc k) area i chain below =
      by_next top.next here.next below (λ after later. chain-records k after later)
    where
      here : IsChainedBy part (IsFilled part) (IsOf image) area
          (Chains part Own (IsFilled part) (IsOf image) k)
          (block_at image (roster_block part area))
      here = chained-here part Own (IsFilled part) image k area chain

      top : Roster
      top = roster_at part image area

      whole : ℕ
      whole = part.geometry.area

      first : (rest : List ℕ) → i < top.used
          → AreRecords part (items_of (block_at image (chain_block part (area ∷ rest) i)))
      first rest less =
          let block : Block = block_at image (interval_in part area i) in
          subst (λ (n : ℕ). AreRecords part (items_of (block_at image n)))
          (sym (block-first part area i rest (omega (arith, less, here.roster.spelled.rules.used))))
          (interval-records part block entries (here.intervals i less block refl))

      by_next : (next : Option ℕ)
          → IsNextOf top.used whole (Chains part Own (IsFilled part) (IsOf image) k) next
          → i < top.used + after_next 0 (used_from part image k) next
          → ((after later : ℕ) → Chains part Own (IsFilled part) (IsOf image) k after
          → later < used_from part image k after → AreRecords part (items_in k after later))
          → AreRecords part (items_of (block_at image (chain_block part
          (area ∷ after_next [] (areas_from part image k) next) i)))
      by_next None rule within more = first [] (omega (arith, within))
      by_next (Some after) (all, rule) within more = ⊎_elim
          (λ less. first (areas_from part image k after) less)
          (λ past.
          let back : whole + (i - whole) ≡ i = omega (arith, all, past) in
          subst (λ (n : ℕ). AreRecords part (items_of (block_at image n)))
          (sym (ap (chain_block part (area ∷ areas_from part image k after)) (sym back)
          ∙ block-later part area (i - whole) (areas_from part image k after) some))
          (more after (i - whole) rule (omega (arith, within, all, past))))
          (cases_lt i top.used)

  -- and they have no more numbers than the part
  chain-numbers : (k area : ℕ) → Chains part Own (IsFilled part) (IsOf image) k area
      → used_from part image k area * span_of part ≤ span_up part k
  chain-numbers zero area chain = absurd chain
  chain-numbers (suc k) area chain =
      by_next top.next here.next (λ after. chain-numbers k after)
    where
      here : IsChainedBy part (IsFilled part) (IsOf image) area
          (Chains part Own (IsFilled part) (IsOf image) k)
          (block_at image (roster_block part area))
      here = chained-here part Own (IsFilled part) image k area chain

      top : Roster
      top = roster_at part image area

      span : ℕ
      span = span_of part

      most : top.used * span ≤ part.geometry.area * span
      most = mul-le-mul_right span here.roster.spelled.rules.used

      by_next : (next : Option ℕ)
          → IsNextOf top.used part.geometry.area
          (Chains part Own (IsFilled part) (IsOf image) k) next
          → ((after : ℕ) → Chains part Own (IsFilled part) (IsOf image) k after
          → used_from part image k after * span ≤ span_up part k)
          → (top.used + after_next 0 (used_from part image k) next) * span
          ≤ part.geometry.area * span + span_up part k
      by_next None rule more = omega (arith, most)
      by_next (Some after) (all, rule) more = omega (arith, most, more after rule)

-- ---- the content of a part

-- The content is what the used intervals have, each from its own number on; those are intervals of
-- records, and their numbers have room in four bytes. A record of the part isn't spanned.
pub record HasIntervals (part : Numbered) (image : Image) (content : Content) : Type 0 where
  pub all : content ≡ entries_over part.geometry.size 0 (items_at part image) (used_of part image)
  pub records : (i : ℕ) → i < used_of part image → AreRecords part (items_at part image i)
  pub fits : used_of part image * part.geometry.size < 2 ^ 32
  pub plain : part.most + 7 ≤ part.geometry.size

-- so it is of an entry-sequenced part
pub has-intervals : (part : Numbered) (image : Image) (content : Content) → part.relative ≡ false
    → NumberedStandsFor part image content → HasIntervals part image content
has-intervals part image content entries stands =
    let count = area_count part.geometry in
    let some : 0 < part.geometry.area =
    omega (arith, stands.part_is.allowed.some_intervals) in
    let start : start_of part ≡ 0 = ap start_by entries in
    let numbers : used_of part image * span_of part ≤ span_up part count =
    chain-numbers part (λ area. area < count) image entries some count part.first stands.chain in
    let span : used_of part image * span_of part ≡ used_of part image * part.geometry.size =
    ap (λ (n : ℕ). used_of part image * n)
    (span-is part (λ area. area < count) image entries some) in
    record {
      all = stands.records
          ∙ chain-over part (λ area. area < count) image entries some count (start_of part)
          part.first stands.chain
          ∙ ap (λ (n : ℕ). entries_over part.geometry.size n (items_at part image)
          (used_of part image)) start;
      records = λ i below.
          chain-records part (λ area. area < count) image entries some count part.first i
          stands.chain below;
      fits = omega (arith, numbers-below part stands.part_is, numbers, span);
      plain = stands.part_is.fits;
    }

-- each item lies in these
pub intervals-lie : (part : Numbered) (image : Image) (content : Content)
    → HasIntervals part image content
    → AllLie part.most 0 (used_of part image * part.geometry.size) content
intervals-lie part image content has =
    let used = used_of part image in
    let size = part.geometry.size in
    subst (AllLie part.most 0 (used * size)) (sym has.all)
    (lie-wider part.most 0 (0 + used * size) 0 (used * size)
    (entries_over size 0 (items_at part image) used) (omega arith) (omega arith)
    (over-lie part 0 used (items_at part image) has.records (omega (arith, has.fits))))

-- ---- up to the last item

-- the bytes of an interval's items end in it
pub records-end : (part : Numbered) (items : List ci.Item) → part.most + 7 ≤ part.geometry.size
    → AreRecords part items → bytes_in items < part.geometry.size
records-end part items plain records = omega (arith, plain, bytes-room items, records.room)

-- The content ends with these items, which its last interval with an item has.
pub record EndsWith (part : Numbered) (content : Content) (tail : Tail) (items : List ci.Item)
    : Type 0 where
  pub before : Content
  pub is : content ≡ before ++ entries_from (tail.interval * part.geometry.size) items
  pub lie : AllLie part.most 0 (tail.interval * part.geometry.size) before
  pub records : AreRecords part items

pub ends-with : (part : Numbered) (image : Image) (content : Content) (tail : Tail)
    → HasIntervals part image content → IsTail part image tail
    → EndsWith part content tail (items_at part image tail.interval)
ends-with part image content tail has is =
    let size = part.geometry.size in
    let used = used_of part image in
    let t = tail.interval in
    let rest = used - suc t in
    let items : ℕ → List ci.Item = items_at part image in
    let later : ℕ → List ci.Item = λ i. items (t + i) in
    let earlier = entries_over size 0 items t in
    let less : t * size ≤ used * size = mul-le-mul_right size (omega (arith, is.used)) in
    let parts : entries_over size 0 items used
    ≡ earlier ++ entries_over size (0 + t * size) later (suc rest) =
    over-append size 0 t (suc rest) used items items later (omega (arith, is.used))
    (λ i below. refl) (λ i below. refl) in
    let none : entries_over size (0 + t * size + size) (λ i. later (suc i)) rest ≡ [] =
    over-empty size (0 + t * size + size) rest (λ i. later (suc i))
    (λ i below. is.after (t + suc i) (omega arith) (omega (arith, below))) in
    let first : t + 0 ≡ t = omega arith in
    let number : 0 + t * size ≡ t * size = omega arith in
    record {
      before = earlier;
      is = has.all ∙ parts
          ∙ ap (λ (xs : Content). earlier ++ (entries_from (0 + t * size) (later 0) ++ xs)) none
          ∙ ap (λ (xs : Content). earlier ++ xs)
          (append-nil (entries_from (0 + t * size) (later 0)))
          ∙ ap (λ (i : ℕ). earlier ++ entries_from (0 + t * size) (items i)) first
          ∙ ap (λ (n : ℕ). earlier ++ entries_from n (items t)) number;
      lie = lie-wider part.most 0 (0 + t * size) 0 (t * size) earlier (omega arith) (omega arith)
          (over-lie part 0 t items (λ i below. has.records i (omega (arith, below, is.used)))
          (omega (arith, less, has.fits)));
      records = has.records t is.used;
    }

-- where no interval has an item, there is none
pub none-before : (part : Numbered) (image : Image) (content : Content)
    → HasIntervals part image content → AreEmptyFrom part image 0 → content ≡ []
none-before part image content has empty =
    has.all
    ∙ over-empty part.geometry.size 0 (used_of part image) (items_at part image)
    (λ i below. empty i (omega arith) below)

-- the last interval with an item ends where the used ones do, or before
pub tail-fits : (part : Numbered) (image : Image) (content : Content) (tail : Tail)
    → HasIntervals part image content → IsTail part image tail
    → (tail.interval + 1) * part.geometry.size ≤ used_of part image * part.geometry.size
tail-fits part image content tail has is =
    mul-le-mul_right part.geometry.size (omega (arith, is.used))
