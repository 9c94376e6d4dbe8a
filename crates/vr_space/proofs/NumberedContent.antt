-- The content of an entry-sequenced or relative part: the items of its intervals, in the order of
-- their numbers.
use Rattle.std.proofs.Common.{◌≡◌, ◌⊎◌, inl, inr, ◌+◌, ◌-◌, ◌*◌, ◌^◌, ◌<◌, ◌≤◌, ℕ, zero, suc, Bool}
use Rattle.std.proofs.Common.{true, false, List, [], ◌∷◌, ◌++◌, length, Option, Some, None, refl}
use Rattle.std.proofs.Common.{sym}
use Rattle.std.proofs.Common.{ap, subst, ◌∙◌, ⊎_elim, arith}
use Rattle.std.specs.Prelude.{cond, nat_lt, nat_le, nat_eq, option_and_then, slice_get}
use Rattle.std.specs.List.{AllByRecursion}
use Rattle.std.specs.declared.cmp.Ordering.{Ordering}
use Rattle.std.specs.declared.cmp.Ordering.TheVariants.{Equal}
use Rattle.std.proofs.Math.Nat.{mul-le-mul_right}
use Rattle.std.proofs.lemmas.Bool.{eqb-false, eqb-true, leb-false, leb-true, ltb-false, ltb-true}
use Rattle.vr_types.specs.Content.{Content, Item, Placed, found_by, item_at, place_cmp}
use Rattle.vr_types.specs.Content.Item.{Standing, Withdrawn}
use Rattle.vr_types.specs.Fields.{four}
use Rattle.vr_types.specs.Image.{Block, Image, block_at}
use Rattle.vr_types.proofs.CallerLemmas.{same_place}
use Rattle.vr_ci.specs.Interval as ci
use Rattle.vr_ci_match.specs.Laid.{slots_in}
use Rattle.vr_space.specs.Entries.{IsEntries, IsEntry, bytes_in, entries_from, entry_item, entry_of}
use Rattle.vr_space.specs.Entries.{item_length}
use Rattle.vr_space.specs.Keyed.{items_of}
use Rattle.vr_space.specs.Rosters.{Chains, IsNextOf, IsOf, Numbered, after_next}
use Rattle.vr_space.specs.Rosters.{chain_way, interval_in, roster_at}
use Rattle.vr_space.specs.Slots.{IsSlots, records_from, slots_of, standing_in}
use Rattle.vr_space.specs.Numbered.{IsFilled, IsFilledBy, item_by, item_in, item_read, items_by}
use Rattle.vr_space.specs.Numbered.{items_from, items_over, number_of, span_by, span_of}
use Rattle.vr_space.specs.Way.{Found, Way, found_on}
use Rattle.vr_space.proofs.ChainWays.{chained-here}
use Rattle.vr_space.proofs.Places.{NoneAt, by_other, none-record, record-left, record-right}
use Rattle.vr_space.proofs.Places.{same_is_equal}
use Rattle.vr_space.proofs.Numbers.{number-four, span_up}

-- ---- items at numbers

-- what a part has at a place: a record of its length, or an item of one byte or more and at most
-- as long as its longest record
abbrev pub IsItemBy : Bool → ℕ → Item → Type 0
IsItemBy true most item = (bytes : List ℕ) × (item ≡ Standing bytes) × (length bytes ≡ most)
IsItemBy false most item = (0 < item_length item) × (item_length item ≤ most)

-- an entry of a content at the place of that number
pub record IsItemEntry (part : Numbered) (number : ℕ) (entry : Placed) : Type 0 where
  pub place : entry.0 ≡ four number
  pub item : IsItemBy part.relative part.most entry.1

-- items whose numbers ascend, from one on and below another
abbrev pub AreItemsOf : Numbered → ℕ → ℕ → Content → Type 0
AreItemsOf part from to [] = Unit {0}
AreItemsOf part from to (entry ∷ content) =
    (number : ℕ) × IsItemEntry part number entry × (from ≤ number) × (number < to)
    × AreItemsOf part (suc number) to content

-- their bounds may be wider
items-lower : (part : Numbered) (less from to : ℕ) (content : Content) → less ≤ from
    → AreItemsOf part from to content → AreItemsOf part less to content
items-lower part less from to [] lower all = tt
items-lower part less from to (entry ∷ content) lower (number, is, least, below, more) =
    (number, is, omega (arith, least, lower), below, more)

items-upper : (part : Numbered) (from to more : ℕ) (content : Content) → to ≤ more
    → AreItemsOf part from to content → AreItemsOf part from more content
items-upper part from to more [] up all = tt
items-upper part from to more (entry ∷ content) up (number, is, least, below, further) = (
  number,
  is,
  least,
  omega (arith, below, up),
  items-upper part (suc number) to more content up further,
)

items-append : (part : Numbered) (from middle to : ℕ) (xs ys : Content) → from ≤ middle
    → middle ≤ to → AreItemsOf part from middle xs → AreItemsOf part middle to ys
    → AreItemsOf part from to (xs ++ ys)
items-append part from middle to [] ys least up left right =
    items-lower part from middle to ys least right
items-append part from middle to (entry ∷ xs) ys least up (number, is, first, below, more) right = (
  number,
  is,
  first,
  omega (arith, below, up),
  items-append part (suc number) middle to xs ys (omega (arith, below)) up more right,
)

-- no place of another number is among them
items-none : (part : Numbered) (from to : ℕ) (content : Content) → AreItemsOf part from to content
    → to ≤ 2 ^ 32 → (n : ℕ) → n < 2 ^ 32 → (n < from) ⊎ (to ≤ n) → NoneAt (four n) content
items-none part from to [] all fits n room beyond = tt
items-none part from to (entry ∷ content) (number, is, least, below, more) fits n room beyond = (
  λ same.
      let one : four n ≡ four number = same_place (four n) entry.0 same ∙ is.place in
      let equal : n ≡ number =
      sym (number-four n room) ∙ ap number_of one
      ∙ number-four number (omega (arith, below, fits)) in
      ⊎_elim (λ (before : n < from). absurd (omega (arith, before, least, equal)))
      (λ (after : to ≤ n). absurd (omega (arith, after, below, equal))) beyond,
  items-none part (suc number) to content more fits n room
      (⊎_elim (λ (before : n < from). inl (omega (arith, before, least)))
      (λ (after : to ≤ n). inr after) beyond),
)

-- ---- those of an interval of slots

abbrev AreWhole : ℕ → List ci.Item → Type 0
AreWhole most items = AllByRecursion (λ (item : ci.Item). length item.bytes ≡ most) items

-- a record in a slot is an item of a relative part
slot-entry : (part : Numbered) → part.relative ≡ true → (number : ℕ) (bytes : List ℕ)
    → length bytes ≡ part.most → IsItemEntry part number (four number, Standing bytes)
slot-entry part slots number bytes whole = record {
  place = refl;
  item =
      subst (λ (relative : Bool). IsItemBy relative part.most (Standing bytes)) (sym slots)
      (bytes, refl, whole);
}

records-slots : (part : Numbered) → part.relative ≡ true → (number : ℕ) (items : List ci.Item)
    → AreWhole part.most items
    → AreItemsOf part number (number + length items) (records_from number items)
records-slots part slots number [] whole = tt
records-slots part slots number (item ∷ items) whole =
    by_live item.live
    (items-upper part (suc number) (suc number + length items) (number + length (item ∷ items))
    (records_from (suc number) items) (omega arith)
    (records-slots part slots (suc number) items whole.1))
  where
    rest : Content
    rest = records_from (suc number) items

    to : ℕ
    to = number + length (item ∷ items)

    by_live : (live : Bool) → AreItemsOf part (suc number) to rest
        → AreItemsOf part number to (cond live ((four number, Standing item.bytes) ∷ rest) rest)
    by_live true more =
        (number, slot-entry part slots number item.bytes whole.0, omega arith, omega arith, more)
    by_live false more = items-lower part number (suc number) to rest (omega arith) more

-- a place of another number is another place
other-place : (m n : ℕ) → m < 2 ^ 32 → n < 2 ^ 32 → (m ≡ n → ⊥)
    → place_cmp (four m) (four n) ≡ Equal → ⊥
other-place m n first second other same =
    other (sym (number-four m first) ∙ ap number_of (same_place (four m) (four n) same)
    ∙ number-four n second)

-- the first entry is found at its own place
first-found : (n number : ℕ) (item : Item) (rest : Content) → n ≡ number
    → item_at ((four number, item) ∷ rest) (four n) ≡ Some item
first-found n number item rest is =
    ap (λ (order : Ordering). found_by order (Some item) (item_at rest (four n)))
    (ap (λ (m : ℕ). place_cmp (four m) (four number)) is ∙ same_is_equal (four number))

-- the content has at a slot's place what the slot has
records-item : (part : Numbered) → part.relative ≡ true → (number : ℕ) (items : List ci.Item)
    (slot n : ℕ) → AreWhole part.most items → number + length items ≤ 2 ^ 32 → slot < length items
    → n ≡ number + slot
    → item_at (records_from number items) (four n)
    ≡ option_and_then standing_in (slice_get items slot)
records-item part slots number [] slot n whole fits within is = absurd (omega (arith, within))
records-item part slots number (item ∷ items) zero n whole fits within is =
    by_live item.live
  where
    rest : Content
    rest = records_from (suc number) items

    none : item_at rest (four n) ≡ None
    none = none-record (four n) rest
        (items-none part (suc number) (suc number + length items) rest
        (records-slots part slots (suc number) items whole.1) (omega (arith, fits)) n
        (omega (arith, fits, is)) (inl (omega (arith, is))))

    by_live : (live : Bool)
        → item_at (cond live ((four number, Standing item.bytes) ∷ rest) rest) (four n)
        ≡ cond live (Some (Standing item.bytes)) None
    by_live true = first-found n number (Standing item.bytes) rest (omega (arith, is))
    by_live false = none
records-item part slots number (item ∷ items) (suc slot) n whole fits within is =
    by_live item.live
    (records-item part slots (suc number) items slot n whole.1 (omega (arith, fits))
    (omega (arith, within)) (omega (arith, is)))
  where
    rest : Content
    rest = records_from (suc number) items

    other : place_cmp (four n) (four number) ≡ Equal → ⊥
    other = other-place n number (omega (arith, fits, within, is)) (omega (arith, fits, within))
        (λ equal. omega (arith, equal, is))

    by_live : (live : Bool)
        → item_at rest (four n) ≡ option_and_then standing_in (slice_get items slot)
        → item_at (cond live ((four number, Standing item.bytes) ∷ rest) rest) (four n)
        ≡ option_and_then standing_in (slice_get items slot)
    by_live true more =
        by_other (place_cmp (four n) (four number)) (Some (Standing item.bytes))
        (item_at rest (four n)) other
        ∙ more
    by_live false more = more

-- ---- those of an interval of records one after another

-- an item takes its bytes, withdrawn or not
pub entry-length : (item : ci.Item) → item_length (entry_of item) ≡ length item.bytes
entry-length item = by_live item.live
  where
    by_live : (live : Bool)
        → item_length (cond live (Standing item.bytes) (Withdrawn (length item.bytes)))
        ≡ length item.bytes
    by_live true = refl
    by_live false = refl

-- each has a byte or more, and none is too long
record IsStored (part : Numbered) (item : ci.Item) : Type 0 where
  some : 0 < length item.bytes
  most : length item.bytes ≤ part.most

are-stored : (part : Numbered) (items : List ci.Item) → AllByRecursion ci.IsItem items
    → AllByRecursion (IsEntry part) items → AllByRecursion (IsStored part) items
are-stored part [] are each = tt
are-stored part (item ∷ items) are each = (
  record { some = are.0.some; most = each.0 },
  are-stored part items are.1 each.1,
)

stored-entry : (part : Numbered) → part.relative ≡ false → (number : ℕ) (item : ci.Item)
    → IsStored part item → IsItemEntry part number (four number, entry_of item)
stored-entry part entries number item is = record {
  place = refl;
  item =
      subst (λ (relative : Bool). IsItemBy relative part.most (entry_of item)) (sym entries)
      (omega (arith, is.some, entry-length item), omega (arith, is.most, entry-length item));
}

entries-items : (part : Numbered) → part.relative ≡ false → (number : ℕ) (items : List ci.Item)
    → AllByRecursion (IsStored part) items
    → AreItemsOf part number (number + bytes_in items) (entries_from number items)
entries-items part entries number [] stored = tt
entries-items part entries number (item ∷ items) stored =
    let past = number + length item.bytes in
    let end = number + bytes_in (item ∷ items) in
    let rest = entries_from past items in (
      number,
      stored-entry part entries number item stored.0,
      omega arith,
      omega (arith, stored.0.some),
      items-lower part (suc number) past end rest (omega (arith, stored.0.some))
          (items-upper part past (past + bytes_in items) end rest (omega arith)
          (entries-items part entries past items stored.1)),
    )

-- the content has at each address what begins there
entries-item : (part : Numbered) → part.relative ≡ false → (number : ℕ) (items : List ci.Item)
    (at n : ℕ) → AllByRecursion (IsStored part) items → number + bytes_in items ≤ 2 ^ 32
    → n < 2 ^ 32 → n ≡ number + at
    → item_at (entries_from number items) (four n) ≡ entry_item at items
entries-item part entries number [] at n stored fits room is = refl
entries-item part entries number (item ∷ items) at n stored fits room is =
    by_first (nat_eq at 0) refl
    (λ past. entries-item part entries (number + length item.bytes) items
    (at - length item.bytes) n stored.1 (omega (arith, fits)) room (omega (arith, is, past)))
  where
    past : ℕ
    past = number + length item.bytes

    rest : Content
    rest = entries_from past items

    size : ℕ
    size = length item.bytes

    none : at < size → item_at rest (four n) ≡ None
    none within = none-record (four n) rest
        (items-none part past (past + bytes_in items) rest
        (entries-items part entries past items stored.1) (omega (arith, fits)) n room
        (inl (omega (arith, is, within))))

    by_size : (beyond : Bool) → nat_le size at ≡ beyond
        → (size ≤ at → item_at rest (four n) ≡ entry_item (at - size) items)
        → item_at rest (four n) ≡ cond beyond (entry_item (at - size) items) None
    by_size true beyond further = further (leb-true size at beyond)
    by_size false within further = none (leb-false size at within)

    by_first : (first : Bool) → nat_eq at 0 ≡ first
        → (size ≤ at → item_at rest (four n) ≡ entry_item (at - size) items)
        → item_at (entries_from number (item ∷ items)) (four n)
        ≡ cond first (Some (entry_of item))
        (cond (nat_le size at) (entry_item (at - size) items) None)
    by_first true zero_is further =
        first-found n number (entry_of item) rest (omega (arith, is, eqb-true at 0 zero_is))
    by_first false later further =
        by_other (place_cmp (four n) (four number)) (Some (entry_of item)) (item_at rest (four n))
        (other-place n number room (omega (arith, fits, stored.0.some))
        (λ equal. eqb-false at 0 later (omega (arith, equal, is))))
        ∙ by_size (nat_le size at) refl further

bytes-room : (items : List ci.Item) → bytes_in items ≤ ci.room items
bytes-room [] = omega arith
bytes-room (item ∷ items) = omega (arith, bytes-room items)

-- ---- those of an interval

-- its items are slots of one length, as many as an interval has
are-whole : (part : Numbered) (block : Block) → IsSlots part block
    → AreWhole part.most (items_of block)
are-whole part block is = is.spelled.fits.block.0

pub slots-count : (part : Numbered) (block : Block) → IsSlots part block
    → length (items_of block) ≡ slots_of part
slots-count part block is =
    is.spelled.fits.block.1
    ∙ ap (λ (size : ℕ). slots_in size part.most) is.size

-- they have no more bytes than the block
pub bytes-most : (part : Numbered) (block : Block) → IsEntries part block
    → bytes_in (items_of block) ≤ part.geometry.size
bytes-most part block is =
    omega (arith, bytes-room (items_of block), is.spelled.fits.block, is.size)

all-stored : (part : Numbered) (block : Block) → IsEntries part block
    → AllByRecursion (IsStored part) (items_of block)
all-stored part block is = are-stored part (items_of block) is.spelled.fits.items is.each

items-by : (relative : Bool) (part : Numbered) (number : ℕ) (block : Block)
    → part.relative ≡ relative → IsFilledBy relative part block
    → AreItemsOf part number (number + span_by relative part)
    (items_by relative number (items_of block))
items-by true part number block kind is =
    subst (λ (count : ℕ). AreItemsOf part number (number + count)
    (records_from number (items_of block))) (slots-count part block is)
    (records-slots part kind number (items_of block) (are-whole part block is))
items-by false part number block kind is =
    items-upper part number (number + bytes_in (items_of block)) (number + part.geometry.size)
    (entries_from number (items_of block)) (omega (arith, bytes-most part block is))
    (entries-items part kind number (items_of block) (all-stored part block is))

item-by : (relative : Bool) (part : Numbered) (number at n : ℕ) (block : Block)
    → part.relative ≡ relative → IsFilledBy relative part block
    → number + span_by relative part ≤ 2 ^ 32 → at < span_by relative part → n ≡ number + at
    → item_at (items_by relative number (items_of block)) (four n)
    ≡ item_by relative at (items_of block)
item-by true part number at n block kind is fits less place =
    records-item part kind number (items_of block) at n (are-whole part block is)
    (omega (arith, slots-count part block is, fits))
    (omega (arith, slots-count part block is, less)) place
item-by false part number at n block kind is fits less place =
    entries-item part kind number (items_of block) at n (all-stored part block is)
    (omega (arith, bytes-most part block is, fits)) (omega (arith, fits, less, place)) place

-- ---- those of several intervals

-- the intervals from a block on are those of the part
abbrev AreIntervals : Numbered → Image → ℕ → ℕ → Type 0
AreIntervals part image n count = (i : ℕ) → i < count → IsFilled part (block_at image (n + i))

later-intervals : (part : Numbered) (image : Image) (n count : ℕ)
    → AreIntervals part image n (suc count) → AreIntervals part image (suc n) count
later-intervals part image n count each i below =
    let same : n + suc i ≡ suc n + i = omega arith in
    subst (λ (m : ℕ). IsFilled part (block_at image m)) same (each (suc i) (omega (arith, below)))

first-interval : (part : Numbered) (image : Image) (n count : ℕ)
    → AreIntervals part image n (suc count) → IsFilled part (block_at image n)
first-interval part image n count each =
    let same : n + 0 ≡ n = omega arith in
    subst (λ (m : ℕ). IsFilled part (block_at image m)) same (each 0 (omega arith))

interval-items : (part : Numbered) (number : ℕ) (block : Block) → IsFilled part block
    → AreItemsOf part number (number + span_of part)
    (items_by part.relative number (items_of block))
interval-items part number block is = items-by part.relative part number block refl is

over-items : (part : Numbered) (image : Image) (number n count : ℕ)
    → AreIntervals part image n count
    → AreItemsOf part number (number + count * span_of part)
    (items_over part image number n count)
over-items part image number n zero each = tt
over-items part image number n (suc count) each =
    let middle = number + span_of part in
    items-append part number middle (number + suc count * span_of part)
    (items_by part.relative number (items_of (block_at image n)))
    (items_over part image middle (suc n) count) (omega arith) (omega arith)
    (interval-items part number (block_at image n) (first-interval part image n count each))
    (items-upper part middle (middle + count * span_of part)
    (number + suc count * span_of part) (items_over part image middle (suc n) count)
    (omega arith)
    (over-items part image middle (suc n) count (later-intervals part image n count each)))

-- the content has at a place what its interval has there
over-item : (part : Numbered) (image : Image) (number n count interval at place : ℕ)
    → AreIntervals part image n count → number + count * span_of part ≤ 2 ^ 32
    → interval < count → at < span_of part → place ≡ number + interval * span_of part + at
    → item_at (items_over part image number n count) (four place)
    ≡ item_in part at (block_at image (n + interval))
over-item part image number n zero interval at place each fits within less is =
    absurd (omega (arith, within))
over-item part image number n (suc count) zero at place each fits within less is =
    let block = block_at image n in
    let middle = number + span_of part in
    let one : IsFilled part block = first-interval part image n count each in
    let later : AreIntervals part image (suc n) count = later-intervals part image n count each in
    let end : middle + count * span_of part ≤ 2 ^ 32 = omega (arith, fits) in
    let same : n ≡ n + 0 = omega arith in
    record-left (items_by part.relative number (items_of block))
    (items_over part image middle (suc n) count) (four place)
    (items-none part middle (middle + count * span_of part)
    (items_over part image middle (suc n) count)
    (over-items part image middle (suc n) count later) end place
    (omega (arith, is, less, fits)) (inl (omega (arith, is, less))))
    ∙ item-by part.relative part number at place block refl one (omega (arith, end)) less
    (omega (arith, is))
    ∙ ap (λ (m : ℕ). item_in part at (block_at image m)) same
over-item part image number n (suc count) (suc interval) at place each fits within less is =
    let block = block_at image n in
    let middle = number + span_of part in
    let one : IsFilled part block = first-interval part image n count each in
    let later : AreIntervals part image (suc n) count = later-intervals part image n count each in
    let end : middle + count * span_of part ≤ 2 ^ 32 = omega (arith, fits) in
    let spread : suc interval * span_of part ≤ count * span_of part =
    mul-le-mul_right (span_of part) (omega (arith, within)) in
    let same : suc n + interval ≡ n + suc interval = omega arith in
    record-right (items_by part.relative number (items_of block))
    (items_over part image middle (suc n) count) (four place)
    (items-none part number middle (items_by part.relative number (items_of block))
    (interval-items part number block one) (omega (arith, end)) place
    (omega (arith, is, less, fits, spread)) (inr (omega (arith, is))))
    ∙ over-item part image middle (suc n) count interval at place later end
    (omega (arith, within)) less (omega (arith, is))
    ∙ ap (λ (m : ℕ). item_in part at (block_at image m)) same

-- ---- those of a chain

-- the intervals that are used by the roster of an area
here-intervals : (part : Numbered) (Own : ℕ → Type 0) (image : Image) (k area : ℕ)
    → Chains part Own (IsFilled part) (IsOf image) (suc k) area
    → AreIntervals part image (interval_in part area 0) (roster_at part image area).used
here-intervals part Own image k area chain i below =
    let same : interval_in part area i ≡ interval_in part area 0 + i = omega arith in
    subst (λ (n : ℕ). IsFilled part (block_at image n)) same
    ((chained-here part Own (IsFilled part) image k area chain).intervals i below
    (block_at image (interval_in part area i)) refl)

-- an area has no more used numbers than numbers
numbers-most : (part : Numbered) (Own : ℕ → Type 0) (image : Image) (k area : ℕ)
    → Chains part Own (IsFilled part) (IsOf image) (suc k) area
    → (roster_at part image area).used * span_of part ≤ part.geometry.area * span_of part
numbers-most part Own image k area chain =
    mul-le-mul_right (span_of part)
    (chained-here part Own (IsFilled part) image k area chain).roster.spelled.rules.used

-- those of the areas after one, where it is used whole
rest-items : (part : Numbered) (Own : ℕ → Type 0) (image : Image) (k number used : ℕ)
    (next : Option ℕ)
    → IsNextOf used part.geometry.area (Chains part Own (IsFilled part) (IsOf image) k) next
    → ((from area : ℕ) → Chains part Own (IsFilled part) (IsOf image) k area
    → AreItemsOf part from (from + span_up part k) (items_from part image k from area))
    → AreItemsOf part (number + used * span_of part) (number + span_up part (suc k))
    (after_next [] (items_from part image k (number + used * span_of part)) next)
rest-items part Own image k number used None rule each = tt
rest-items part Own image k number used (Some after) (whole, chain) each =
    let past = number + used * span_of part in
    let same : used * span_of part ≡ part.geometry.area * span_of part =
    ap (λ (count : ℕ). count * span_of part) whole in
    items-upper part past (past + span_up part k) (number + span_up part (suc k))
    (items_from part image k past after) (omega (arith, same)) (each past after chain)

-- the items of a chain, from a number on
pub chain-items : (part : Numbered) (Own : ℕ → Type 0) (image : Image) (k number area : ℕ)
    → Chains part Own (IsFilled part) (IsOf image) k area
    → AreItemsOf part number (number + span_up part k) (items_from part image k number area)
chain-items part Own image zero number area chain = absurd chain
chain-items part Own image (suc k) number area chain =
    let top = roster_at part image area in
    let past = number + top.used * span_of part in
    items-append part number past (number + span_up part (suc k))
    (items_over part image number (interval_in part area 0) top.used)
    (after_next [] (items_from part image k past) top.next)
    (omega arith) (omega (arith, numbers-most part Own image k area chain))
    (over-items part image number (interval_in part area 0) top.used
    (here-intervals part Own image k area chain))
    (rest-items part Own image k number top.used top.next
    (chained-here part Own (IsFilled part) image k area chain).next
    (λ from after. chain-items part Own image k from after))

-- a number of the first area is in its interval
item-here : (part : Numbered) (Own : ℕ → Type 0) (image : Image)
    (k number area interval at place : ℕ)
    → Chains part Own (IsFilled part) (IsOf image) (suc k) area
    → number + span_up part (suc k) ≤ 2 ^ 32 → place < 2 ^ 32 → at < span_of part
    → place ≡ number + interval * span_of part + at
    → interval < (roster_at part image area).used
    → item_at (items_from part image (suc k) number area) (four place)
    ≡ item_in part at (block_at image (interval_in part area interval))
item-here part Own image k number area interval at place chain fits room less is within =
    let top = roster_at part image area in
    let past = number + top.used * span_of part in
    let later = after_next [] (items_from part image k past) top.next in
    let end : past ≤ 2 ^ 32 = omega (arith, fits, numbers-most part Own image k area chain) in
    let spread : suc interval * span_of part ≤ top.used * span_of part =
    mul-le-mul_right (span_of part) within in
    let same : interval_in part area 0 + interval ≡ interval_in part area interval =
    omega arith in
    record-left (items_over part image number (interval_in part area 0) top.used) later
    (four place)
    (items-none part past (number + span_up part (suc k)) later
    (rest-items part Own image k number top.used top.next
    (chained-here part Own (IsFilled part) image k area chain).next
    (λ from after. chain-items part Own image k from after))
    fits place room (inl (omega (arith, is, less, spread))))
    ∙ over-item part image number (interval_in part area 0) top.used interval at place
    (here-intervals part Own image k area chain) end within less is
    ∙ ap (λ (n : ℕ). item_in part at (block_at image n)) same

-- and each other is in the areas after it
item-after : (part : Numbered) (Own : ℕ → Type 0) (image : Image)
    (k number area interval at place : ℕ)
    → Chains part Own (IsFilled part) (IsOf image) (suc k) area
    → number + span_up part (suc k) ≤ 2 ^ 32 → place < 2 ^ 32
    → place ≡ number + interval * span_of part + at
    → (roster_at part image area).used ≤ interval
    → item_at (items_from part image (suc k) number area) (four place)
    ≡ item_at (after_next []
    (items_from part image k (number + (roster_at part image area).used * span_of part))
    (roster_at part image area).next) (four place)
item-after part Own image k number area interval at place chain fits room is beyond =
    let top = roster_at part image area in
    let past = number + top.used * span_of part in
    let here = items_over part image number (interval_in part area 0) top.used in
    let spread : top.used * span_of part ≤ interval * span_of part =
    mul-le-mul_right (span_of part) beyond in
    record-right here (after_next [] (items_from part image k past) top.next) (four place)
    (items-none part number past here
    (over-items part image number (interval_in part area 0) top.used
    (here-intervals part Own image k area chain))
    (omega (arith, fits, numbers-most part Own image k area chain)) place room
    (inr (omega (arith, is, spread))))

-- a chain of at most so many areas has at a place what the way over it leads to
abbrev pub AreFound : Numbered → (ℕ → Type 0) → Image → ℕ → ℕ → ℕ → Type 0
AreFound part Own image at place k = (number area interval : ℕ)
    → Chains part Own (IsFilled part) (IsOf image) k area → number + span_up part k ≤ 2 ^ 32
    → place ≡ number + interval * span_of part + at
    → item_at (items_from part image k number area) (four place)
    ≡ found_on image (chain_way part (item_read part at) k interval area)

pub chain-item : (part : Numbered) (Own : ℕ → Type 0) (image : Image) (at place : ℕ)
    → place < 2 ^ 32 → at < span_of part → (k : ℕ) → AreFound part Own image at place k
chain-item part Own image at place room less zero number area interval chain fits is =
    absurd chain
chain-item part Own image at place room less (suc k) number area interval chain fits is =
    by_used (nat_lt interval used) refl (chain-item part Own image at place room less k)
  where
    used : ℕ
    used = (roster_at part image area).used

    whole : ℕ
    whole = part.geometry.area

    past : ℕ
    past = number + used * span_of part

    after : ℕ → Way
    after = chain_way part (item_read part at) k (interval - whole)

    by_next : used ≤ interval → AreFound part Own image at place k → (next : Option ℕ)
        → IsNextOf used whole (Chains part Own (IsFilled part) (IsOf image) k) next
        → item_at (after_next [] (items_from part image k past) next) (four place)
        ≡ found_on image (after_next (Found None) after next)
    by_next beyond further None rule = refl
    by_next beyond further (Some onward) (all, rule) =
        let same : used * span_of part ≡ whole * span_of part =
        ap (λ (count : ℕ). count * span_of part) all in
        let split : interval * span_of part ≡ ((interval - whole) + whole) * span_of part =
        ap (λ (count : ℕ). count * span_of part) (omega (arith, beyond, all)) in
        further past onward (interval - whole) rule (omega (arith, same, fits))
        (omega (arith, is, same, split))

    by_used : (below : Bool) → nat_lt interval used ≡ below → AreFound part Own image at place k
        → item_at (items_from part image (suc k) number area) (four place)
        ≡ found_on image (cond below (item_read part at (interval_in part area interval))
        (after_next (Found None) after (roster_at part image area).next))
    by_used true within further =
        item-here part Own image k number area interval at place chain fits room less is
        (ltb-true interval used within)
    by_used false beyond further =
        let past_used : used ≤ interval = ltb-false interval used beyond in
        item-after part Own image k number area interval at place chain fits room is past_used
        ∙ by_next past_used further (roster_at part image area).next
        (chained-here part Own (IsFilled part) image k area chain).next
