-- What the blocks of an entry-sequenced part stand for is in the order of addresses, also where a
-- crash left intervals without the items that they had.
use Rattle.std.proofs.Common.{◌≡◌, inl, inr, ◌+◌, ◌-◌, ◌*◌, ◌/◌, ◌^◌, ◌<◌, ◌≤◌, ℕ, zero, suc}
use Rattle.std.proofs.Common.{Bool, true, false, cond, ◌&&◌, List, [], ◌∷◌, ◌++◌, length, map, filter}
use Rattle.std.proofs.Common.{sum, Option, Some, None, refl, sym, ap, ◌∙◌, subst, arith, eq-eqb}
use Rattle.std.proofs.Common.{ne_eqb}
use Rattle.std.specs.Prelude.{nat_le}
use Rattle.std.specs.Int.{w32, to_be_bytes, div_ceil}
use Rattle.std.specs.List.{AllByRecursion}
use Rattle.std.proofs.Math.Nat.{mul-le-mul_right}
use Rattle.std.proofs.lemmas.Bool.{le-leb, leb-true}
use Rattle.std.proofs.lemmas.List.{append-nil, append_assoc}
use Rattle.std.proofs.lemmas.List.Elements.{filter-append}
use Rattle.std.proofs.lemmas.Nat.{div-mul-add}
use Rattle.vr_types.specs.Content.{Content, Placed, Standing, Withdrawn}
use Rattle.vr_types.specs.Fields.{four}
use Rattle.vr_types.specs.Geometry.{IsAllowed, area_count}
use Rattle.vr_types.specs.Image.{Block, Image, block_at}
use Rattle.vr_types.specs.declared.geometry.Geometry.{Geometry}
use Rattle.vr_types.proofs.CallerLemmas.{block_size_least}
use Rattle.vr_ci.specs.Interval as ci
use Rattle.vr_space.specs.Entries.{IsEntries, IsEntry, entries_from, entry_of}
use Rattle.vr_space.specs.Keyed.{items_of}
use Rattle.vr_space.specs.Numbered.{IsFilled, IsFilledBy, items_by, items_from, items_over, span_by}
use Rattle.vr_space.specs.Numbered.{span_of, start_by, start_of}
use Rattle.vr_space.specs.Part.{NumberedShape, StandsFor}
use Rattle.vr_space.specs.Rosters.{Chains, IsChainedBy, IsNextOf, IsOf, Numbered, after_next}
use Rattle.vr_space.specs.Rosters.{interval_in, roster_at, roster_block}
use Rattle.vr_space.proofs.CallerLemmas.{chained-here}
use Rattle.vr_history.specs.Address.{begins_in, intervals_for, is_spanned, last_interval, last_item}
use Rattle.vr_history.specs.Address.{length_of, lengths_taken, next_address, next_after, number_of}
use Rattle.vr_history.specs.Address.{room_taken}
use Rattle.vr_history.specs.Addresses.{AllFollow, AreAddressed, Follows, IsLater}
use Rattle.vr_history.proofs.CallerLemmas.{begun_append, intervals_of, last_append, number_back}
use Rattle.vr_history.proofs.CallerLemmas.{volume_fits}

-- ---- items before others

-- the items begin, and the last one ends, in intervals below this one
record LieBelow (size interval : ℕ) (content : Content) : Type 0 where
  none : (j : ℕ) → interval ≤ j → filter (begins_in size j) content ≡ []
  later : (j : ℕ) → interval ≤ j → IsLater size (last_item content) j

-- the last one is in this interval, the items of which take these bytes and this room
record LieUpTo (size interval bytes room : ℕ) (content : Content) : Type 0 where
  last : Placed
  is : last_item content ≡ Some last
  ends : last_interval size (number_of last.0) (length_of last.1) ≡ interval
  plain : is_spanned size (length_of last.1) ≡ false
  bytes_are : lengths_taken size interval content ≡ bytes
  room_is : room_taken size interval content ≡ room
  most : bytes ≤ room
  none : (j : ℕ) → interval < j → filter (begins_in size j) content ≡ []

up-below : (size interval bytes room : ℕ) (content : Content)
    → LieUpTo size interval bytes room content → LieBelow size (suc interval) content
up-below size interval bytes room content up = record {
  none = λ j beyond. up.none j (omega (arith, beyond));
  later = λ j beyond. subst (λ (last : Option Placed). IsLater size last j) (sym up.is)
      (omega (arith, up.ends, beyond));
}

below-more : (size interval to : ℕ) (content : Content) → interval ≤ to
    → LieBelow size interval content → LieBelow size to content
below-more size interval to content more below = record {
  none = λ j beyond. below.none j (omega (arith, more, beyond));
  later = λ j beyond. below.later j (omega (arith, more, beyond));
}

none-below : (size : ℕ) → LieBelow size 0 []
none-below size = record { none = λ j beyond. refl; later = λ j beyond. tt }

-- ---- one item

-- an item of this length at this byte of an interval of the volume's areas
record IsAt (geometry : Geometry) (interval at n : ℕ) (placed : Placed) : Type 0 where
  place : placed.0 ≡ to_be_bytes w32 (interval * geometry.size + at)
  long : length_of placed.1 ≡ n
  some : 0 < n
  plain : is_spanned geometry.size n ≡ false
  inside : at < geometry.size
  there : interval < intervals_of geometry

module _ (geometry : Geometry) (allowed : IsAllowed geometry) (interval at n : ℕ) (placed : Placed)
    (is : IsAt geometry interval at n placed) where
  abbrev size : ℕ
  size = geometry.size

  address-fits : interval * size + at < 2 ^ 32
  address-fits =
      let whole : suc interval * size ≤ intervals_of geometry * size =
      mul-le-mul_right size (omega (arith, is.there)) in
      omega (arith, whole, is.inside, volume_fits geometry allowed)

  address-is : number_of placed.0 ≡ interval * size + at
  address-is = ap number_of is.place ∙ number_back (interval * size + at) address-fits

  interval-is : number_of placed.0 / size ≡ interval
  interval-is = ap (λ (m : ℕ). m / size) address-is ∙ div-mul-add interval size at is.inside

  plain-at : is_spanned size (length_of placed.1) ≡ false
  plain-at = ap (is_spanned size) is.long ∙ is.plain

  ends-at : last_interval size (number_of placed.0) (length_of placed.1) ≡ interval
  ends-at =
      let one : intervals_for size (length_of placed.1) ≡ 1 =
      ap (λ (test : Bool). cond test (div_ceil (length_of placed.1) (size - 10)) 1) plain-at in
      omega (arith, interval-is, one)

  begins-here : begins_in size interval placed ≡ true
  begins-here = eq-eqb (number_of placed.0 / size) interval interval-is

  begins-not : (j : ℕ) → interval < j → begins_in size j placed ≡ false
  begins-not j beyond =
      ne_eqb (number_of placed.0 / size) j (λ same. omega (arith, same, interval-is, beyond))

  -- after it the items of its interval take its length more
  up-more : (room : ℕ) (before : Content) → at ≤ room → lengths_taken size interval before ≡ at
      → room_taken size interval before ≡ room
      → ((j : ℕ) → interval < j → filter (begins_in size j) before ≡ [])
      → LieUpTo size interval (at + n) (room + (n + 3)) (before ++ placed ∷ [])
  up-more room before most bytes_are room_is none = record {
    last = placed;
    is = last_append before placed;
    ends = ends-at;
    plain = plain-at;
    bytes_are =
        begun_append (λ (item : Placed). length_of item.1) size interval before placed begins-here
        ∙ omega (arith, bytes_are, is.long);
    room_is =
        begun_append (λ (item : Placed). length_of item.1 + 3) size interval before placed
        begins-here
        ∙ omega (arith, room_is, is.long);
    most = omega (arith, most);
    none = λ j beyond. filter-append (begins_in size j) before (placed ∷ [])
        ∙ ap (λ (kept : Content). kept ++ cond (begins_in size j placed) (placed ∷ []) [])
        (none j beyond)
        ∙ ap (λ (test : Bool). cond test (placed ∷ []) []) (begins-not j beyond);
  }

  ends-within : last_interval size (number_of placed.0) (length_of placed.1)
      < area_count geometry * geometry.area
  ends-within = omega (arith, ends-at, is.there)

-- the first of an interval follows those of intervals before it
first-follows : (geometry : Geometry) → IsAllowed geometry → (interval n : ℕ) (before : Content)
    (placed : Placed) → IsAt geometry interval 0 n placed → LieBelow geometry.size interval before
    → Follows geometry before placed
first-follows geometry allowed interval n before placed is below = record {
  at = inr (record {
    interval = interval;
    within = is.there;
    later = below.later interval (omega arith);
    at = is.place ∙ ap (to_be_bytes w32) (omega arith);
  });
  ends = ends-within geometry allowed interval 0 n placed is;
  some = omega (arith, is.some, is.long);
}

-- a plain record goes after the last item, where its interval has room
next-in : (size interval new : ℕ) (before : Content) (last : Placed) → last_item before ≡ Some last
    → last_interval size (number_of last.0) (length_of last.1) ≡ interval
    → is_spanned size (length_of last.1) ≡ false → is_spanned size new ≡ false
    → room_taken size interval before + new + 3 ≤ size - 4
    → next_address size before new ≡ interval * size + lengths_taken size interval before
next-in size interval new before last is ends plain plain_new room =
    ap (next_after size before new) is
    ∙ (ap (λ (i : ℕ). after i (is_spanned size (length_of last.1)) (is_spanned size new)) ends
    ∙ (ap (λ (test : Bool). after interval test (is_spanned size new)) plain
    ∙ (ap (after interval false) plain_new
    ∙ ap (λ (test : Bool). cond test (interval * size + lengths_taken size interval before)
    ((interval + 1) * size)) (le-leb _ _ room))))
  where
    after : ℕ → Bool → Bool → ℕ
    after i one other = cond (cond one false true
        && (cond other false true && nat_le (room_taken size i before + new + 3) (size - 4)))
        (i * size + lengths_taken size i before) ((i + 1) * size)

-- and each other follows those before it in its interval
next-follows : (geometry : Geometry) → IsAllowed geometry → (interval bytes room n : ℕ)
    (before : Content) (placed : Placed) → IsAt geometry interval bytes n placed
    → LieUpTo geometry.size interval bytes room before → room + (n + 3) ≤ geometry.size - 4
    → Follows geometry before placed
next-follows geometry allowed interval bytes room n before placed is up fits = record {
  at = inl (is.place ∙ ap (to_be_bytes w32) (sym next));
  ends = ends-within geometry allowed interval bytes n placed is;
  some = omega (arith, is.some, is.long);
}
  where
    next : next_address geometry.size before (length_of placed.1)
        ≡ interval * geometry.size + bytes
    next =
        next-in geometry.size interval (length_of placed.1) before up.last up.is up.ends up.plain
        (plain-at geometry allowed interval bytes n placed is)
        (omega (arith, up.room_is, is.long, fits))
        ∙ ap (λ (taken : ℕ). interval * geometry.size + taken) up.bytes_are

-- ---- items after others

-- the items follow those before them, and all lie below this interval
record Extends (geometry : Geometry) (to : ℕ) (before content : Content) : Type 0 where
  follow : AllFollow geometry before content
  below : LieBelow geometry.size to (before ++ content)

follow-both : (geometry : Geometry) (before xs ys : Content) → AllFollow geometry before xs
    → AllFollow geometry (before ++ xs) ys → AllFollow geometry before (xs ++ ys)
follow-both geometry before [] ys left right =
    subst (λ (c : Content). AllFollow geometry c ys) (append-nil before) right
follow-both geometry before (placed ∷ xs) ys left right = (
  left.0,
  follow-both geometry (before ++ placed ∷ []) xs ys left.1
      (subst (λ (c : Content). AllFollow geometry c ys)
      (sym (append_assoc before (placed ∷ []) xs)) right),
)

extends-both : (geometry : Geometry) (middle to : ℕ) (before xs ys : Content)
    → Extends geometry middle before xs → Extends geometry to (before ++ xs) ys
    → Extends geometry to before (xs ++ ys)
extends-both geometry middle to before xs ys left right = record {
  follow = follow-both geometry before xs ys left.follow right.follow;
  below = subst (LieBelow geometry.size to) (append_assoc before xs ys) right.below;
}

extends-more : (geometry : Geometry) (to more : ℕ) (before content : Content) → to ≤ more
    → Extends geometry to before content → Extends geometry more before content
extends-more geometry to more before content wider extends = record {
  follow = extends.follow;
  below = below-more geometry.size to more (before ++ content) wider extends.below;
}

extends-none : (geometry : Geometry) (to : ℕ) (before : Content) → LieBelow geometry.size to before
    → Extends geometry to before []
extends-none geometry to before below = record {
  follow = tt;
  below = subst (LieBelow geometry.size to) (sym (append-nil before)) below;
}

extends-first : (geometry : Geometry) (to : ℕ) (before : Content) (placed : Placed)
    (rest : Content) → Follows geometry before placed
    → Extends geometry to (before ++ placed ∷ []) rest
    → Extends geometry to before (placed ∷ rest)
extends-first geometry to before placed rest follows extends = record {
  follow = (follows, extends.follow);
  below = subst (LieBelow geometry.size to) (append_assoc before (placed ∷ []) rest) extends.below;
}

-- ---- the items of one interval

-- an item has a byte or more, and no segments
record IsStored (size : ℕ) (item : ci.Item) : Type 0 where
  some : 0 < length item.bytes
  plain : is_spanned size (length item.bytes) ≡ false

entry-long : (item : ci.Item) → length_of (entry_of item) ≡ length item.bytes
entry-long item = by_live item.live
  where
    by_live : (live : Bool)
        → length_of (cond live (Standing item.bytes) (Withdrawn (length item.bytes)))
        ≡ length item.bytes
    by_live true = refl
    by_live false = refl

four-is : (n : ℕ) → four n ≡ to_be_bytes w32 n
unfolding four
four-is n = refl

entry-at : (geometry : Geometry) (interval at number : ℕ) (item : ci.Item)
    → number ≡ interval * geometry.size + at → interval < intervals_of geometry
    → at < geometry.size → IsStored geometry.size item
    → IsAt geometry interval at (length item.bytes) (four number, entry_of item)
entry-at geometry interval at number item is there inside stored = record {
  place = four-is number ∙ ap (to_be_bytes w32) is;
  long = entry-long item;
  some = stored.some;
  plain = stored.plain;
  inside = inside;
  there = there;
}

rest-extends : (geometry : Geometry) → IsAllowed geometry → (interval bytes room number : ℕ)
    (before : Content) (items : List ci.Item) → number ≡ interval * geometry.size + bytes
    → interval < intervals_of geometry → AllByRecursion (IsStored geometry.size) items
    → LieUpTo geometry.size interval bytes room before
    → room + ci.room items ≤ geometry.size - 4
    → Extends geometry (suc interval) before (entries_from number items)
rest-extends geometry allowed interval bytes room number before [] is there stored up fits =
    extends-none geometry (suc interval) before
    (up-below geometry.size interval bytes room before up)
rest-extends geometry allowed interval bytes room number before (item ∷ items) is there stored up
    fits =
    let n = length item.bytes in
    let placed : Placed = (four number, entry_of item) in
    let least : 512 ≤ geometry.size = block_size_least geometry.size allowed.size in
    let at : IsAt geometry interval bytes n placed =
    entry-at geometry interval bytes number item is there (omega (arith, up.most, fits, least))
    stored.0 in
    let more : LieUpTo geometry.size interval (bytes + n) (room + (n + 3))
    (before ++ placed ∷ []) =
    up-more geometry allowed interval bytes n placed at room before up.most up.bytes_are
    up.room_is up.none in
    extends-first geometry (suc interval) before placed (entries_from (number + n) items)
    (next-follows geometry allowed interval bytes room n before placed at up
    (omega (arith, fits)))
    (rest-extends geometry allowed interval (bytes + n) (room + (n + 3)) (number + n)
    (before ++ placed ∷ []) items (omega (arith, is)) there stored.1 more
    (omega (arith, fits)))

interval-extends : (geometry : Geometry) → IsAllowed geometry → (interval number : ℕ)
    (before : Content) (items : List ci.Item) → number ≡ interval * geometry.size
    → interval < intervals_of geometry → AllByRecursion (IsStored geometry.size) items
    → LieBelow geometry.size interval before → ci.room items ≤ geometry.size - 4
    → Extends geometry (suc interval) before (entries_from number items)
interval-extends geometry allowed interval number before [] is there stored below fits =
    extends-none geometry (suc interval) before
    (below-more geometry.size interval (suc interval) before (omega arith) below)
interval-extends geometry allowed interval number before (item ∷ items) is there stored below fits =
    let n = length item.bytes in
    let placed : Placed = (four number, entry_of item) in
    let least : 512 ≤ geometry.size = block_size_least geometry.size allowed.size in
    let at : IsAt geometry interval 0 n placed =
    entry-at geometry interval 0 number item (omega (arith, is)) there (omega (arith, least))
    stored.0 in
    let none : filter (begins_in geometry.size interval) before ≡ [] =
    below.none interval (omega arith) in
    let more : LieUpTo geometry.size interval (0 + n) (0 + (n + 3)) (before ++ placed ∷ []) =
    up-more geometry allowed interval 0 n placed at 0 before (omega arith)
    (ap (λ (kept : Content). sum (map (λ (entry : Placed). length_of entry.1) kept)) none)
    (ap (λ (kept : Content). sum (map (λ (entry : Placed). length_of entry.1 + 3) kept)) none)
    (λ j beyond. below.none j (omega (arith, beyond))) in
    extends-first geometry (suc interval) before placed (entries_from (number + n) items)
    (first-follows geometry allowed interval n before placed at below)
    (rest-extends geometry allowed interval (0 + n) (0 + (n + 3)) (number + n)
    (before ++ placed ∷ []) items (omega (arith, is)) there stored.1 more (omega (arith, fits)))

-- ---- those of several intervals, and of a chain of areas

all-stored : (part : Numbered) (size : ℕ) (items : List ci.Item) → part.most + 7 ≤ size
    → AllByRecursion ci.IsItem items → AllByRecursion (IsEntry part) items
    → AllByRecursion (IsStored size) items
all-stored part size [] fits are each = tt
all-stored part size (item ∷ items) fits are each = (
  record { some = are.0.some; plain = by_test (is_spanned size (length item.bytes)) refl },
  all-stored part size items fits are.1 each.1,
)
  where
    by_test : (test : Bool) → is_spanned size (length item.bytes) ≡ test → test ≡ false
    by_test true spanned =
        absurd (omega (arith, leb-true (size - 6) (length item.bytes) spanned, each.0, fits))
    by_test false spanned = refl

module _ (part : Numbered) (entries : part.relative ≡ false) (allowed : IsAllowed part.geometry)
    (fits : part.most + 7 ≤ part.geometry.size) (image : Image) where
  abbrev geometry : Geometry
  geometry = part.geometry

  span-is : span_of part ≡ geometry.size
  span-is = ap (λ (relative : Bool). span_by relative part) entries

  block-extends : (interval number n : ℕ) (before : Content) → number ≡ interval * geometry.size
      → interval < intervals_of geometry → IsFilled part (block_at image n)
      → LieBelow geometry.size interval before
      → Extends geometry (suc interval) before
      (items_by part.relative number (items_of (block_at image n)))
  block-extends interval number n before is there filled below =
      let block : Block = block_at image n in
      let has : IsEntries part block =
      subst (λ (relative : Bool). IsFilledBy relative part block) entries filled in
      subst (λ (relative : Bool). Extends geometry (suc interval) before
      (items_by relative number (items_of block))) (sym entries)
      (interval-extends geometry allowed interval number before (items_of block) is there
      (all-stored part geometry.size (items_of block) fits has.spelled.fits.items has.each) below
      (omega (arith, has.spelled.fits.block, has.size)))

  over-extends : (interval number n count : ℕ) (before : Content)
      → number ≡ interval * geometry.size → interval + count ≤ intervals_of geometry
      → ((i : ℕ) → i < count → IsFilled part (block_at image (n + i)))
      → LieBelow geometry.size interval before
      → Extends geometry (interval + count) before (items_over part image number n count)
  over-extends interval number n zero before is there each below =
      extends-none geometry (interval + 0) before
      (below-more geometry.size interval (interval + 0) before (omega arith) below)
  over-extends interval number n (suc count) before is there each below =
      let same : n + 0 ≡ n = omega arith in
      let first : Extends geometry (suc interval) before
      (items_by part.relative number (items_of (block_at image n))) =
      block-extends interval number n before is (omega (arith, there))
      (subst (λ (m : ℕ). IsFilled part (block_at image m)) same (each 0 (omega arith))) below in
      let past = before ++ items_by part.relative number (items_of (block_at image n)) in
      extends-both geometry (suc interval) (interval + suc count) before
      (items_by part.relative number (items_of (block_at image n)))
      (items_over part image (number + span_of part) (suc n) count) first
      (extends-more geometry (suc interval + count) (interval + suc count) past
      (items_over part image (number + span_of part) (suc n) count) (omega arith)
      (over-extends (suc interval) (number + span_of part) (suc n) count past
      (omega (arith, is, span-is)) (omega (arith, there))
      (λ i within. subst (λ (m : ℕ). IsFilled part (block_at image m)) (later i)
      (each (suc i) (omega (arith, within)))) first.below))
    where
      later : (i : ℕ) → n + suc i ≡ suc n + i
      later i = omega arith

  chain-extends : (Own : ℕ → Type 0) (k interval number area : ℕ) (before : Content)
      → number ≡ interval * geometry.size
      → interval + k * geometry.area ≤ intervals_of geometry
      → Chains part Own (IsFilled part) (IsOf image) k area
      → LieBelow geometry.size interval before
      → Extends geometry (interval + k * geometry.area) before
      (items_from part image k number area)
  chain-extends Own zero interval number area before is there chain below = absurd chain
  chain-extends Own (suc k) interval number area before is there chain below =
      extends-both geometry (interval + used) (interval + suc k * geometry.area) before items
      (after_next [] (items_from part image k past) (roster_at part image area).next) over
      (by_next (roster_at part image area).next here.next
      (λ after chained whole. chain-extends Own k (interval + used) past after (before ++ items)
      past_is (omega (arith, there, whole)) chained over.below))
    where
      here : IsChainedBy part (IsFilled part) (IsOf image) area
          (Chains part Own (IsFilled part) (IsOf image) k)
          (block_at image (roster_block part area))
      here = chained-here part Own (IsFilled part) image k area chain

      used : ℕ
      used = (roster_at part image area).used

      most : used ≤ geometry.area
      most = here.roster.spelled.rules.used

      past : ℕ
      past = number + used * span_of part

      past_is : past ≡ (interval + used) * geometry.size
      past_is = omega (arith, is, ap (λ (span : ℕ). used * span) span-is)

      items : Content
      items = items_over part image number (interval_in part area 0) used

      in_area : (i : ℕ) → interval_in part area i ≡ interval_in part area 0 + i
      in_area i = omega arith

      over : Extends geometry (interval + used) before items
      over = over-extends interval number (interval_in part area 0) used before is
          (omega (arith, there, most))
          (λ i within. subst (λ (m : ℕ). IsFilled part (block_at image m)) (in_area i)
          (here.intervals i within (block_at image (interval_in part area i)) refl)) below

      by_next : (next : Option ℕ)
          → IsNextOf used geometry.area (Chains part Own (IsFilled part) (IsOf image) k) next
          → ((after : ℕ) → Chains part Own (IsFilled part) (IsOf image) k after
          → used ≡ geometry.area
          → Extends geometry (interval + used + k * geometry.area) (before ++ items)
          (items_from part image k past after))
          → Extends geometry (interval + suc k * geometry.area) (before ++ items)
          (after_next [] (items_from part image k past) next)
      by_next None rule further =
          extends-none geometry (interval + suc k * geometry.area) (before ++ items)
          (below-more geometry.size (interval + used) (interval + suc k * geometry.area)
          (before ++ items) (omega (arith, most)) over.below)
      by_next (Some after) (whole, chained) further =
          extends-more geometry (interval + used + k * geometry.area)
          (interval + suc k * geometry.area) (before ++ items)
          (items_from part image k past after) (omega (arith, whole))
          (further after chained whole)

-- What the blocks of an entry-sequenced part stand for is in the order of addresses.
pub stands-addressed : (part : Numbered) (image : Image) (content : Content)
    → part.relative ≡ false → StandsFor (NumberedShape part) image content
    → AreAddressed part.geometry content
stands-addressed part image content entries stands =
    let areas = area_count part.geometry in
    let start : start_of part ≡ 0 = ap start_by entries in
    subst (AreAddressed part.geometry) (sym stands.records)
    (chain-extends part entries stands.part_is.allowed stands.part_is.fits image
    (λ area. area < area_count part.geometry) areas 0 (start_of part) part.first []
    (omega (arith, start)) (omega arith) stands.chain (none-below part.geometry.size)).follow
