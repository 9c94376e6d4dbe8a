-- What is read at the places of an entry-sequenced or relative part: what its content has there.
use Rattle.std.proofs.Common.{◌≡◌, ◌+◌, ◌-◌, ◌*◌, ◌/◌, ◌%◌, ◌^◌, ◌<◌, ◌≤◌, ℕ, suc, Bool, true}
use Rattle.std.proofs.Common.{false, List, [], ◌∷◌, length, Option, Some, None, refl, sym, ap}
use Rattle.std.proofs.Common.{subst, ◌∙◌}
use Rattle.std.proofs.Common.{arith, true≢false}
use Rattle.std.specs.Prelude.{◌≢◌, bytes_eq, cond, nat_le, option_and_then, slice_get}
use Rattle.std.specs.Prelude.{slice_index}
use Rattle.std.specs.Option.{option_map}
use Rattle.std.specs.declared.cmp.Ordering.{Ordering}
use Rattle.std.specs.declared.cmp.Ordering.TheVariants.{Less, Equal, Greater}
use Rattle.std.proofs.Math.Nat.{mod-lt}
use Rattle.std.proofs.lemmas.Bool.{and_from, and_parts, le-leb, leb-true}
use Rattle.std.proofs.lemmas.Nat.{div-add-mod'}
use Rattle.std.proofs.lemmas.Slice.Eq.{bytes_eq-Decides}
use Rattle.vr_types.specs.Content.{Content, Item, found_by, item_at, place_cmp, record_of}
use Rattle.vr_types.specs.Content.Item.{Standing}
use Rattle.vr_types.specs.Fields.{four}
use Rattle.vr_types.specs.Geometry.{area_count}
use Rattle.vr_types.specs.Image.{Image, block_at}
use Rattle.vr_types.proofs.CallerLemmas.{same_place}
use Rattle.vr_ci.specs.Interval as ci
use Rattle.vr_space.specs.Keyed.{items_of}
use Rattle.vr_space.specs.Known.{Known}
use Rattle.vr_space.specs.Entries.{item_length}
use Rattle.vr_space.specs.Rosters.{Numbered, interval_in, interval_way, used_of}
use Rattle.vr_space.specs.Slots.{standing_in}
use Rattle.vr_space.specs.Numbered.{IsFilled, IsNumberPlace, IsNumberedLength, IsNumberedRecord}
use Rattle.vr_space.specs.Numbered.{HasChain, NumberedStandsFor, at_in, interval_of}
use Rattle.vr_space.specs.Numbered.{is_number_place, item_by, item_in, item_read, items_from}
use Rattle.vr_space.specs.Numbered.{number_of, numbered_way, span_of, start_of}
use Rattle.vr_space.specs.Way.{Found, Way, found_on}
use Rattle.vr_space.proofs.ChainWays.{chain-ends, chain-has, chain-reaches, found-used}
use Rattle.vr_space.proofs.Places.{NoneAt, none-record}
use Rattle.vr_space.proofs.NumberedContent.{AreItemsOf, IsItemBy, chain-item, chain-items}
use Rattle.vr_space.proofs.Numbers.{number-below, number-four, numbers-below, span-some}
use Rattle.vr_space.proofs.Numbers.{span_up}

-- ---- places

-- a number that the part has is spelled by its place
pub number-place : (part : Numbered) (n : ℕ) → start_of part ≤ n → n < 2 ^ 32
    → IsNumberPlace part (four n)
number-place part n least below = record {
  bytes = ap four (sym (number-four n below));
  some = omega (arith, number-four n below, least);
}

-- the test decides it
pub place-tested : (part : Numbered) (place : List ℕ) → IsNumberPlace part place
    → is_number_place part place ≡ true
place-tested part place is =
    and_from (bytes_eq place (four (number_of place))) (nat_le (start_of part) (number_of place))
    ((bytes_eq-Decides place (four (number_of place))).1 is.bytes)
    (le-leb (start_of part) (number_of place) is.some)

pub place-is : (part : Numbered) (place : List ℕ) → is_number_place part place ≡ true
    → IsNumberPlace part place
place-is part place is =
    let spelled = four (number_of place) in
    let both = and_parts (bytes_eq place spelled) (nat_le (start_of part) (number_of place)) is in
    record {
      bytes = (bytes_eq-Decides place (four (number_of place))).0 both.0;
      some = leb-true (start_of part) (number_of place) both.1;
    }

-- ---- the content

-- what blocks stand for are items of the part's numbers, from the first one on
pub stands-numbered : (part : Numbered) (image : Image) (content : Content)
    → NumberedStandsFor part image content
    → AreItemsOf part (start_of part) (start_of part + span_up part (area_count part.geometry))
    content
stands-numbered part image content stands =
    subst (AreItemsOf part (start_of part)
    (start_of part + span_up part (area_count part.geometry))) (sym stands.records)
    (chain-items part (λ area. area < area_count part.geometry) image
    (area_count part.geometry) (start_of part) part.first stands.chain)

-- at what is no place of the part they have nothing
none-elsewhere : (part : Numbered) (from to : ℕ) (content : Content) (place : List ℕ)
    → start_of part ≤ from → to ≤ 2 ^ 32 → AreItemsOf part from to content
    → is_number_place part place ≡ false → NoneAt place content
none-elsewhere part from to [] place first fits all not = tt
none-elsewhere part from to (entry ∷ content) place first fits
    (number, is, least, below, more) not = (
      λ same.
          let one : place ≡ four number = same_place place entry.0 same ∙ is.place in
          true≢false
          (sym (ap (is_number_place part) one
          ∙ place-tested part (four number)
          (number-place part number (omega (arith, first, least)) (omega (arith, below, fits))))
          ∙ not),
      none-elsewhere part (suc number) to content place (omega (arith, first, least)) fits more
          not,
    )

-- the content has at each place what the way to it finds
pub numbered-item : (part : Numbered) (image : Image) (content : Content)
    → NumberedStandsFor part image content → (place : List ℕ)
    → item_at content place ≡ found_on image (numbered_way part place)
numbered-item part image content stands place = by_place (is_number_place part place) refl
  where
    start : ℕ
    start = start_of part

    past : ℕ
    past = start + span_up part (area_count part.geometry)

    fits : past < 2 ^ 32
    fits = numbers-below part stands.part_is

    way : Way
    way = interval_way part (item_read part (at_in part place)) (interval_of part place)

    by_place : (is : Bool) → is_number_place part place ≡ is
        → item_at content place ≡ found_on image (cond is way (Found None))
    by_place false not =
        none-record place content
        (none-elsewhere part start past content place (omega arith) (omega (arith, fits))
        (stands-numbered part image content stands) not)
    by_place true is =
        let there = place-is part place is in
        let parts : number_of place
        ≡ start + interval_of part place * span_of part + at_in part place =
        omega (arith, div-add-mod' (number_of place - start) (span_of part), there.some) in
        ap (λ (c : Content). item_at c place) stands.records
        ∙ ap (item_at (items_from part image (area_count part.geometry) start part.first))
        there.bytes
        ∙ chain-item part (λ area. area < area_count part.geometry) image (at_in part place)
        (number_of place) (number-below place there.bytes)
        (mod-lt (number_of place - start) (span-some part stands.part_is))
        (area_count part.geometry) start part.first (interval_of part place) stands.chain
        (omega (arith, fits)) parts

-- what stands at a place of the part has a length of its records
length-by : (relative : Bool) (most : ℕ) (item : Item) (bytes : List ℕ)
    → IsItemBy relative most item → item ≡ Standing bytes
    → IsNumberedLength relative most (length bytes)
length-by true most item bytes (kept, is, whole) same =
    let stands : Standing kept ≡ Standing bytes = sym is ∙ same in
    let equal : kept ≡ bytes = cc in
    sym (ap (λ (b : List ℕ). length b) equal) ∙ whole
length-by false most item bytes (some, fits) same =
    let long : item_length item ≡ length bytes = ap item_length same in
    (omega (arith, some, long), omega (arith, fits, long))

-- a record that it has may stand at its place
pub numbered-record : (part : Numbered) (from to : ℕ) (content : Content) (place bytes : List ℕ)
    → start_of part ≤ from → to ≤ 2 ^ 32 → AreItemsOf part from to content
    → item_at content place ≡ Some (Standing bytes) → IsNumberedRecord part place bytes
numbered-record part from to [] place bytes first fits all is = absurd cc
numbered-record part from to (entry ∷ content) place bytes first fits
    (number, one, least, below, more) is =
    by_order (place_cmp place entry.0) refl is
    (numbered-record part (suc number) to content place bytes (omega (arith, first, least)) fits
    more)
  where
    by_order : (order : Ordering) → place_cmp place entry.0 ≡ order
        → found_by order (Some entry.1) (item_at content place) ≡ Some (Standing bytes)
        → (item_at content place ≡ Some (Standing bytes) → IsNumberedRecord part place bytes)
        → IsNumberedRecord part place bytes
    by_order Less same found further = further found
    by_order Equal same found further =
        let stands : entry.1 ≡ Standing bytes = cc in
        record {
          numbered =
              subst (IsNumberPlace part) (sym (same_place place entry.0 same ∙ one.place))
              (number-place part number (omega (arith, first, least))
              (omega (arith, below, fits)));
          whole = length-by part.relative part.most entry.1 bytes one.item stands;
        }
    by_order Greater same found further = further found

-- ---- what a way finds

-- an item is a record that stands, or there is none
abbrev IsRecord : Option Item → Type 0
IsRecord item = item ≡ option_map Standing (option_and_then record_of item)

standing-record : (item : Option ci.Item) → IsRecord (option_and_then standing_in item)
standing-record None = refl
standing-record (Some item) = by_live item.live
  where
    by_live : (live : Bool) → IsRecord (cond live (Some (Standing item.bytes)) None)
    by_live true = refl
    by_live false = refl

-- what is found at a place of a relative part is a record, or nothing
pub slot-stands : (part : Numbered) (image : Image) (place : List ℕ) → part.relative ≡ true
    → found_on image (numbered_way part place)
    ≡ option_map Standing (option_and_then record_of (found_on image (numbered_way part place)))
slot-stands part image place relative = by_place (is_number_place part place)
  where
    at : ℕ
    at = at_in part place

    way : Way
    way = interval_way part (item_read part at) (interval_of part place)

    there : (items : List ci.Item) → IsRecord (item_by part.relative at items)
    there items = subst (λ (b : Bool). IsRecord (item_by b at items)) (sym relative)
        (standing-record (slice_get items at))

    by_place : (is : Bool) → IsRecord (found_on image (cond is way (Found None)))
    by_place false = refl
    by_place true =
        chain-has part image (item_read part at) IsRecord refl
        (λ n. there (items_of (block_at image n)))
        (area_count part.geometry) (interval_of part place) part.first

-- where anything is found, the place is one of the part's
pub found-place : (part : Numbered) (image : Image) (place : List ℕ)
    → found_on image (numbered_way part place) ≢ None → IsNumberPlace part place
found-place part image place some =
    place-is part place (by_place (is_number_place part place) some)
  where
    way : Way
    way = interval_way part (item_read part (at_in part place)) (interval_of part place)

    by_place : (is : Bool) → found_on image (cond is way (Found None)) ≢ None → is ≡ true
    by_place false found = absurd (found refl)
    by_place true found = refl

-- the way to a place of the part
pub way-there : (part : Numbered) (place : List ℕ) → IsNumberPlace part place
    → numbered_way part place
    ≡ interval_way part (item_read part (at_in part place)) (interval_of part place)
way-there part place is =
    ap (λ (b : Bool). cond b (interval_way part (item_read part (at_in part place))
    (interval_of part place)) (Found None)) (place-tested part place is)

-- ---- as the areas are kept in memory

-- where a record is read, its interval is one of those that are used
pub read-used : (part : Numbered) (image : Image) (content : Content)
    → NumberedStandsFor part image content → (place : List ℕ)
    → option_and_then record_of (found_on image (numbered_way part place)) ≢ None
    → interval_of part place < used_of part image
read-used part image content stands place some =
    let found : found_on image (numbered_way part place) ≢ None =
    λ none. some (ap (λ (item : Option Item). option_and_then record_of item) none) in
    let way = way-there part place (found-place part image place found) in
    found-used part (λ area. area < area_count part.geometry) (IsFilled part) image
    (item_read part (at_in part place)) (interval_of part place) stands.chain
    (subst (λ (w : Way). found_on image w ≢ None) way found)

-- the block of the interval of a place, by the areas of the chain
abbrev pub place_block : Numbered → List ℕ → List ℕ → ℕ
place_block part areas place =
    interval_in part (slice_index areas (interval_of part place / part.geometry.area))
    (interval_of part place % part.geometry.area)

-- The item at a place of the part is in its interval, where the chain has it.
pub record IsPlaceThere (part : Numbered) (known : Known) (image : Image) (place : List ℕ) : Type 0
  where
    pub area : interval_of part place / part.geometry.area < length known.areas
    pub item : found_on image (numbered_way part place)
        ≡ item_in part (at_in part place) (block_at image (place_block part known.areas place))

pub place-there : (part : Numbered) (image : Image) (content : Content)
    → NumberedStandsFor part image content → (known : Known) → HasChain part known image
    → (place : List ℕ) → IsNumberPlace part place → interval_of part place < known.used
    → IsPlaceThere part known image place
place-there part image content stands known knows place is within =
    let reaches =
    chain-reaches part (λ area. area < area_count part.geometry) (IsFilled part) image
    known (item_read part (at_in part place)) (interval_of part place) stands.part_is stands.chain
    knows within in
    record {
      area = reaches.there;
      item = ap (found_on image) (way-there part place is) ∙ reaches.item;
    }

-- and there is none where it doesn't
pub place-past : (part : Numbered) (image : Image) (content : Content)
    → NumberedStandsFor part image content → (known : Known) → HasChain part known image
    → (place : List ℕ) → known.used ≤ interval_of part place
    → found_on image (numbered_way part place) ≡ None
place-past part image content stands known knows place past = by_place (is_number_place part place)
  where
    way : Way
    way = interval_way part (item_read part (at_in part place)) (interval_of part place)

    by_place : (is : Bool) → found_on image (cond is way (Found None)) ≡ None
    by_place false = refl
    by_place true =
        chain-ends part (λ area. area < area_count part.geometry) (IsFilled part) image known
        (item_read part (at_in part place)) (interval_of part place) stands.chain knows past
