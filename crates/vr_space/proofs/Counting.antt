-- A record that stands where it is kept is counted once.
use Rattle.std.proofs.Common.{◌≡◌, ◌≤◌, ℕ, Bool, true, false, List, [], ◌∷◌, Option, Some, None}
use Rattle.std.proofs.Common.{refl, sym, ap, ◌∙◌, length, map, true≢false}
use Rattle.std.specs.Prelude.{Contains, IfSome, cond}
use Rattle.std.specs.Ordering.{is_le}
use Rattle.vr_types.specs.Content.{place_cmp}
use Rattle.vr_types.specs.Geometry.{area_count}
use Rattle.vr_types.specs.Image.{Block, Image, block_at}
use Rattle.vr_seqset.specs.Entry.{Entry}
use Rattle.vr_space.specs.Way.{found_on}
use Rattle.vr_space.specs.Known.{Known}
use Rattle.vr_types.specs.Content.Item.{Standing}
use Rattle.vr_space.specs.AreaCalls.{item_here}
use Rattle.vr_space.specs.Areas.{KeyedChain, area_for, area_of, areas_in, head_in}
use Rattle.vr_space.specs.Keyed.{HoldRanges, HoldsRange, IsHead, Keyed, entries_of, entry_above}
use Rattle.vr_space.specs.Keyed.{entry_block, entry_for, entry_in, items_of, length_of}
use Rattle.vr_space.specs.Keyed.{lengths_of, low_of, range_of, records_in, way_in}
use Rattle.vr_space.specs.Part.{KeyedShape, NumberedShape, Shape, Stands, fits_at, item_of, room_of}
use Rattle.vr_space.specs.Room.{Lengths, Range, have_room, is_above, is_in, with_length}
use Rattle.vr_space.specs.Room.{with_lengths}
use Rattle.vr_space.specs.Split.{AreaSplit, MoveNow, area_fits, area_stage, can_grow, fits_by}
use Rattle.vr_space.specs.Split.{fits_in, free_interval, keyed_room_by, move_stage, room_after}
use Rattle.vr_space.specs.Split.{room_by, room_by_split, split_in, stage_under}
use Rattle.vr_space.proofs.AreaEnds.{found-between}
use Rattle.vr_space.proofs.LinkedContent.{IsLinkedArea, area-found, area-reached, found-area}
use Rattle.vr_space.proofs.LinkedContent.{item_by, links-in-area}
use Rattle.vr_space.proofs.Keeping.{HasLonger, holds-read, kept-out, kept-stands}
use Rattle.vr_space.proofs.KeyedContent.{AscendFrom, leads-above}
use Rattle.vr_space.proofs.KeyedSound.{head-ascends}
use Rattle.vr_space.proofs.Places.{above-more, in-most, lt_from_test, not_past}

module _ (part : Keyed) (kept : Lengths) (place : List ℕ) (n : ℕ) (image : Image) (other : List ℕ)
  where
    -- what is kept besides takes no room in the interval of an entry
    abbrev pub Counts : Range × Entry → Type 0
    Counts found =
        lengths_of part (with_length kept place n) found.0
        (block_at image (entry_block part found.1))
        ≡ lengths_of part kept found.0 (block_at image (entry_block part found.1))

    counts-out : (range : Range) (block : Block) → is_in range place ≡ false
        → lengths_of part (with_length kept place n) range block ≡ lengths_of part kept range block
    counts-out range block out =
        ap (with_lengths (map length_of (records_in part range block)))
        (kept-out range kept place n out)

    counts-in : (range : Range) (block : Block) → is_in range place ≡ true
        → HoldsRange part range block → HasLonger part place n block
        → lengths_of part (with_length kept place n) range block ≡ lengths_of part kept range block
    counts-in range block inside holds has =
        kept-stands range (map length_of (records_in part range block)) kept place n
        (holds-read part range (items_of block) place has.0 n holds.ascends inside has.1 has.2)

    counts-by : (range : Range) (block : Block) (inside : Bool) → is_in range place ≡ inside
        → HoldsRange part range block
        → (is_in range place ≡ true → HasLonger part place n block)
        → lengths_of part (with_length kept place n) range block ≡ lengths_of part kept range block
    counts-by range block true is holds has = counts-in range block is holds (has is)
    counts-by range block false is holds has = counts-out range block is

    -- where the place isn't above the low bound, it is in none of the ranges
    once-out : (low : List ℕ) (entries : List Entry) → AscendFrom (Some low) entries
        → is_above (Some low) place ≡ false → IfSome (entry_for (Some low) entries other) Counts
    once-out low [] ascend out = tt
    once-out low (entry ∷ entries) ascend out =
        by_test (is_le (place_cmp other entry.high))
        (once-out entry.high entries ascend.1 (not-above (is_above (Some entry.high) place) refl))
      where
        not-above : (above : Bool) → is_above (Some entry.high) place ≡ above
            → is_above (Some entry.high) place ≡ false
        not-above true is =
            absurd (true≢false (sym (above-more (Some low) entry.high place ascend.0 is) ∙ out))
        not-above false is = is

        not-in : (inside : Bool) → is_in (range_of (Some low) entry) place ≡ inside
            → is_in (range_of (Some low) entry) place ≡ false
        not-in true is = absurd (true≢false (sym
            (Rattle.vr_space.proofs.Places.in-above (range_of (Some low) entry) place is) ∙ out))
        not-in false is = is

        by_test : (reaches : Bool) → IfSome (entry_for (Some entry.high) entries other) Counts
            → IfSome (cond reaches (Some (range_of (Some low) entry, entry))
            (entry_for (Some entry.high) entries other)) Counts
        by_test true further = counts-out (range_of (Some low) entry)
            (block_at image (entry_block part entry))
            (not-in (is_in (range_of (Some low) entry) place) refl)
        by_test false further = further

    once : (low : Option (List ℕ)) (entries : List Entry) → AscendFrom low entries
        → HoldRanges part image low entries
        → ((at : Range × Entry) → entry_for low entries place ≡ Some at
        → HasLonger part place n (block_at image (entry_block part at.1)))
        → IfSome (entry_for low entries other) Counts
    once low [] ascend holds found = tt
    once low (entry ∷ entries) ascend holds found =
        by_test (is_le (place_cmp other entry.high))
        (by_place (is_le (place_cmp place entry.high)) refl found
        (λ below. once (Some entry.high) entries ascend.1 holds.1 below))
      where
        not-lt : is_le (place_cmp place entry.high) ≡ true → (above : Bool)
            → is_above (Some entry.high) place ≡ above → is_above (Some entry.high) place ≡ false
        not-lt most true is =
            absurd (not_past place entry.high most (lt_from_test (place_cmp entry.high place) is))
        not-lt most false is = is

        by_place : (reaches : Bool) → is_le (place_cmp place entry.high) ≡ reaches
            → ((at : Range × Entry)
            → cond reaches (Some (range_of low entry, entry))
            (entry_for (Some entry.high) entries place) ≡ Some at
            → HasLonger part place n (block_at image (entry_block part at.1)))
            → (((at : Range × Entry) → entry_for (Some entry.high) entries place ≡ Some at
            → HasLonger part place n (block_at image (entry_block part at.1)))
            → IfSome (entry_for (Some entry.high) entries other) Counts)
            → IfSome (entry_for (Some entry.high) entries other) Counts
        by_place true is here further = once-out entry.high entries ascend.1
            (not-lt is (is_above (Some entry.high) place) refl)
        by_place false is here further = further here

        by_test : (reaches : Bool) → IfSome (entry_for (Some entry.high) entries other) Counts
            → IfSome (cond reaches (Some (range_of low entry, entry))
            (entry_for (Some entry.high) entries other)) Counts
        by_test true further = counts-by (range_of low entry)
            (block_at image (entry_block part entry))
            (is_in (range_of low entry) place) refl holds.0
            (λ inside. found (range_of low entry, entry)
            (ap (λ (reaches : Bool). cond reaches (Some (range_of low entry, entry))
            (entry_for (Some entry.high) entries place))
            (in-most (range_of low entry) place inside)))
        by_test false further = further

    -- wherever the other is
    once-any : (low : Option (List ℕ)) (entries : List Entry) → AscendFrom low entries
        → HoldRanges part image low entries
        → ((at : Range × Entry) → entry_above low entries place ≡ Some at
        → HasLonger part place n (block_at image (entry_block part at.1)))
        → IfSome (entry_above low entries other) Counts
    once-any low entries ascend holds found =
        by_other (is_above low other) (by_place (is_above low place) refl)
      where
        below : (bound : Option (List ℕ)) → AscendFrom bound entries
            → is_above bound place ≡ false → IfSome (entry_for bound entries other) Counts
        below None rises out = absurd (true≢false out)
        below (Some bound) rises out = once-out bound entries rises out

        by_place : (b : Bool) → is_above low place ≡ b
            → IfSome (entry_for low entries other) Counts
        by_place true above = once low entries ascend holds
            (λ at leads. found at (leads-above low entries place above ∙ leads))
        by_place false out = below low ascend out

        by_other : (b : Bool) → IfSome (entry_for low entries other) Counts
            → IfSome (cond b (entry_for low entries other) None) Counts
        by_other true counts = counts
        by_other false counts = tt

    fits-once : (m : ℕ) (found : Option (Range × Entry)) → IfSome found Counts
        → fits_in part image (with_length kept place n) other m found
        ≡ fits_in part image kept other m found
    fits-once m None counts = refl
    fits-once m (Some found) counts =
        ap (λ (lengths : Lengths). have_room part.size (with_length lengths other m)) counts

-- the same of an area, where the record stands if its place is one of its own
pub area-fits-once : (part : Keyed) (image : Image) (kept : Lengths) (place bytes : List ℕ) (n : ℕ)
    → IsHead part (block_at image part.head)
    → HoldRanges part image (low_of (block_at image part.head))
    (entries_of (block_at image part.head))
    → ((at : Range × Entry) → entry_in (block_at image part.head) place ≡ Some at
    → item_here part image place ≡ Some (Standing bytes))
    → n ≤ length bytes → (other : List ℕ) (m : ℕ)
    → area_fits part image (with_length kept place n) other m ≡ area_fits part image kept other m
area-fits-once part image kept place bytes n head holds stands most other m =
    let top : Block = block_at image part.head in
    fits-once part kept place n image other m (entry_in top other)
    (once-any part kept place n image other (low_of top) (entries_of top)
    (head-ascends part top head) holds
    (λ at leads. (
      bytes,
      sym (ap (λ (o : Option (Range × Entry)). found_on image (way_in part place o)) leads)
          ∙ stands at leads,
      most,
    )))

module _ (part : KeyedChain) (image : Image) (kept : Lengths) (place bytes : List ℕ) (n : ℕ)
    (stands : Stands (KeyedShape part) image)
    (is : item_of (KeyedShape part) image place ≡ Some (Standing bytes)) (most : n ≤ length bytes)
  where
    abbrev count : ℕ
    count = area_count part.geometry

    -- the place comes to the area where an entry of its head has it
    here : (area : ℕ) → Contains (areas_in part image) area → (at : Range × Entry)
        → entry_in (head_in part image area) place ≡ Some at
        → item_here (area_of part area) image place ≡ Some (Standing bytes)
    here area inside at leads =
        let linked : IsLinkedArea part image area =
        links-in-area part image count part.first None stands.1.chain area inside in
        let between = found-between (area_of part area) (head_in part image area)
        linked.stands.head place at leads in
        sym (ap (item_by part image place) (area-reached part image place count part.first None
        stands.1.chain area inside between.0 between.1))
        ∙ sym (found-area part image place count part.first) ∙ is

    by_area : (other : List ℕ) (m area : ℕ) → area_for part image other ≡ Some area
        → area_fits (area_of part area) image (with_length kept place n) other m
        ≡ area_fits (area_of part area) image kept other m
    by_area other m area found =
        let inside : Contains (areas_in part image) area =
        (area-found part image other count part.first None stands.1.chain refl area found).inside in
        let linked : IsLinkedArea part image area =
        links-in-area part image count part.first None stands.1.chain area inside in
        area-fits-once (area_of part area) image kept place bytes n linked.stands.head
        linked.stands.intervals (here area inside) most other m

    keyed-fits-once : (other : List ℕ) (m : ℕ) (found : Option ℕ)
        → area_for part image other ≡ found
        → fits_by part image (with_length kept place n) other m found
        ≡ fits_by part image kept other m found
    keyed-fits-once other m None found = refl
    keyed-fits-once other m (Some area) found = by_area other m area found

    keyed-room-once : (split : Option AreaSplit) (move : Option MoveNow) (free : ℕ)
        (other : List ℕ) (m : ℕ) (found : Option ℕ) → area_for part image other ≡ found
        → keyed_room_by part split move image free (with_length kept place n) other m found
        ≡ keyed_room_by part split move image free kept other m found
    keyed-room-once split move free other m None found = refl
    keyed-room-once split move free other m (Some area) found =
        let one = area_of part area in
        ap (λ (fits : Bool). room_after (move_stage move area)
        (room_after (area_stage one (split_in split area) image other)
        (room_by fits (room_by_split (stage_under split move)
        (free_interval one (block_at image one.head))
        (can_grow free (block_at image one.head))))))
        (by_area other m area found)

-- ---- the law

-- A record that is kept and stands takes no room beside what stands.
pub kept_fits : (shape : Shape) (image : Image) (kept : Lengths) (place bytes : List ℕ) (n : ℕ)
    → Stands shape image → item_of shape image place ≡ Some (Standing bytes) → n ≤ length bytes
    → (known : Known) (other : List ℕ) (m : ℕ)
    → fits_at shape known image (with_length kept place n) other m
    ≡ fits_at shape known image kept other m
kept_fits (KeyedShape part) image kept place bytes n stands is most known other m =
    keyed-fits-once part image kept place bytes n stands is most other m
    (area_for part image other) refl
kept_fits (NumberedShape part) image kept place bytes n stands is most known other m = refl

-- It stands in the way of no other record.
pub kept_room : (shape : Shape) (image : Image) (kept : Lengths) (place bytes : List ℕ) (n : ℕ)
    → Stands shape image → item_of shape image place ≡ Some (Standing bytes) → n ≤ length bytes
    → (known : Known) (free : ℕ) (other : List ℕ) (m : ℕ)
    → room_of shape known image free (with_length kept place n) other m
    ≡ room_of shape known image free kept other m
kept_room (KeyedShape part) image kept place bytes n stands is most known free other m =
    keyed-room-once part image kept place bytes n stands is most known.split known.move free other
    m (area_for part image other) refl
kept_room (NumberedShape part) image kept place bytes n stands is most known free other m = refl
