-- The items of a part's content: each is a record that may stand at its place.
use Rattle.std.proofs.Common.{◌≡◌, ℕ, List, [], ◌∷◌, ◌++◌, Option, Some, None, refl, ap, ◌∙◌, map}
use Rattle.std.proofs.Common.{◌+◌, arith, subst, sym}
use Rattle.std.specs.Prelude.{filter, cond, All, Bool, true, false}
use Rattle.std.specs.declared.cmp.Ordering.{Ordering}
use Rattle.std.specs.declared.cmp.Ordering.TheVariants.{Less, Equal, Greater}
use Rattle.std.proofs.lemmas.List.Elements.{All-head, All-tail}
use Rattle.vr_types.specs.Content.{Content, Placed, Standing, place_cmp, found_by, item_at}
use Rattle.vr_types.specs.Geometry.{area_count}
use Rattle.vr_types.specs.Image.{Image, block_at}
use Rattle.vr_types.proofs.CallerLemmas.{same_place}
use Rattle.vr_ci.specs.Interval as ci
use Rattle.vr_seqset.specs.Entry.{Entry}
use Rattle.vr_space.specs.Room.{Range, is_in}
use Rattle.vr_space.specs.Areas.{ChainStandsFor, KeyedChain, area_of, head_in}
use Rattle.vr_space.specs.Keyed.{HoldRanges, IsKept, IsValid, content_from, entries_of, entry_block}
use Rattle.vr_space.specs.Keyed.{items_of, low_of, placed, range_of, records_in}
use Rattle.vr_space.specs.Numbered.{start_of}
use Rattle.vr_space.specs.Part.{IsRecordOf, KeyedShape, NumberedShape, Shape, StandsFor}
use Rattle.vr_space.proofs.LinkedContent.{content-each}
use Rattle.vr_space.proofs.Numbers.{numbers-below, span_up}
use Rattle.vr_space.proofs.NumberedReads.{numbered-record, stands-numbered}

-- a record that may stand at this place
abbrev IsRecordAt : KeyedChain → Placed → Type 0
IsRecordAt part entry =
    (bytes : List ℕ) × (entry.1 ≡ Standing bytes) × IsRecordOf (KeyedShape part) entry.0 bytes

-- each item is one
abbrev AreRecords : KeyedChain → Content → Type 0
AreRecords part [] = Unit {0}
AreRecords part (entry ∷ content) = IsRecordAt part entry × AreRecords part content

append-records : (part : KeyedChain) (one other : Content) → AreRecords part one
    → AreRecords part other → AreRecords part (one ++ other)
append-records part [] other first second = second
append-records part (entry ∷ one) other first second =
    (first.0, append-records part one other first.1 second)

filter-records : (part : KeyedChain) (range : Range) (content : Content) → AreRecords part content
    → AreRecords part (filter (λ (entry : Placed). is_in range entry.0) content)
filter-records part range [] all = tt
filter-records part range (entry ∷ content) all =
    by_test (is_in range entry.0) (filter-records part range content all.1)
  where
    rest : Content
    rest = filter (λ (other : Placed). is_in range other.0) content

    by_test : (test : Bool) → AreRecords part rest → AreRecords part (cond test (entry ∷ rest) rest)
    by_test true further = (all.0, further)
    by_test false further = further

-- of whichever area
placed-records : (part : KeyedChain) (area : ℕ) (items : List ci.Item)
    → All (IsKept (area_of part area)) items
    → AreRecords part (map (placed (area_of part area)) items)
placed-records part area [] kept = tt
placed-records part area (item ∷ items) kept =
    let valid : IsValid (area_of part area) item.bytes =
    (All-head (IsKept (area_of part area)) item items kept).valid in (
      (item.bytes, refl, (record { least = valid.least; most = valid.most }, refl)),
      placed-records part area items (All-tail (IsKept (area_of part area)) item items kept),
    )

from-records : (part : KeyedChain) (area : ℕ) (image : Image) (low : Option (List ℕ))
    (entries : List Entry) → HoldRanges (area_of part area) image low entries
    → AreRecords part (content_from (area_of part area) image low entries)
from-records part area image low [] hold = tt
from-records part area image low (entry ∷ entries) hold =
    let one = area_of part area in
    let block = block_at image (entry_block one entry) in
    append-records part (records_in one (range_of low entry) block)
    (content_from one image (Some entry.high) entries)
    (filter-records part (range_of low entry) _
    (placed-records part area (items_of block) hold.0.kept))
    (from-records part area image (Some entry.high) entries hold.1)

content-records : (part : KeyedChain) (image : Image) (content : Content)
    → ChainStandsFor part image content → AreRecords part content
content-records part image content stands = subst (AreRecords part) (sym stands.records)
    (content-each (AreRecords part) tt (append-records part) part image
    (λ area is. from-records part area image (low_of (head_in part image area))
    (entries_of (head_in part image area)) is.stands.intervals)
    (area_count part.geometry) part.first None stands.chain)

read-record : (part : KeyedChain) (content : Content) (place bytes : List ℕ) → AreRecords part
    content
    → item_at content place ≡ Some (Standing bytes) → IsRecordOf (KeyedShape part) place bytes
read-record part [] place bytes all is = absurd (cc)
read-record part (entry ∷ content) place bytes all is =
    by_order (place_cmp place entry.0) refl is
    (λ found. read-record part content place bytes all.1 found)
  where
    by_order : (order : Ordering) → place_cmp place entry.0 ≡ order
        → found_by order (Some entry.1) (item_at content place) ≡ Some (Standing bytes)
        → (item_at content place ≡ Some (Standing bytes) → IsRecordOf (KeyedShape part) place bytes)
        → IsRecordOf (KeyedShape part) place bytes
    by_order Less same found further = further found
    by_order Equal same found further =
        let there : Some (Standing all.0.0) ≡ Some (Standing bytes) =
        sym (ap Some all.0.1) ∙ found in
        let one : all.0.0 ≡ bytes = cc in
        subst (λ (q : List ℕ). IsRecordOf (KeyedShape part) q bytes)
        (sym (same_place place entry.0 same))
        (subst (IsRecordOf (KeyedShape part) entry.0) one all.0.2)
    by_order Greater same found further = further found

-- a record that is at a place of a content that blocks stand for may stand there
pub record-read : (shape : Shape) (image : Image) (content : Content)
    → StandsFor shape image content → (place bytes : List ℕ)
    → item_at content place ≡ Some (Standing bytes) → IsRecordOf shape place bytes
record-read (KeyedShape part) image content stands place bytes is =
    read-record part content place bytes (content-records part image content stands) is
record-read (NumberedShape part) image content stands place bytes is =
    let start = start_of part in
    numbered-record part start (start + span_up part (area_count part.geometry)) content place bytes
    (omega arith) (omega (arith, numbers-below part stands.part_is))
    (stands-numbered part image content stands) is
