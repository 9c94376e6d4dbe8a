-- The content of an area of a keyed part: entry by entry, and the way to a place.
use Rattle.std.proofs.Common.{◌≡◌, ℕ, Bool, true, false, List, [], ◌∷◌, ◌++◌, Option, Some, None}
use Rattle.std.proofs.Common.{refl, ap, ◌∙◌, true≢false}
use Rattle.std.specs.Prelude.{cond}
use Rattle.std.specs.Ordering.{is_le, is_lt}
use Rattle.vr_types.specs.Content.{Content, place_cmp, item_at}
use Rattle.vr_types.specs.Image.{Block, Image, block_at}
use Rattle.vr_seqset.specs.Entry.{Entry}
use Rattle.vr_space.specs.Way.{found_on}
use Rattle.vr_space.specs.Room.{Range, is_above}
use Rattle.vr_space.specs.Keyed.{Keyed, entry_block, records_of, records_in, range_of, content_from}
use Rattle.vr_space.specs.Keyed.{entry_above, entry_for}
use Rattle.vr_space.specs.Keyed.{way_in}
use Rattle.vr_space.proofs.Places.{AllAbove, record-left, record-right, record-filter, none-filter}
use Rattle.vr_space.proofs.Places.{above-append, above-weaken, above-filter, none-above, in-both}
use Rattle.vr_space.proofs.Places.{in-past, is_past, none-record, not_above}

-- high places ascend, the first above this one
abbrev pub AscendFrom : Option (List ℕ) → List Entry → Type 0
AscendFrom low [] = Unit {0}
AscendFrom low (entry ∷ entries) = (is_above low entry.high ≡ true)
    × AscendFrom (Some entry.high) entries

-- all places of the content are above it
pub content-above : (part : Keyed) (image : Image) (low : Option (List ℕ)) (entries : List Entry)
    → AscendFrom low entries → AllAbove low (content_from part image low entries)
content-above part image low [] ascend = tt
content-above part image low (entry ∷ entries) ascend =
    above-append low
    (records_in part (range_of low entry) (block_at image (entry_block part entry)))
    (content_from part image (Some entry.high) entries)
    (above-filter (range_of low entry) (records_of part (block_at image (entry_block part entry))))
    (above-weaken low entry.high (content_from part image (Some entry.high) entries) ascend.0
    (content-above part image (Some entry.high) entries ascend.1))

-- the content's item at a place is the one that the way leads to
pub way-content : (part : Keyed) (image : Image) (low : Option (List ℕ)) (entries : List Entry)
    (place : List ℕ) → AscendFrom low entries → is_above low place ≡ true
    → item_at (content_from part image low entries) place ≡ found_on image
    (way_in part place (entry_for low entries place))
way-content part image low [] place ascend above = refl
way-content part image low (entry ∷ entries) place ascend above =
    reached (is_le (place_cmp place entry.high)) refl
    (λ past. way-content part image (Some entry.high) entries place ascend.1 past)
  where
    block : Block
    block = block_at image (entry_block part entry)

    first : Content
    first = records_in part (range_of low entry) block

    further : Content
    further = content_from part image (Some entry.high) entries

    reached : (b : Bool) → is_le (place_cmp place entry.high) ≡ b
        → (is_above (Some entry.high) place ≡ true
        → item_at further place ≡ found_on image
        (way_in part place (entry_for (Some entry.high) entries place)))
        → item_at (first
        ++ further) place ≡ found_on image
        (way_in part place
        (cond b (Some (range_of low entry, entry)) (entry_for (Some entry.high) entries place)))
    reached true is more =
        record-left first further place
        (none-above entry.high place further is
        (content-above part image (Some entry.high) entries ascend.1))
        ∙ record-filter (range_of low entry) (records_of part block) place
        (in-both (range_of low entry) place above is)
    reached false is more =
        record-right first further place
        (none-filter (range_of low entry) (records_of part block) place
        (in-past (range_of low entry) place is))
        ∙ more (ap is_lt (is_past place entry.high is))

-- ---- places above the low one

-- it is where an entry is found above it
pub record IsFoundAbove (low : Option (List ℕ)) (entries : List Entry) (place : List ℕ)
    (at : Range × Entry) : Type 0 where
  pub above : is_above low place ≡ true
  pub leads : entry_for low entries place ≡ Some at

pub found-above : (low : Option (List ℕ)) (entries : List Entry) (place : List ℕ)
    (at : Range × Entry) → entry_above low entries place ≡ Some at
    → IsFoundAbove low entries place at
found-above low entries place at = by_test (is_above low place) refl
  where
    by_test : (b : Bool) → is_above low place ≡ b
        → cond b (entry_for low entries place) None ≡ Some at → IsFoundAbove low entries place at
    by_test true above leads = record { above = above; leads = leads }
    by_test false above leads = absurd cc

-- and there it is found as where each place is above
pub leads-above : (low : Option (List ℕ)) (entries : List Entry) (place : List ℕ)
    → is_above low place ≡ true → entry_above low entries place ≡ entry_for low entries place
leads-above low entries place above =
    ap (λ (b : Bool). cond b (entry_for low entries place) None) above

-- the content's item at a place is the one that the way over the area leads to
pub area-content : (part : Keyed) (image : Image) (low : Option (List ℕ)) (entries : List Entry)
    (place : List ℕ) → AscendFrom low entries
    → item_at (content_from part image low entries) place ≡ found_on image
    (way_in part place (entry_above low entries place))
area-content part image low entries place ascend = by_test (is_above low place) refl
  where
    below : (bound : Option (List ℕ)) → AscendFrom bound entries → is_above bound place ≡ false
        → item_at (content_from part image bound entries) place ≡ None
    below None rises out = absurd (true≢false out)
    below (Some bound) rises out = none-record place (content_from part image (Some bound) entries)
        (none-above bound place (content_from part image (Some bound) entries)
        (not_above bound place out) (content-above part image (Some bound) entries rises))

    by_test : (b : Bool) → is_above low place ≡ b
        → item_at (content_from part image low entries) place ≡ found_on image
        (way_in part place (cond b (entry_for low entries place) None))
    by_test true above = way-content part image low entries place ascend above
    by_test false out = below low ascend out
