-- Where a record is read, the place is one of the part.
use Rattle.std.proofs.Common.{◌≡◌, ℕ, Bool, true, false, List, [], ◌∷◌, ◌++◌, map, All}
use Rattle.std.proofs.Common.{Option, Some, None, refl, sym, ap, ◌∙◌, arith, length, drop}
use Rattle.std.specs.Prelude.{◌≢◌, cond, filter, option_and_then}
use Rattle.std.specs.List.{AllByRecursion}
use Rattle.std.specs.declared.cmp.Ordering.{Ordering}
use Rattle.std.specs.declared.cmp.Ordering.TheVariants.{Less, Equal, Greater}
use Rattle.std.proofs.lemmas.List.{length-drop, length-take-le}
use Rattle.std.proofs.lemmas.List.Elements.{All-head, All-tail}
use Rattle.vr_types.specs.Content.{Content, Item, Placed, found_by, item_at, place_cmp, record_of}
use Rattle.vr_types.specs.Geometry.{area_count}
use Rattle.vr_types.specs.Image.{Image, block_at}
use Rattle.vr_types.proofs.CallerLemmas.{same_place}
use Rattle.vr_ci.specs.Interval as ci
use Rattle.vr_seqset.specs.Entry.{Entry}
use Rattle.vr_space.specs.Room.{Range, is_in}
use Rattle.vr_space.specs.Areas.{ChainStandsFor, KeyedChain, area_of, content_after, head_in}
use Rattle.vr_space.specs.Keyed.{HoldRanges, IsKept, Keyed, content_from, entries_of, entry_block}
use Rattle.vr_space.specs.Keyed.{items_of, key_of, low_of, placed, range_of, records_in}
use Rattle.vr_space.specs.Part.{IsPlaceOf, KeyedShape, NumberedShape, Shape, Stands, item_of}
use Rattle.vr_space.specs.Part.{record_read}
use Rattle.vr_space.proofs.Adding.{content_item}
use Rattle.vr_space.proofs.LinkedContent.{content-each}
use Rattle.vr_space.proofs.NumberedReads.{found-place}

-- the place is as long as the keys
abbrev HasKey : ℕ → Placed → Type 0
HasKey key entry = length entry.0 ≡ key

keys-both : (key : ℕ) (xs ys : Content) → AllByRecursion (HasKey key) xs
    → AllByRecursion (HasKey key) ys → AllByRecursion (HasKey key) (xs ++ ys)
keys-both key [] ys left right = right
keys-both key (entry ∷ xs) ys left right = (left.0, keys-both key xs ys left.1 right)

keys-in : (part : Keyed) (range : Range) (items : List ci.Item) → All (IsKept part) items
    → AllByRecursion (HasKey part.key)
    (filter (λ (entry : Placed). is_in range entry.0) (map (placed part) items))
keys-in part range [] all = tt
keys-in part range (item ∷ items) all =
    kept (is_in range (key_of part item.bytes))
    (keys-in part range items (All-tail (IsKept part) item items all))
  where
    rest : Content
    rest = filter (λ (other : Placed). is_in range other.0) (map (placed part) items)

    is : IsKept part item
    is = All-head (IsKept part) item items all

    long : length (key_of part item.bytes) ≡ part.key
    long = length-take-le part.key (drop part.offset item.bytes)
        (omega (arith, length-drop part.offset item.bytes, is.valid.least))

    kept : (b : Bool) → AllByRecursion (HasKey part.key) rest
        → AllByRecursion (HasKey part.key) (cond b (placed part item ∷ rest) rest)
    kept true more = (long, more)
    kept false more = more

content-keys : (part : Keyed) (image : Image) (low : Option (List ℕ)) (entries : List Entry)
    → HoldRanges part image low entries
    → AllByRecursion (HasKey part.key) (content_from part image low entries)
content-keys part image low [] hold = tt
content-keys part image low (entry ∷ entries) hold =
    keys-both part.key
    (records_in part (range_of low entry) (block_at image (entry_block part entry)))
    (content_from part image (Some entry.high) entries)
    (keys-in part (range_of low entry) (items_of (block_at image (entry_block part entry)))
    hold.0.kept)
    (content-keys part image (Some entry.high) entries hold.1)

chain-keys : (part : KeyedChain) (image : Image) → {content : Content}
    → ChainStandsFor part image content
    → AllByRecursion (HasKey part.key)
    (content_after part image (area_count part.geometry) part.first)
chain-keys part image stands = content-each (AllByRecursion (HasKey part.key)) tt
    (keys-both part.key) part image
    (λ area is. content-keys (area_of part area) image (low_of (head_in part image area))
    (entries_of (head_in part image area)) is.stands.intervals)
    (area_count part.geometry) part.first None stands.chain

-- what stands at a place of a content has the length of its keys
found-key : (key : ℕ) (content : Content) (place : List ℕ) → AllByRecursion (HasKey key) content
    → (item : Item) → item_at content place ≡ Some item → length place ≡ key
found-key key [] place all item is = absurd cc
found-key key (entry ∷ content) place all item is =
    by_order (place_cmp place entry.0) refl is (found-key key content place all.1 item)
  where
    by_order : (order : Ordering) → place_cmp place entry.0 ≡ order
        → found_by order (Some entry.1) (item_at content place) ≡ Some item
        → (item_at content place ≡ Some item → length place ≡ key) → length place ≡ key
    by_order Less at found further = further found
    by_order Equal at found further =
        ap (λ (p : List ℕ). length p) (same_place place entry.0 at) ∙ all.0
    by_order Greater at found further = further found

-- a record is read at places of the part alone
pub read-place : (shape : Shape) (image : Image) (place : List ℕ) → Stands shape image
    → record_read shape image place ≢ None → IsPlaceOf shape place
read-place (KeyedShape part) image place stands some =
    by_item (item_of (KeyedShape part) image place) refl
  where
    by_item : (item : Option Item) → item_of (KeyedShape part) image place ≡ item
        → length place ≡ part.key
    by_item None is =
        absurd (some (ap (λ (item : Option Item). option_and_then record_of item) is))
    by_item (Some item) is =
        found-key part.key (content_after part image (area_count part.geometry) part.first) place
        (chain-keys part image stands.1) item
        (sym (ap (λ (content : Content). item_at content place) stands.1.records)
        ∙ content_item (KeyedShape part) image stands.0 stands.1 place ∙ is)
read-place (NumberedShape part) image place stands some =
    found-place part image place
    (λ none. some (ap (λ (item : Option Item). option_and_then record_of item) none))
