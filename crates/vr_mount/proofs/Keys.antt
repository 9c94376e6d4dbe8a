-- A place with a record has the length of the part's places.
use Rattle.std.proofs.Common.{◌≡◌, ℕ, Bool, true, false, List, [], ◌∷◌, ◌++◌, map, Option, Some}
use Rattle.std.proofs.Common.{None, refl, sym, ap, subst, ◌∙◌, length, drop, arith}
use Rattle.std.proofs.lemmas.List.{length-take, length-drop}
use Rattle.std.proofs.lemmas.List.Elements.{All-head, All-tail}
use Rattle.std.specs.Prelude.{All, filter, cond, option_and_then}
use Rattle.vr_types.specs.Content.{Content, Item, Placed, record_of}
use Rattle.vr_types.specs.Geometry.{area_count}
use Rattle.vr_types.specs.Image.{Image, block_at}
use Rattle.vr_types.proofs.CallerLemmas.{length-four, same_place}
use Rattle.vr_ci.specs.Interval as ci
use Rattle.vr_seqset.specs.Entry.{Entry}
use Rattle.vr_space.specs.Room.{Range, is_in}
use Rattle.vr_space.specs.Keyed.{Keyed, HoldRanges, IsKept, entry_block, entries_of, items_of}
use Rattle.vr_space.specs.Keyed.{low_of, placed, records_of, records_in, range_of, content_from}
use Rattle.vr_space.specs.Part.{Shape, KeyedShape, NumberedShape, Stands, record_read}
use Rattle.vr_space.specs.Part.{place_length}
use Rattle.vr_space.specs.Rosters.{Numbered}
use Rattle.vr_space.specs.Numbered.{IsNumberPlace, number_of, numbered_way}
use Rattle.vr_space.specs.Way.{found_on}
use Rattle.vr_space.specs.Areas.{area_of, head_in}
use Rattle.vr_space.proofs.CallerLemmas.{NoneAt, content-each, content_item, found-place}
use Rattle.vr_space.proofs.CallerLemmas.{none-record}

-- each place has this many bytes
abbrev AreKeys : ℕ → Content → Type 0
AreKeys n [] = Unit {0}
AreKeys n (entry ∷ content) = (length entry.0 ≡ n) × AreKeys n content

keys-placed : (part : Keyed) (items : List ci.Item) → All (IsKept part) items
    → AreKeys part.key (map (placed part) items)
keys-placed part [] kept = tt
keys-placed part (item ∷ items) kept =
    let first : IsKept part item = All-head (IsKept part) item items kept in (
      omega (
        arith,
        first.valid.least,
        length-take part.key (drop part.offset item.bytes),
        length-drop part.offset item.bytes,
      ),
      keys-placed part items (All-tail (IsKept part) item items kept),
    )

keys-filter : (n : ℕ) (range : Range) (xs : Content) → AreKeys n xs
    → AreKeys n (filter (λ (entry : Placed). is_in range entry.0) xs)
keys-filter n range [] keys = tt
keys-filter n range (entry ∷ xs) keys =
    kept (is_in range entry.0) (keys-filter n range xs keys.1)
  where
    rest : Content
    rest = filter (λ (other : Placed). is_in range other.0) xs

    kept : (b : Bool) → AreKeys n rest → AreKeys n (cond b (entry ∷ rest) rest)
    kept true more = (keys.0, more)
    kept false more = more

keys-append : (n : ℕ) (xs ys : Content) → AreKeys n xs → AreKeys n ys → AreKeys n (xs ++ ys)
keys-append n [] ys left right = right
keys-append n (entry ∷ xs) ys left right = (left.0, keys-append n xs ys left.1 right)

keys-content : (part : Keyed) (image : Image) (low : Option (List ℕ)) (entries : List Entry)
    → HoldRanges part image low entries → AreKeys part.key (content_from part image low entries)
keys-content part image low [] hold = tt
keys-content part image low (entry ∷ entries) hold =
    let block = block_at image (entry_block part entry) in
    keys-append part.key (records_in part (range_of low entry) block)
    (content_from part image (Some entry.high) entries)
    (keys-filter part.key (range_of low entry) (records_of part block)
    (keys-placed part (items_of block) hold.0.kept))
    (keys-content part image (Some entry.high) entries hold.1)

none_of : (n : ℕ) (content : Content) (place : List ℕ) → AreKeys n content
    → (length place ≡ n → ⊥) → NoneAt place content
none_of n [] place keys other = tt
none_of n (entry ∷ content) place keys other = (
  λ same. other (ap (λ (p : List ℕ). length p) (same_place place entry.0 same) ∙ keys.0),
  none_of n content place keys.1 other,
)

-- the number at a place has four bytes
none_numbered : (part : Numbered) (image : Image) (place : List ℕ) → (length place ≡ 4 → ⊥)
    → (found : Option Item) → found_on image (numbered_way part place) ≡ found → found ≡ None
none_numbered part image place other None is = refl
none_numbered part image place other (Some item) is =
    let there : IsNumberPlace part place =
    found-place part image place (λ none. some-none (sym is ∙ none)) in
    absurd (other (ap length there.bytes ∙ length-four (number_of place)))
  where
    some-none : Some item ≡ None → ⊥
    some-none same = cc

-- a place of another length has no record
pub none_elsewhere : (shape : Shape) (image : Image) → Stands shape image → (place : List ℕ)
    → (length place ≡ place_length shape → ⊥) → record_read shape image place ≡ None
none_elsewhere (KeyedShape part) image stands place other =
    let content = stands.0 in
    let keys : AreKeys part.key content =
    subst (AreKeys part.key) (sym stands.1.records)
    (content-each (AreKeys part.key) tt (keys-append part.key) part image
    (λ at linked. keys-content (area_of part at) image (low_of (head_in part image at))
    (entries_of (head_in part image at)) linked.stands.intervals)
    (area_count part.geometry) part.first None stands.1.chain) in
    ap (option_and_then record_of)
    (sym (content_item (KeyedShape part) image content stands.1 place)
    ∙ none-record place content (none_of part.key content place keys other))
none_elsewhere (NumberedShape part) image stands place other = ap (option_and_then record_of)
    (none_numbered part image place other (found_on image (numbered_way part place)) refl)
