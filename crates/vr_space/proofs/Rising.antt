-- The places of a content that blocks stand for ascend.
use Rattle.std.proofs.Common.{◌≡◌, ℕ, Bool, true, false, List, [], ◌∷◌, ◌++◌, map, Option, Some}
use Rattle.std.proofs.Common.{None, refl, sym, ap, subst, ◌∙◌, true≢false, zero, suc, arith, length}
use Rattle.std.proofs.Common.{◌+◌, ◌^◌, ◌<◌, ◌≤◌}
use Rattle.std.specs.Prelude.{filter, cond}
use Rattle.std.specs.List.{AllByRecursion}
use Rattle.std.specs.List.Sorted.{IsStrictlySortedBy}
use Rattle.std.specs.Ordering.{is_le, is_lt}
use Rattle.std.specs.declared.cmp.Ordering.{Ordering}
use Rattle.std.specs.declared.cmp.Ordering.TheVariants.{Less, Equal, Greater}
use Rattle.std.proofs.lemmas.List.Elements.{All-from_recursion}
use Rattle.std.proofs.lemmas.Map.Keys.{sorted_head, sorted_tail}
use Rattle.vr_types.specs.Content.{Content, Placed, place_cmp, places_of, Ascends, HasLength}
use Rattle.vr_types.specs.Content.{IsContent}
use Rattle.vr_types.specs.Content.{Item}
use Rattle.vr_types.specs.Content.Item.{Standing, Withdrawn}
use Rattle.vr_types.specs.Fields.{four}
use Rattle.vr_types.specs.Geometry.{area_count}
use Rattle.vr_types.specs.Image.{Block, Image, block_at}
use Rattle.vr_types.proofs.CallerLemmas.{same_place}
use Rattle.vr_ci.specs.Interval as ci
use Rattle.vr_seqset.specs.Entry.{Entry}
use Rattle.vr_seqset.specs.Reading.{record_in}
use Rattle.vr_space.specs.Room.{Range, is_in, is_above}
use Rattle.vr_space.specs.Keyed.{Keyed, HoldRanges, entry_block, entries_of, items_of, key_of}
use Rattle.vr_space.specs.Keyed.{placed, records_of, records_in, range_of, content_from}
use Rattle.vr_space.specs.Keyed.{last_high, low_of}
use Rattle.vr_space.specs.Areas.{IsFollowed, KeyedChain, LinksIn, area_of, content_after, end_of}
use Rattle.vr_space.specs.Areas.{head_in}
use Rattle.vr_space.specs.Numbered.{start_of}
use Rattle.vr_space.specs.Part.{Shape, KeyedShape, NumberedShape, StandsFor}
use Rattle.vr_space.specs.Rosters.{Numbered, after_next}
use Rattle.vr_space.proofs.AreaEnds.{end-above, has-end}
use Rattle.vr_space.proofs.LinkedContent.{content-each, linked-content-above}
use Rattle.vr_space.proofs.Places.{AllAbove, above-more, in-most, lt_from_test}
use Rattle.vr_space.proofs.KeyedContent.{AscendFrom, content-above}
use Rattle.vr_space.proofs.KeyedSound.{head-ascends}
use Rattle.vr_space.proofs.NumberedContent.{AreItemsOf, IsItemBy}
use Rattle.vr_space.proofs.Numbers.{four-rises, numbers-below, span_up}
use Rattle.vr_space.proofs.NumberedReads.{stands-numbered}

-- each place is above those before it
abbrev pub Rising : Content → Type 0
Rising [] = Unit {0}
Rising (entry ∷ content) = AllAbove (Some entry.0) content × Rising content

above-by : (p : List ℕ) (content : Content)
    → AllByRecursion (λ y. place_cmp p y ≡ Less) (places_of content) → AllAbove (Some p) content
above-by p [] all = tt
above-by p (entry ∷ content) all = (ap is_lt all.0, above-by p content all.1)

pub rising-sorted : (content : Content) → Ascends content → Rising content
rising-sorted [] sorted = tt
rising-sorted (entry ∷ content) sorted = (
  above-by entry.0 content (sorted_head place_cmp entry.0 (places_of content) sorted),
  rising-sorted content (sorted_tail place_cmp entry.0 (places_of content) sorted),
)

back-above : (p : List ℕ) (content : Content) → AllAbove (Some p) content
    → AllByRecursion (λ y. place_cmp p y ≡ Less) (places_of content)
back-above p [] all = tt
back-above p (entry ∷ content) all =
    (lt_from_test (place_cmp p entry.0) all.0, back-above p content all.1)

pub sorted-rising : (content : Content) → Rising content → Ascends content
unfolding IsStrictlySortedBy
sorted-rising [] rising = tt
sorted-rising (entry ∷ content) rising =
    (back-above entry.0 content rising.0, sorted-rising content rising.1)

-- ---- those of a range

above-filtered : (low : Option (List ℕ)) (range : Range) (xs : Content) → AllAbove low xs
    → AllAbove low (filter (λ (entry : Placed). is_in range entry.0) xs)
above-filtered low range [] all = tt
above-filtered low range (entry ∷ xs) all =
    kept (is_in range entry.0) (above-filtered low range xs all.1)
  where
    rest : Content
    rest = filter (λ (other : Placed). is_in range other.0) xs

    kept : (b : Bool) → AllAbove low rest → AllAbove low (cond b (entry ∷ rest) rest)
    kept true more = (all.0, more)
    kept false more = more

pub rising-filtered : (range : Range) (xs : Content) → Rising xs
    → Rising (filter (λ (entry : Placed). is_in range entry.0) xs)
rising-filtered range [] rising = tt
rising-filtered range (entry ∷ xs) rising =
    kept (is_in range entry.0) (rising-filtered range xs rising.1)
  where
    rest : Content
    rest = filter (λ (other : Placed). is_in range other.0) xs

    kept : (b : Bool) → Rising rest → Rising (cond b (entry ∷ rest) rest)
    kept true more = (above-filtered (Some entry.0) range xs rising.0, more)
    kept false more = more

-- each place is at most the high one
abbrev AllMost : List ℕ → Content → Type 0
AllMost high [] = Unit {0}
AllMost high (entry ∷ content) = (is_le (place_cmp entry.0 high) ≡ true) × AllMost high content

most-filtered : (range : Range) (xs : Content)
    → AllMost range.high (filter (λ (entry : Placed). is_in range entry.0) xs)
most-filtered range [] = tt
most-filtered range (entry ∷ xs) = kept (is_in range entry.0) refl (most-filtered range xs)
  where
    rest : Content
    rest = filter (λ (other : Placed). is_in range other.0) xs

    kept : (b : Bool) → is_in range entry.0 ≡ b → AllMost range.high rest
        → AllMost range.high (cond b (entry ∷ rest) rest)
    kept true in_it more = (in-most range entry.0 in_it, more)
    kept false out more = more

-- ---- one after the other

most-above : (o : Ordering) (place high other : List ℕ) → place_cmp place high ≡ o → is_le o ≡ true
    → is_above (Some high) other ≡ true → is_above (Some place) other ≡ true
most-above Less place high other is most above =
    above-more (Some place) high other (ap is_lt is) above
most-above Equal place high other is most above =
    subst (λ (p : List ℕ). is_above (Some p) other ≡ true) (sym (same_place place high is)) above
most-above Greater place high other is most above = absurd (true≢false (sym most))

above-most : (place high : List ℕ) (ys : Content) → is_le (place_cmp place high) ≡ true
    → AllAbove (Some high) ys → AllAbove (Some place) ys
above-most place high [] most all = tt
above-most place high (entry ∷ ys) most all = (
  most-above (place_cmp place high) place high entry.0 refl most all.0,
  above-most place high ys
      most all.1,
)

most-both : (high : List ℕ) (xs ys : Content) → AllMost high xs → AllMost high ys
    → AllMost high (xs ++ ys)
most-both high [] ys left right = right
most-both high (entry ∷ xs) ys left right = (left.0, most-both high xs ys left.1 right)

-- what is at most a place is at most one above it
most-more : (high more : List ℕ) (xs : Content) → is_above (Some high) more ≡ true
    → AllMost high xs → AllMost more xs
most-more high more [] up all = tt
most-more high more (entry ∷ xs) up all = (
  ap is_le (lt_from_test (place_cmp entry.0 more)
      (most-above (place_cmp entry.0 high) entry.0 high more refl all.0 up)),
  most-more high more xs up all.1,
)

above-both : (low : Option (List ℕ)) (xs ys : Content) → AllAbove low xs → AllAbove low ys
    → AllAbove low (xs ++ ys)
above-both low [] ys left right = right
above-both low (entry ∷ xs) ys left right = (left.0, above-both low xs ys left.1 right)

pub rising-append : (high : List ℕ) (xs ys : Content) → Rising xs → Rising ys → AllMost high xs
    → AllAbove (Some high) ys → Rising (xs ++ ys)
rising-append high [] ys left right most above = right
rising-append high (entry ∷ xs) ys left right most above = (
  above-both (Some entry.0) xs ys left.0 (above-most entry.0 high ys most.0 above),
  rising-append
      high xs ys left.1 right most.1 above,
)

-- ---- entry by entry

pub places-placed : (part : Keyed) (items : List ci.Item)
    → places_of (map (placed part) items) ≡ map (λ (item : ci.Item). key_of part item.bytes) items
places-placed part [] = refl
places-placed part (item ∷ items) =
    ap (λ (places : List (List ℕ)). key_of part item.bytes ∷ places) (places-placed part items)

content-rises : (part : Keyed) (image : Image) (low : Option (List ℕ)) (entries : List Entry)
    → AscendFrom low entries → HoldRanges part image low entries
    → Rising (content_from part image low entries)
content-rises part image low [] ascend hold = tt
content-rises part image low (entry ∷ entries) ascend hold =
    let block = block_at image (entry_block part entry) in
    let records : Rising (records_of part block) =
    rising-sorted (records_of part block)
    (subst (IsStrictlySortedBy place_cmp) (sym (places-placed part (items_of block)))
    hold.0.ascends) in
    rising-append entry.high (records_in part (range_of low entry) block)
    (content_from part image (Some entry.high) entries)
    (rising-filtered (range_of low entry) (records_of part block) records)
    (content-rises part image (Some entry.high) entries ascend.1 hold.1)
    (most-filtered (range_of low entry) (records_of part block))
    (content-above part image (Some entry.high) entries ascend.1)

placed-lengths : (part : Keyed) (range : Range) (items : List ci.Item)
    → AllByRecursion HasLength
    (filter (λ (entry : Placed). is_in range entry.0) (map (placed part) items))
placed-lengths part range [] = tt
placed-lengths part range (item ∷ items) =
    kept (is_in range (key_of part item.bytes)) (placed-lengths part range items)
  where
    rest : Content
    rest = filter (λ (other : Placed). is_in range other.0) (map (placed part) items)

    kept : (b : Bool) → AllByRecursion HasLength rest
        → AllByRecursion HasLength (cond b (placed part item ∷ rest) rest)
    kept true more = (tt, more)
    kept false more = more

lengths-both : (xs ys : Content) → AllByRecursion HasLength xs → AllByRecursion HasLength ys
    → AllByRecursion HasLength (xs ++ ys)
lengths-both [] ys left right = right
lengths-both (entry ∷ xs) ys left right = (left.0, lengths-both xs ys left.1 right)

content-lengths : (part : Keyed) (image : Image) (low : Option (List ℕ)) (entries : List Entry)
    → AllByRecursion HasLength (content_from part image low entries)
content-lengths part image low [] = tt
content-lengths part image low (entry ∷ entries) =
    lengths-both (records_in part (range_of low entry) (block_at image (entry_block part entry)))
    (content_from part image (Some entry.high) entries)
    (placed-lengths part (range_of low entry) (items_of (block_at image (entry_block part entry))))
    (content-lengths part image (Some entry.high) entries)

-- ---- area by area

-- each place of an area is at most the end of its last range
content-most : (part : Keyed) (image : Image) (low : Option (List ℕ)) (entries : List Entry)
    (high : List ℕ) → AscendFrom low entries → last_high entries ≡ Some high
    → AllMost high (content_from part image low entries)
content-most part image low [] high ascend is = tt
content-most part image low (entry ∷ []) high ascend is =
    let same : entry.high ≡ high = cc in
    subst (λ (end : List ℕ). AllMost end (content_from part image low (entry ∷ []))) same
    (most-both entry.high
    (records_in part (range_of low entry) (block_at image (entry_block part entry))) []
    (most-filtered (range_of low entry)
    (records_of part (block_at image (entry_block part entry)))) tt)
content-most part image low (entry ∷ other ∷ entries) high ascend is =
    let block = block_at image (entry_block part entry) in
    let up : is_above (Some entry.high) high ≡ true =
    end-above (Some entry.high) (other ∷ entries) high ascend.1 is in
    most-both high (records_in part (range_of low entry) block)
    (content_from part image (Some entry.high) (other ∷ entries))
    (most-more entry.high high (records_in part (range_of low entry) block) up
    (most-filtered (range_of low entry) (records_of part block)))
    (content-most part image (Some entry.high) (other ∷ entries) high ascend.1 is)

area-rises : (part : Keyed) (image : Image) (low : Option (List ℕ)) (entries : List Entry)
    (rest : Content) → 0 < length entries → AscendFrom low entries
    → HoldRanges part image low entries → Rising rest → AllAbove (last_high entries) rest
    → Rising (content_from part image low entries ++ rest)
area-rises part image low entries rest some ascend hold rises above =
    by_end (last_high entries) refl above
  where
    by_end : (end : Option (List ℕ)) → last_high entries ≡ end → AllAbove end rest
        → Rising (content_from part image low entries ++ rest)
    by_end None is past = absurd (has-end entries some is)
    by_end (Some high) is past = rising-append high (content_from part image low entries) rest
        (content-rises part image low entries ascend hold) rises
        (content-most part image low entries high ascend is) past

-- the places of a chain rise
chain-rises : (part : KeyedChain) (image : Image) (k area : ℕ) (low : Option (List ℕ))
    → LinksIn part image k area low → Rising (content_after part image k area)
chain-rises part image zero area low chain = absurd chain
chain-rises part image (suc k) area low chain =
    let top : Block = head_in part image area in
    let one = area_of part area in
    let rest = after_next [] (content_after part image k) (record_in top).next in
    area-rises one image (low_of top) (entries_of top) rest chain.head.spelled.some
    (head-ascends one top chain.head) chain.intervals
    (rest-rises (record_in top).next chain.next
    (λ further bound goes. chain-rises part image k further bound goes))
    (rest-above (record_in top).next chain.next)
  where
    rest-rises : (next : Option ℕ)
        → IsFollowed part (LinksIn part image k) (head_in part image area) next
        → ((further : ℕ) (bound : Option (List ℕ)) → LinksIn part image k further bound
        → Rising (content_after part image k further))
        → Rising (after_next [] (content_after part image k) next)
    rest-rises None last more = tt
    rest-rises (Some further) goes more = more further (end_of (head_in part image area)) goes

    rest-above : (next : Option ℕ)
        → IsFollowed part (LinksIn part image k) (head_in part image area) next
        → AllAbove (end_of (head_in part image area))
        (after_next [] (content_after part image k) next)
    rest-above None last = tt
    rest-above (Some further) goes = linked-content-above part image k further
        (end_of (head_in part image area)) goes

-- ---- by numbers

items-above : (part : Numbered) (number from to : ℕ) (content : Content) → number < from
    → to ≤ 2 ^ 32 → AreItemsOf part from to content → AllAbove (Some (four number)) content
items-above part number from to [] less fits all = tt
items-above part number from to (entry ∷ content) less fits (other, is, least, below, more) = (
  ap (λ (place : List ℕ). is_lt (place_cmp (four number) place)) is.place
      ∙ ap is_lt
      (four-rises number other (omega (arith, less, least)) (omega (arith, below, fits))),
  items-above part number (suc other) to content (omega (arith, less, least)) fits more,
)

items-rise : (part : Numbered) (from to : ℕ) (content : Content) → to ≤ 2 ^ 32
    → AreItemsOf part from to content → Rising content
items-rise part from to [] fits all = tt
items-rise part from to (entry ∷ content) fits (number, is, least, below, more) = (
  subst (λ (place : List ℕ). AllAbove (Some place) content) (sym is.place)
      (items-above part number (suc number) to content (omega arith) fits more),
  items-rise part (suc number) to content fits more,
)

-- what was withdrawn had a byte at least
item-has-length : (relative : Bool) (most : ℕ) (place : List ℕ) (item : Item)
    → IsItemBy relative most item → HasLength (place, item)
item-has-length true most place item (bytes, is, whole) =
    subst (λ (one : Item). HasLength (place, one)) (sym is) tt
item-has-length false most place (Standing bytes) (some, fits) = tt
item-has-length false most place (Withdrawn n) (some, fits) = some

items-lengths : (part : Numbered) (from to : ℕ) (content : Content)
    → AreItemsOf part from to content → AllByRecursion HasLength content
items-lengths part from to [] all = tt
items-lengths part from to ((place, item) ∷ content) (number, is, least, below, more) = (
  item-has-length part.relative part.most place item is.item,
  items-lengths part (suc number) to content more,
)

-- what blocks stand for is a content
pub stands_content : (shape : Shape) (image : Image) (content : Content)
    → StandsFor shape image content → IsContent content
stands_content (KeyedShape part) image content stands =
    let count = area_count part.geometry in
    subst IsContent (sym stands.records) (record {
      ascends = sorted-rising _ (chain-rises part image count part.first None stands.chain);
      lengths = All-from_recursion HasLength _
          (content-each (AllByRecursion HasLength) tt lengths-both part image
          (λ area is. content-lengths (area_of part area) image (low_of (head_in part image area))
          (entries_of (head_in part image area))) count part.first None stands.chain);
    })
stands_content (NumberedShape part) image content stands =
    let start = start_of part in
    let past = start + span_up part (area_count part.geometry) in
    let all : AreItemsOf part start past content = stands-numbered part image content stands in
    record {
      ascends = sorted-rising content
          (items-rise part start past content
          (omega (arith, numbers-below part stands.part_is)) all);
      lengths = All-from_recursion HasLength content (items-lengths part start past content all);
    }

-- and one content at most
pub one_content : (shape : Shape) (image : Image) (one other : Content) → StandsFor shape image one
    → StandsFor shape image other → one ≡ other
one_content (KeyedShape part) image one other first second = first.records ∙ sym second.records
one_content (NumberedShape part) image one other first second = first.records ∙ sym second.records
