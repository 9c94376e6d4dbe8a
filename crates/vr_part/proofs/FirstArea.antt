-- A key-sequenced part whose first area is written without records: it is in order in blocks of its
-- own, whatever a crash leaves, and no place of it has an item.
use Rattle.std.proofs.Common.{◌≡◌, ◌<◌, ◌+◌, ℕ, zero, suc, Bool, true, false, List, []}
use Rattle.std.proofs.Common.{◌∷◌, length, map, replicate, All, Option, Some, None, IfSome, inl}
use Rattle.std.proofs.Common.{refl, sym, ap, subst, ◌∙◌, arith, IsTrue}
use Rattle.std.specs.Prelude.{cond, filter}
use Rattle.std.specs.List.Sorted.{IsStrictlySortedBy}
use Rattle.std.specs.Ordering.{is_le}
use Rattle.std.proofs.lemmas.List.Elements.{All-nil}
use Rattle.vr_types.specs.Content.{Item, Placed, item_at, place_cmp}
use Rattle.vr_types.specs.Geometry.{area_count}
use Rattle.vr_types.specs.Image.{Block}
use Rattle.vr_types.specs.Seen.{Seen}
use Rattle.vr_ci_match.specs.declared.form.Form.TheVariants.{Plain}
use Rattle.vr_ci_match.specs.declared.form.Shape.TheVariants as shapes
use Rattle.vr_ci_match.specs.Fault.{is_busy}
use Rattle.vr_ci.specs.Interval as ci
use Rattle.vr_ci.proofs.CallerLemmas.{interval_says}
use Rattle.vr_seqset.specs.Entry.{Entry}
use Rattle.vr_seqset.specs.Reading.{record_in}
use Rattle.vr_seqset.specs.SequenceSet.{SequenceSet}
use Rattle.vr_seqset.proofs.CallerLemmas.{record_is}
use Rattle.vr_space.specs.Areas.{ChainKeepsRoom, EachAfter, IsChainAtRest, IsChainOn}
use Rattle.vr_space.specs.Areas.{IsFollowed, IsLinked, IsQuietArea, KeyedChain}
use Rattle.vr_space.specs.Areas.{Links, area_of, areas_after, areas_way, chain_way}
use Rattle.vr_space.specs.Areas.{end_of, head_in, intervals_in, intervals_over, is_upto}
use Rattle.vr_space.specs.Keyed.{EachMayLeave, HoldsRange, IsKept, IsKeyedSound, IsOwned}
use Rattle.vr_space.specs.Keyed.{KeepsRoom, Keyed, entries_of, entry_above, items_of, key_of}
use Rattle.vr_space.specs.Keyed.{last_high, length_of, lengths_of, low_in, low_of, placed, range_of}
use Rattle.vr_space.specs.Keyed.{way_in}
use Rattle.vr_space.specs.Met.{IsChainMet}
use Rattle.vr_space.specs.Owners.{Owners}
use Rattle.vr_space.specs.Part.{KeyedShape, Knows, MayHold, item_of}
use Rattle.vr_space.specs.Room.{HaveRoom, Range, is_in, with_lengths}
use Rattle.vr_space.specs.Rosters.{IsOf, after_next}
use Rattle.vr_space.specs.UnderWay.{interval_block}
use Rattle.vr_space.specs.Way.{Found, MayFind}
use Rattle.vr_space.proofs.CallerLemmas.{area-there}
use Rattle.vr_start.specs.FirstHead.{all_places, first_record}
use Rattle.vr_start.proofs.FirstHead.{first-head}
use Rattle.vr_part.proofs.Reading.{found-on}
use Rattle.vr_part.specs.Started.{known_first}
use Rattle.vr_part.specs.First.{IsFirstArea, IsFirstHead, IsFirstInterval, no_records}

-- ---- its head

module _ (part : Keyed) (top : Block) (is : IsFirstHead part top) where
  says : record_in top ≡ first_record part
  says = record_is part.area top (first_record part) is.spelled

  begins : low_of top ≡ None
  begins = ap low_in says

  none-next : (record_in top).next ≡ None
  none-next = ap (λ (s : SequenceSet). s.next) says

  one-entry : entries_of top ≡ all_places part.key ∷ []
  one-entry = ap (λ (s : SequenceSet). s.entries) says

  ends : end_of top ≡ Some (replicate part.key 255)
  ends = ap last_high one-entry

-- ---- its interval

sorted-none : IsStrictlySortedBy place_cmp []
unfolding IsStrictlySortedBy
sorted-none = tt

abbrev interval_of : List ci.Item → Bool → ci.Interval
interval_of items busy = record {
  shape = shapes.Records;
  items = items;
  busy = busy;
}

module _ (part : Keyed) (block : Block) (is : IsFirstInterval part block) where
  no-items : items_of block ≡ []
  no-items = sym (interval_says Plain block no_records is.spelled refl).0

  idle : is_busy block ≡ false
  idle = sym (interval_says Plain block no_records is.spelled refl).1

  same-value : interval_of [] false ≡ interval_of (items_of block) (is_busy block)
  same-value = ap (λ (items : List ci.Item). interval_of items false) (sym no-items)
      ∙ ap (interval_of (items_of block)) (sym idle)

  -- it is one of any range
  holds-none : (range : Range) → HoldsRange part range block
  holds-none range = record {
    spelled = subst (ci.IsInterval Plain block) same-value is.spelled;
    size = is.size;
    kept = subst (All (IsKept part)) (sym no-items) (All-nil (IsKept part));
    ascends = subst (λ (items : List ci.Item). IsStrictlySortedBy place_cmp
        (map (λ (item : ci.Item). key_of part item.bytes) items)) (sym no-items) sorted-none;
    within = λ not. subst (All (λ (item : ci.Item).
        IsTrue (is_in range (key_of part item.bytes)))) (sym no-items)
        (All-nil (λ (item : ci.Item). IsTrue (is_in range (key_of part item.bytes))));
  }

  -- and takes no room
  no-room : (range : Range) → HaveRoom part.size (lengths_of part [] range block)
  no-room range = subst (λ (items : List ci.Item). HaveRoom part.size
      (with_lengths (map length_of (filter (λ (one : Placed). is_in range one.0)
      (map (placed part) items))) [])) (sym no-items) (omega arith)

  none-at : (place : List ℕ) → item_at (map (placed part) (items_of block)) place ≡ None
  none-at place =
      ap (λ (items : List ci.Item). item_at (map (placed part) items) place) no-items

-- ---- the part

module _ (part : KeyedChain) (now : Seen) (first : IsFirstArea (area_of part part.first) now) where
  abbrev area : Keyed
  area = area_of part part.first

  -- what a crash leaves of the head, and of the interval
  a-head : (top : Block) → now.may area.head top → IsFirstHead area top
  a-head top may = subst (IsFirstHead area) (sym (first.one_head top may)) first.has.head

  an-interval : (block : Block) → now.may (interval_block area 0) block
      → IsFirstInterval area block
  an-interval block may =
      subst (IsFirstInterval area) (sym (first.one_interval block may)) first.has.interval

  each-interval : (Q : Range → Block → Type 0)
      → ((range : Range) (block : Block) → IsFirstInterval area block → Q range block)
      → (top : Block) → now.may area.head top
      → EachMayLeave area now (low_of top) (entries_of top) Q
  each-interval Q holds top may =
      subst (λ (entries : List Entry). EachMayLeave area now (low_of top) entries Q)
      (sym (one-entry area top (a-head top may))) (
        λ block left. holds (range_of (low_of top) (all_places area.key)) block
            (an-interval block left),
        tt,
      )

  first-sound : IsChainOn part now → IsKeyedSound area now
  first-sound on = record {
    area = area-there part now on part.first on.part_is.first;
    size = on.size;
    heads = λ top may. let is = a-head top may in first-head area top is.size is.spelled;
    intervals = each-interval (HoldsRange area) (λ range block is. holds-none area block is range);
  }

  first-linked : IsChainOn part now → (After : ℕ → Option (List ℕ) → Type 0)
      → IsLinked part now part.first None After
  first-linked on After = record {
    sound = first-sound on;
    begins = λ top may. begins area top (a-head top may);
    next = λ top may. subst (IsFollowed part After top)
        (sym (none-next area top (a-head top may))) (ends area top (a-head top may));
  }

  first-links : IsChainOn part now → (Own : ℕ → Type 0) → Own part.first → (k : ℕ) → 0 < k
      → Links part Own now k part.first None
  first-links on Own own zero some = absurd (omega (arith, some))
  first-links on Own own (suc k) some = (own, first-linked on (Links part Own now k))

  -- It is at rest in blocks of its own,
  pub first-rests : IsChainOn part now → (owners : Owners) → IsOwned area owners
      → IsChainAtRest part owners now
  first-rests on owners owned = record {
    on = on;
    chain = first-links on (IsQuietArea part owners now)
        (record {
          own = record { there = on.part_is.first; owned = owned };
          one_head = first.one_head;
        })
        (area_count part.geometry) (omega (arith, on.part_is.first));
  }

  -- and has room for what is kept for it, which is nothing;
  each-area : (P : ℕ → Type 0) → P part.first → (k : ℕ) → EachAfter part P now.may k part.first
  each-area P here zero = tt
  each-area P here (suc k) = (
    here,
    λ top may. subst (λ (next : Option ℕ). IfSome next (EachAfter part P now.may k))
        (sym (none-next area top (a-head top may))) tt,
  )

  pub first-room : ChainKeepsRoom part [] now
  first-room = each-area (λ at. KeepsRoom (area_of part at) [] now)
      (record {
        places = All-nil (λ (entry : List ℕ × ℕ). length entry.0 ≡ part.key);
        each = each-interval (λ range block. HaveRoom area.size (lengths_of area [] range block))
            (λ range block is. no-room area block is range);
      })
      (area_count part.geometry)

  -- its chain is the area, up to the greatest place;
  one-area : (k : ℕ) → 0 < k → part.first ∷ [] ≡ areas_after part now.cur k part.first
  one-area zero some = absurd (omega (arith, some))
  one-area (suc k) some = ap (λ (next : Option ℕ).
      part.first ∷ after_next [] (areas_after part now.cur k) next)
      (sym (none-next area (head_in part now.cur part.first) first.has.head))

  -- with one interval
  one-interval : IsChainOn part now → 1 ≡ intervals_in part now.cur
  one-interval on =
      ap (λ (entries : List Entry). length entries + 0)
      (sym (one-entry area (head_in part now.cur part.first) first.has.head))
      ∙ ap (intervals_over part now.cur)
      (one-area (area_count part.geometry) (omega (arith, on.part_is.first)))

  pub first-knows : IsChainOn part now
      → Knows (KeyedShape part) (known_first (KeyedShape part)) now
  first-knows on = record {
    way = (tt, tt, inl refl, tt);
    blocks = (
      record {
        areas_are = one-area (area_count part.geometry) (omega (arith, on.part_is.first));
        ends_are = ap (λ (end : Option (List ℕ)). end ∷ [])
            (sym (ends area (head_in part now.cur part.first) first.has.head));
      },
      All-nil (IsChainMet part now.cur),
      one-interval on,
    );
  }

  -- and no place has an item, whatever is allowed of the blocks that a crash may leave.
  module _ (may : ℕ → Block → Type 0)
      (heads : (top : Block) → may area.head top → IsFirstHead area top)
      (intervals : (block : Block) → may (interval_block area 0) block
      → IsFirstInterval area block) (place : List ℕ) (found : Option Item) where
    by-entry : (upto : Bool)
        → MayFind may found (cond upto (way_in area place (cond upto (Some
        (range_of None (all_places area.key), all_places area.key)) None)) (Found None))
        → found ≡ None
    by-entry true holds =
        holds.2 ∙ none-at area holds.0 (intervals holds.0 holds.1) place
    by-entry false holds = holds

    none-found : (k : ℕ) → MayFind may found (areas_way part place k part.first) → found ≡ None
    none-found zero holds = holds
    none-found (suc k) holds =
        by-entry (is_le (place_cmp place (replicate area.key 255)))
        (subst (λ (s : SequenceSet). MayFind may found
        (cond (is_upto (last_high s.entries) place)
        (way_in area place (entry_above (low_in s) s.entries place))
        (after_next (Found None) (areas_way part place k) s.next)))
        (says area holds.0 (heads holds.0 holds.1)) holds.2)

  pub first-firm : (place : List ℕ) (found : Option Item)
      → MayHold (KeyedShape part) now.may place found → found ≡ None
  first-firm place found =
      none-found now.may a-head an-interval place found (area_count part.geometry)

  pub first-reads : (place : List ℕ) → item_of (KeyedShape part) now.cur place ≡ None
  first-reads place = none-found (IsOf now.cur)
      (λ top is. subst (IsFirstHead area) (sym is) first.has.head)
      (λ block is. subst (IsFirstInterval area) (sym is) first.has.interval) place
      (item_of (KeyedShape part) now.cur place) (area_count part.geometry)
      (found-on now.cur (chain_way part place))
