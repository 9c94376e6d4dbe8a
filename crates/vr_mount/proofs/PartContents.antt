-- What the blocks of a part stand for: no other block changes it, and there is room for it.
use Rattle.std.proofs.Common.{◌≡◌, ◌<◌, ℕ, List, [], ◌∷◌, ◌++◌, refl, sym, ap, subst, ◌∙◌}
use Rattle.std.proofs.Common.{arith, Option, Some, None, IfSome, ◌≤◌, Bool, true, false, map}
use Rattle.std.proofs.Common.{zero, suc}
use Rattle.std.specs.Prelude.{slice_index, cond, filter}
use Rattle.std.specs.List.Sorted.{IsStrictlySortedBy}
use Rattle.vr_types.specs.Content.{Content, Ascends, Placed}
use Rattle.vr_types.specs.Geometry.{area_count}
use Rattle.vr_types.specs.Image.{Block, Image, block_at}
use Rattle.vr_types.specs.declared.geometry.Geometry.{Geometry}
use Rattle.vr_ci_match.specs.declared.form.Form.TheVariants.{Plain}
use Rattle.vr_ci.specs.Interval as ci
use Rattle.vr_ci.proofs.CallerLemmas.{interval_room}
use Rattle.vr_seqset.specs.Entry.{Entry}
use Rattle.vr_seqset.specs.Reading.{record_in}
use Rattle.vr_space.specs.Keyed.{HasEnds, HoldRanges, HoldsRange, InArea, Keyed, content_from}
use Rattle.vr_space.specs.Keyed.{HaveRooms, IsHead, entries_of, entry_block, items_of, key_of}
use Rattle.vr_space.specs.Keyed.{last_high, length_of, lengths_of, low_of, placed, range_of}
use Rattle.vr_space.specs.Keyed.{records_in}
use Rattle.vr_space.specs.Areas.{ChainHasRoom, ChainStandsFor, ChainStaysIn, EachAfter, EachArea}
use Rattle.vr_space.specs.Areas.{IsFollowed, IsOwnedArea, KeyedChain, LinksIn, area_of}
use Rattle.vr_space.specs.Areas.{content_after, content_in, end_of, head_in}
use Rattle.vr_space.specs.Owners.{Owners}
use Rattle.vr_space.specs.Part.{HasRoom, InPart, KeyedShape, NumberedShape, Shape, StandsFor}
use Rattle.vr_space.specs.Part.{StaysIn}
use Rattle.vr_space.specs.Room.{HaveRoom, Lengths, Range, is_in, weight}
use Rattle.vr_space.specs.Rosters.{IsChained, IsInArea, IsOf, IsOwnArea, Numbered, after_next}
use Rattle.vr_space.specs.Numbered.{IsFilled, KeepsNumbered, NumberedStandsFor, NumberedStaysIn}
use Rattle.vr_space.specs.Numbered.{start_of}
use Rattle.vr_space.proofs.CallerLemmas.{AreIn, IsAlike, IsLinkedArea, area-below, chain-less}
use Rattle.vr_space.proofs.CallerLemmas.{each-after-both, each-after-less, head-in, links-in-each}
use Rattle.vr_space.proofs.CallerLemmas.{links-in-kept, numbered-less}
use Rattle.vr_attach.specs.Laid.{IsInside}
use Rattle.vr_mount.proofs.Blocks.{area-on}
use Rattle.vr_mount.proofs.ChainRecords.{records-same}

-- no content ascends
pub none-ascend : Ascends []
unfolding IsStrictlySortedBy
none-ascend = tt

-- ---- by no other block than its own

module _ (part : Keyed) (old new : Image)
    (same : (n : ℕ) → InArea part n → block_at new n ≡ block_at old n) where
  block-same : (entry : Entry) → slice_index entry.intervals 0 < part.area
      → block_at new (entry_block part entry) ≡ block_at old (entry_block part entry)
  block-same entry inside = same (entry_block part entry)
      (omega (arith, inside), omega (arith, inside))

  hold-same : (low : Option (List ℕ)) (entries : List Entry) → AreIn part.area entries
      → HoldRanges part old low entries → HoldRanges part new low entries
  hold-same low [] inside hold = tt
  hold-same low (entry ∷ entries) inside hold = (
    subst (HoldsRange part (range_of low entry)) (sym (block-same entry inside.0)) hold.0,
    hold-same (Some entry.high) entries inside.1 hold.1,
  )

  content-same : (low : Option (List ℕ)) (entries : List Entry) → AreIn part.area entries
      → content_from part new low entries ≡ content_from part old low entries
  content-same low [] inside = refl
  content-same low (entry ∷ entries) inside =
      ap (λ (block : Block). records_in part (range_of low entry) block
      ++ content_from part new (Some entry.high) entries) (block-same entry inside.0)
      ∙ ap (λ (c : Content). records_in part (range_of low entry)
      (block_at old (entry_block part entry)) ++ c)
      (content-same (Some entry.high) entries inside.1)

  head-same : block_at new part.head ≡ block_at old part.head
  head-same = same part.head (omega arith, omega arith)

  ends-same : HasEnds (block_at old part.head) (block_at new part.head)
  ends-same = record {
    first = ap (λ (top : Block). (record_in top).first) head-same;
    low = ap (λ (top : Block). (record_in top).low) head-same;
    next = ap (λ (top : Block). (record_in top).next) head-same;
    last = ap (λ (top : Block). last_high (entries_of top)) head-same;
  }

  ranges-same : IsHead part (block_at old part.head)
      → HoldRanges part old (low_of (block_at old part.head)) (entries_of (block_at old part.head))
      → HoldRanges part new (low_of (block_at new part.head)) (entries_of (block_at new part.head))
  ranges-same head hold =
      subst (λ (b : Block). HoldRanges part new (low_of b) (entries_of b)) (sym head-same)
      (hold-same (low_of (block_at old part.head)) (entries_of (block_at old part.head))
      (head-in part (block_at old part.head) head) hold)

  rooms-under : (kept : Lengths) (low : Option (List ℕ)) (entries : List Entry)
      → AreIn part.area entries → HaveRooms part kept old low entries
      → HaveRooms part kept new low entries
  rooms-under kept low [] inside rooms = tt
  rooms-under kept low (entry ∷ entries) inside rooms = (
    subst (λ (b : Block). HaveRoom part.size (lengths_of part kept (range_of low entry) b))
        (sym (block-same entry inside.0)) rooms.0,
    rooms-under kept (Some entry.high) entries inside.1 rooms.1,
  )

  rooms-here : (kept : Lengths) → IsHead part (block_at old part.head)
      → HaveRooms part kept old (low_of (block_at old part.head))
      (entries_of (block_at old part.head))
      → HaveRooms part kept new (low_of (block_at new part.head))
      (entries_of (block_at new part.head))
  rooms-here kept head rooms =
      subst (λ (b : Block). HaveRooms part kept new (low_of b) (entries_of b)) (sym head-same)
      (rooms-under kept (low_of (block_at old part.head)) (entries_of (block_at old part.head))
      (head-in part (block_at old part.head) head) rooms)

-- the blocks of an area of a keyed part are as they were
abbrev pub IsAreaSame : KeyedChain → Image → Image → ℕ → Type 0
IsAreaSame part old new area =
    (n : ℕ) → InArea (area_of part area) n → block_at new n ≡ block_at old n

module _ (part : KeyedChain) (old new : Image) where
  alike : (area : ℕ) → IsAreaSame part old new area × IsLinkedArea part old area
      → IsAlike part old new area
  alike area (same, linked) =
      let one : Keyed = area_of part area in
      record {
        ends = ends-same one old new same;
        head = subst (IsHead one) (sym (head-same one old new same)) linked.stands.head;
        intervals = ranges-same one old new same linked.stands.head linked.stands.intervals;
      }

  chain-links : (k area : ℕ) (low : Option (List ℕ)) → LinksIn part old k area low
      → EachAfter part (IsAreaSame part old new) (IsOf old) k area → LinksIn part new k area low
  chain-links k area low chain each = links-in-kept part old new k area low chain
      (each-after-less part (λ at. IsAreaSame part old new at × IsLinkedArea part old at)
      (IsAlike part old new) (IsOf old) (IsOf old) alike (λ at is top here. here) k area
      (each-after-both part (IsAreaSame part old new) (IsLinkedArea part old) (IsOf old) k area each
      (links-in-each part old k area low chain)))

  chain-content : (k area : ℕ) (low : Option (List ℕ)) → LinksIn part old k area low
      → EachAfter part (IsAreaSame part old new) (IsOf old) k area
      → content_after part new k area ≡ content_after part old k area
  chain-content zero area low chain each = absurd chain
  chain-content (suc k) area low chain each =
      ap (λ (b : Block). content_from one new (low_of b) (entries_of b)
      ++ after_next [] (content_after part new k) (record_in b).next)
      (head-same one old new each.0)
      ∙ ap (λ (c : Content). c ++ after_next [] (content_after part new k) (record_in top).next)
      (content-same one old new each.0 (low_of top) (entries_of top) (head-in one top chain.head))
      ∙ ap (λ (c : Content). content_in part old area ++ c)
      (by_next (record_in top).next chain.next (each.1 top refl)
      (λ further bound goes all. chain-content k further bound goes all))
    where
      one : Keyed
      one = area_of part area

      top : Block
      top = head_in part old area

      by_next : (next : Option ℕ) → IsFollowed part (LinksIn part old k) top next
          → IfSome next (EachAfter part (IsAreaSame part old new) (IsOf old) k)
          → ((further : ℕ) (bound : Option (List ℕ)) → LinksIn part old k further bound
          → EachAfter part (IsAreaSame part old new) (IsOf old) k further
          → content_after part new k further ≡ content_after part old k further)
          → after_next [] (content_after part new k) next
          ≡ after_next [] (content_after part old k) next
      by_next None goes all more = refl
      by_next (Some further) goes all more = more further (end_of top) goes all

  -- A keyed part stands for what it stood for where the blocks of each of its areas are as they
  -- were.
  pub keyed-same : EachArea part (IsAreaSame part old new) (IsOf old) → (content : Content)
      → StandsFor (KeyedShape part) old content → StandsFor (KeyedShape part) new content
  keyed-same each content stands = record {
    part_is = stands.part_is;
    chain = chain-links (area_count part.geometry) part.first None stands.chain each;
    records = stands.records
        ∙ sym (chain-content (area_count part.geometry) part.first None stands.chain each);
  }

  -- So it does where those of each area of the volume are.
  pub keyed-there : ((area : ℕ) → area < area_count part.geometry → IsAreaSame part old new area)
      → (content : Content) → StandsFor (KeyedShape part) old content
      → StandsFor (KeyedShape part) new content
  keyed-there same content stands = keyed-same
      (each-after-less part (IsLinkedArea part old) (IsAreaSame part old new) (IsOf old) (IsOf old)
      (λ area linked. same area linked.there) (λ area linked top here. here)
      (area_count part.geometry) part.first
      (links-in-each part old (area_count part.geometry) part.first None stands.chain)) content
      stands

-- ---- a part that stays in its own blocks

-- what a keyed part stands for and has room for, where the blocks that it owns stay
module _ (part : KeyedChain) (owners : Owners) (old new : Image)
    (within : ChainStaysIn part owners old)
    (same : (n : ℕ) → n < part.geometry.blocks → InPart (KeyedShape part) owners n
    → block_at new n ≡ block_at old n) where
  mine-same : (area : ℕ) → IsOwnedArea part owners area → IsAreaSame part old new area
  mine-same area own n inside =
      same n (omega (arith, area-on part.geometry area own.there, inside.1)) (own.owned n inside)

  each-same : EachArea part (IsAreaSame part old new) (IsOf old)
  each-same = each-after-less part (IsOwnedArea part owners) (IsAreaSame part old new) (IsOf old)
      (IsOf old) mine-same (λ area own top here. here) (area_count part.geometry) part.first within

  keyed-stays : ChainStaysIn part owners new
  keyed-stays = each-after-less part (IsOwnedArea part owners) (IsOwnedArea part owners) (IsOf old)
      (IsOf new) (λ area own. own)
      (λ area own top is. is ∙ head-same (area_of part area) old new (mine-same area own))
      (area_count part.geometry) part.first within

  -- an area is in order, and has room
  abbrev IsRoomyArea : Lengths → ℕ → Type 0
  IsRoomyArea kept area = HaveRooms (area_of part area) kept old (low_of (head_in part old area))
      (entries_of (head_in part old area))

  keyed-rooms : (kept : Lengths) (content : Content) → ChainStandsFor part old content
      → ChainHasRoom part kept old → ChainHasRoom part kept new
  keyed-rooms kept content stands rooms =
      let count : ℕ = area_count part.geometry in
      each-after-less part
      (λ area. (IsAreaSame part old new area × IsLinkedArea part old area) × IsRoomyArea kept area)
      (λ area. HaveRooms (area_of part area) kept new (low_of (head_in part new area))
      (entries_of (head_in part new area))) (IsOf old) (IsOf new)
      (λ area is. rooms-here (area_of part area) old new is.0.0 kept is.0.1.stands.head is.1)
      (λ area is top here. here ∙ head-same (area_of part area) old new is.0.0) count part.first
      (each-after-both part (λ area. IsAreaSame part old new area × IsLinkedArea part old area)
      (IsRoomyArea kept) (IsOf old) count part.first
      (each-after-both part (IsAreaSame part old new) (IsLinkedArea part old) (IsOf old) count
      part.first each-same
      (links-in-each part old count part.first None stands.chain)) rooms)

-- what a part of chained areas stands for and keeps room for, where the blocks that it owns stay
module _ (part : Numbered) (owners : Owners) (old new : Image)
    (within : NumberedStaysIn part owners old)
    (same : (n : ℕ) → n < part.geometry.blocks → InPart (NumberedShape part) owners n
    → block_at new n ≡ block_at old n) where
  own-same : (area : ℕ) → IsOwnArea part owners area → (n : ℕ) → IsInArea part area n
      → block_at new n ≡ block_at old n
  own-same area own n inside =
      same n (area-below part area n own.there inside) (own.owned n inside)

  chain-same : (Wider : ℕ → Type 0) → ((area : ℕ) → IsOwnArea part owners area → Wider area)
      → IsChained part Wider (IsFilled part) (IsOf new)
  chain-same Wider wider = chain-less part (IsOwnArea part owners) Wider (IsFilled part) (IsOf new)
      (IsOf old) wider (λ area own n inside block is. is ∙ own-same area own n inside)
      (area_count part.geometry) part.first within

  numbered-room : (kept : Lengths) → KeepsNumbered part kept (IsOf old)
      → KeepsNumbered part kept (IsOf new)
  numbered-room kept room = numbered-less part (IsOwnArea part owners) (IsFilled part) (IsOf new)
      (IsOf old) kept (λ area own n inside block is. is ∙ own-same area own n inside) within room

  numbered-same : (content : Content) → NumberedStandsFor part old content
      → NumberedStandsFor part new content
  numbered-same content stands = record {
    part_is = stands.part_is;
    chain = chain-same (λ area. area < area_count part.geometry) (λ area own. own.there);
    records = stands.records ∙ sym (records-same part (IsOwnArea part owners) old new
        own-same (area_count part.geometry) (start_of part) part.first within);
  }

-- the blocks that the part owns are as they were, where the volume has them
abbrev pub AreSame : Geometry → Shape → Owners → Image → Image → Type 0
AreSame geometry shape owners old new = (n : ℕ) → n < geometry.blocks → InPart shape owners n
    → block_at new n ≡ block_at old n

-- a part has the shape of the volume that it is inside
own-blocks : (geometry own : Geometry) (shape : Shape) (owners : Owners) (old new : Image)
    → own ≡ geometry → AreSame geometry shape owners old new → AreSame own shape owners old new
own-blocks geometry own shape owners old new is same n below =
    same n (subst (λ (g : Geometry). n < g.blocks) is below)

-- A part that stays in its own blocks does so where these are as they were,
pub stays-same : (geometry : Geometry) (shape : Shape) (owners : Owners) (old new : Image)
    → IsInside geometry shape → StaysIn shape owners old
    → AreSame geometry shape owners old new → StaysIn shape owners new
stays-same geometry (KeyedShape part) owners old new inside within same =
    keyed-stays part owners old new within
    (own-blocks geometry part.geometry (KeyedShape part) owners old new inside.1 same)
stays-same geometry (NumberedShape part) owners old new inside within same =
    chain-same part owners old new within
    (own-blocks geometry part.geometry (NumberedShape part) owners old new inside.1 same)
    (IsOwnArea part owners) (λ area own. own)

-- stands for what it stood for,
pub stands-same : (geometry : Geometry) (shape : Shape) (owners : Owners) (old new : Image)
    → IsInside geometry shape → StaysIn shape owners old
    → AreSame geometry shape owners old new → (content : Content)
    → StandsFor shape old content → StandsFor shape new content
stands-same geometry (KeyedShape part) owners old new inside within same =
    keyed-same part old new (each-same part owners old new within
    (own-blocks geometry part.geometry (KeyedShape part) owners old new inside.1 same))
stands-same geometry (NumberedShape part) owners old new inside within same =
    numbered-same part owners old new within
    (own-blocks geometry part.geometry (NumberedShape part) owners old new inside.1 same)

-- and has the room that it had.
pub rooms-same : (geometry : Geometry) (shape : Shape) (owners : Owners) (old new : Image)
    → IsInside geometry shape → StaysIn shape owners old
    → AreSame geometry shape owners old new → (kept : Lengths) (content : Content)
    → StandsFor shape old content → HasRoom shape kept old → HasRoom shape kept new
rooms-same geometry (KeyedShape part) owners old new inside within same kept content stands =
    keyed-rooms part owners old new within
    (own-blocks geometry part.geometry (KeyedShape part) owners old new inside.1 same) kept content
    stands
rooms-same geometry (NumberedShape part) owners old new inside within same kept content stands =
    numbered-room part owners old new within
    (own-blocks geometry part.geometry (NumberedShape part) owners old new inside.1 same) kept

-- ---- room

-- the records of a range weigh no more than all have room for
among : (part : Keyed) (range : Range) (items : List ci.Item)
    → weight (map length_of (filter (λ (entry : Placed). is_in range entry.0)
    (map (placed part) items))) ≤ ci.room items
among part range [] = omega arith
among part range (item ∷ items) =
    by (is_in range (key_of part item.bytes)) (among part range items)
  where
    rest : Content
    rest = filter (λ (entry : Placed). is_in range entry.0) (map (placed part) items)

    by : (b : Bool) → weight (map length_of rest) ≤ ci.room items
        → weight (map length_of (cond b (placed part item ∷ rest) rest)) ≤ ci.room (item ∷ items)
    by true more = omega (arith, more)
    by false more = omega (arith, more)

-- so an interval has room for what it has
interval-fits : (part : Keyed) (range : Range) (block : List ℕ) → HoldsRange part range block
    → HaveRoom part.size (lengths_of part [] range block)
interval-fits part range block holds =
    omega (
      arith,
      among part range (items_of block),
      interval_room Plain block _ holds.spelled refl,
      holds.size,
    )

have-rooms : (part : Keyed) (image : Image) (low : Option (List ℕ)) (entries : List Entry)
    → HoldRanges part image low entries → HaveRooms part [] image low entries
have-rooms part image low [] hold = tt
have-rooms part image low (entry ∷ entries) hold = (
  interval-fits part (range_of low entry) (block_at image (entry_block part entry)) hold.0,
  have-rooms part image (Some entry.high) entries hold.1,
)

-- and a part
pub part-fits : (shape : Shape) (image : Image) (content : Content) → StandsFor shape image content
    → HasRoom shape [] image
part-fits (KeyedShape part) image content stands =
    each-after-less part (IsLinkedArea part image)
    (λ area. HaveRooms (area_of part area) [] image (low_of (head_in part image area))
    (entries_of (head_in part image area))) (IsOf image) (IsOf image)
    (λ area linked. have-rooms (area_of part area) image (low_of (head_in part image area))
    (entries_of (head_in part image area)) linked.stands.intervals)
    (λ area linked top here. here) (area_count part.geometry) part.first
    (links-in-each part image (area_count part.geometry) part.first None stands.chain)
part-fits (NumberedShape part) image content stands = λ at entry below.
    absurd (omega (arith, below))
