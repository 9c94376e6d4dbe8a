-- What a keyed part keeps in memory of its blocks: which area a place comes to, the split that is
-- under way and what the part answers by it, and what was met.
use Rattle.std.proofs.Common.{◌≡◌, ◌<◌, ℕ, zero, suc, Bool, true, false, IsTrue, List, [], ◌∷◌, Option}
use Rattle.std.proofs.Common.{Some, None, All, length, refl, sym, ap, subst, ◌∙◌, arith, ⊎_elim}
use Rattle.std.specs.Prelude.{◌⊎◌, Contains, IfSome, IsSome, cond}
use Rattle.std.specs.Ordering.{is_le}
use Rattle.std.proofs.lemmas.List.Elements.{All-nil, All-weaker}
use Rattle.std.proofs.lemmas.List.Elements.{Contains-append_left, Contains-append_right}
use Rattle.vr_types.specs.Blocks.{Keeps}
use Rattle.vr_types.specs.Content.{place_cmp}
use Rattle.vr_types.specs.Geometry.{area_count}
use Rattle.vr_types.specs.Image.{Block, Image}
use Rattle.vr_types.specs.Seen.{Left, Seen}
use Rattle.vr_types.specs.declared.unit.StageKind.{StageKind}
use Rattle.vr_space.specs.declared.room.Room.{Room}
use Rattle.vr_space.specs.declared.room.Room.TheVariants.{Stage}
use Rattle.vr_space.specs.Areas.{ChainKeepsRoom, IsChainOn, KeyedChain, KnowsAreas, area_by}
use Rattle.vr_space.specs.Areas.{EachAfter, IsFollowed, LinksIn, area_for, area_of, areas_in}
use Rattle.vr_space.specs.Areas.{end_of, head_in, head_of, intervals_in}
use Rattle.vr_space.specs.Rosters.{IsOf}
use Rattle.vr_seqset.specs.Reading.{record_in}
use Rattle.vr_space.specs.Keyed.{InArea, KeepsRoom, Keyed}
use Rattle.vr_space.specs.Known.{HasMet, Known, MeetsPlace}
use Rattle.vr_space.specs.Met.{IsChainMet, IsMet, Met}
use Rattle.vr_space.specs.Part.{InHeld, KeyedShape, Knows, Stands}
use Rattle.vr_space.specs.Room.{Lengths}
use Rattle.vr_space.specs.Moves.{IsPastClaim, MoveUnderWay}
use Rattle.vr_space.specs.Split.{AreaSplit, MoveNow, SplitNow, area_room, keyed_room, move_stage}
use Rattle.vr_space.specs.Split.{room_after, split_in, stage_under}
use Rattle.vr_space.specs.UnderWay.{AreaUnderWay, KeyedUnderWay}
use Rattle.vr_space.proofs.CallerLemmas.{ComesTo, IsLinkedArea, area-on, comes-to, each-here}
use Rattle.vr_space.proofs.CallerLemmas.{area-each, knows-area, links-in-area, move-keeps, room-of-area}
use Rattle.vr_attach.specs.Areas.{AreasNow}
use Rattle.vr_keyed.specs.Lent.{ArePlaces}
use Rattle.vr_keyed.specs.Owned.{InAreas, IsMine, known_by, split_at}
use Rattle.vr_keyed.specs.Slots.{HasMetPlace, IsMetAt, KeepsAll, LeavesMet, MeetsOne, mets}
use Rattle.vr_keyed.specs.Slots.{most_kept}
use Rattle.vr_keyed.specs.declared.slots.Slots.{Slots}
use Rattle.vr_keyed.proofs.Keeping.{way-still}
use Rattle.vr_keyed.proofs.Meeting.{leaves-all, places-kept}

-- ---- the area of a place

-- it is one of those that the part keeps
area-kept : (areas : List ℕ) (ends : List (List ℕ)) (place : List ℕ) (area : ℕ)
    → area_by areas ends place ≡ Some area → Contains areas area
area-kept [] ends place area is = absurd cc
area-kept (first ∷ areas) [] place area is = absurd cc
area-kept (first ∷ areas) (end ∷ ends) place area is =
    by_test (is_le (place_cmp place end)) is (area-kept areas ends place area)
  where
    by_test : (test : Bool) → cond test (Some first) (area_by areas ends place) ≡ Some area
        → (area_by areas ends place ≡ Some area → Contains areas area)
        → Contains (first ∷ areas) area
    by_test true same more = (0, omega arith, cc)
    by_test false same more = Contains-append_right (first ∷ []) areas area (more same)

-- the layout of an area is that of the part, by where it was read
pub layout-at : (layout : Keyed) (here part : KeyedChain) (area : ℕ) → layout ≡ area_of here area
    → here ≡ part → layout ≡ area_of part area
layout-at layout here part area is same = is ∙ ap (λ (one : KeyedChain). area_of one area) same

-- a place that is another comes to the area of that
pub area-at : (chain : AreasNow) (at place : List ℕ) (area : ℕ) → at ≡ place
    → area_by chain.areas chain.ends at ≡ Some area
    → area_by chain.areas chain.ends place ≡ Some area
area-at chain at place area same is = ap (area_by chain.areas chain.ends) (sym same) ∙ is

-- This is the area that has the place, by what is in memory, and this its layout.
pub record IsPlaced (chain : AreasNow) (place : List ℕ) (area : ℕ) (layout : Keyed) : Type 0 where
  pub layout_is : layout ≡ area_of chain.part area
  pub area_is : area_by chain.areas chain.ends place ≡ Some area

-- It is the one that was found, where its layout was read.
pub placed-at : (chain : AreasNow) (at place : List ℕ) (area : ℕ) (layout : Keyed)
    (here : KeyedChain) → at ≡ place → area_by chain.areas chain.ends at ≡ Some area
    → layout ≡ area_of here area → here ≡ chain.part → IsPlaced chain place area layout
placed-at chain at place area layout here same found is part = record {
  layout_is = layout-at layout here chain.part area is part;
  area_is = area-at chain at place area same found;
}

-- blocks of the area are blocks of the part
pub blocks-kept : (chain : AreasNow) (place : List ℕ) (area : ℕ)
    → area_by chain.areas chain.ends place ≡ Some area → (blocks : List ℕ)
    → All (InArea (area_of chain.part area)) blocks → All (InAreas chain) blocks
blocks-kept chain place area is blocks inside =
    All-weaker (InArea (area_of chain.part area)) (InAreas chain)
    (λ n here. (area, area-kept chain.areas chain.ends place area is, here)) blocks inside

-- which it holds, whatever a split claimed beside them,
pub blocks-held : (chain : AreasNow) (split : Option AreaSplit) (move : Option MoveNow)
    (met : List Met) (blocks : List ℕ) → All (InAreas chain) blocks
    → All (InHeld (KeyedShape chain.part) (known_by chain split move met)) blocks
blocks-held chain split None met blocks inside = inside
blocks-held chain split (Some move) met blocks inside =
    All-weaker (InAreas chain)
    (InHeld (KeyedShape chain.part) (known_by chain split (Some move) met))
    (λ n here. (
      here.0,
      Contains-append_left chain.areas (move.into ∷ []) here.0 here.1,
      here.2,
    )) blocks inside

-- and that are on the volume
pub blocks-on : (part : KeyedChain) (now : Seen) (count : ℕ) → IsChainOn part now → (area : ℕ)
    → area < area_count part.geometry → count ≡ now.count → (blocks : List ℕ)
    → All (InArea (area_of part area)) blocks → All (λ n. n < count) blocks
blocks-on part now count on area below same blocks inside =
    let there = (area-on part now on area below).0 in
    All-weaker (InArea (area_of part area)) (λ n. n < count)
    (λ n here. omega (arith, here.1, there, same)) blocks inside

module _ (chain : AreasNow) (image : Image)
    (knows : KnowsAreas chain.part chain.areas chain.ends image) (place : List ℕ) (area : ℕ)
    (is : area_by chain.areas chain.ends place ≡ Some area) where
  -- The place comes to the area in the image, too,
  pub area-known : area_for chain.part image place ≡ Some area
  area-known = knows-area chain.part chain.areas chain.ends image knows place ∙ is

  -- which has it in its chain.
  pub area-inside : Contains (areas_in chain.part image) area
  area-inside = subst (λ (areas : List ℕ). Contains areas area) knows.areas_are
      (area-kept chain.areas chain.ends place area is)

  -- Where the blocks stand for a content, an entry of its head has the place.
  pub area-comes : Stands (KeyedShape chain.part) image → ComesTo chain.part image place area
  area-comes stands = comes-to chain.part image stands.0 stands.1 place area area-known

-- What is kept has room in each area that the image has in its chain.
linked-rooms : (part : KeyedChain) (now : Seen) → IsChainOn part now → Left now now.cur
    → (kept : Lengths) (k area : ℕ) (low : Option (List ℕ)) → LinksIn part now.cur k area low
    → EachAfter part (λ at. KeepsRoom (area_of part at) kept now) now.may k area
    → EachAfter part (λ at. KeepsRoom (area_of part at) kept now) (IsOf now.cur) k area
linked-rooms part now on left kept zero area low chain room = tt
linked-rooms part now on left kept (suc k) area low chain room =
    let there : head_of part area < now.count =
    omega (arith, (area-on part now on area chain.there).0) in
    let each : IfSome (record_in (head_in part now.cur area)).next
    (EachAfter part (λ at. KeepsRoom (area_of part at) kept now) (IsOf now.cur) k) =
    by (record_in (head_in part now.cur area)).next chain.next
    (room.1 (head_in part now.cur area) (left.each (head_of part area) there))
    (λ further more rooms. linked-rooms part now on left kept k further
    (end_of (head_in part now.cur area)) more rooms) in (
      room.0,
      λ top here. subst (λ (block : Block). IfSome (record_in block).next
          (EachAfter part (λ at. KeepsRoom (area_of part at) kept now) (IsOf now.cur) k))
          (sym here) each,
    )
  where
    by : (next : Option ℕ)
        → IsFollowed part (LinksIn part now.cur k) (head_in part now.cur area) next
        → IfSome next (EachAfter part (λ at. KeepsRoom (area_of part at) kept now) now.may k)
        → ((further : ℕ) → LinksIn part now.cur k further (end_of (head_in part now.cur area))
        → EachAfter part (λ at. KeepsRoom (area_of part at) kept now) now.may k further
        → EachAfter part (λ at. KeepsRoom (area_of part at) kept now) (IsOf now.cur) k further)
        → IfSome next (EachAfter part (λ at. KeepsRoom (area_of part at) kept now) (IsOf now.cur) k)
    by None followed is more = tt
    by (Some further) followed is more = more further followed is

pub rooms-of-area : (part : KeyedChain) (now : Seen) → IsChainOn part now → Left now now.cur
    → (kept : Lengths) → Stands (KeyedShape part) now.cur → ChainKeepsRoom part kept now
    → (area : ℕ) → Contains (areas_in part now.cur) area → KeepsRoom (area_of part area) kept now
rooms-of-area part now on left kept stands room area inside =
    area-each part (λ at. KeepsRoom (area_of part at) kept now) now.cur (area_count part.geometry)
    part.first area
    (linked-rooms part now on left kept (area_count part.geometry) part.first None stands.1.chain
    room) inside

-- what is kept for the part is kept for places of it
pub kept-places : (part : KeyedChain) (kept : Lengths) (now : Seen) → IsChainOn part now
    → ChainKeepsRoom part kept now → ArePlaces part.key kept
kept-places part kept now on room =
    (each-here part (λ area. KeepsRoom (area_of part area) kept now) now.may
    (area_count part.geometry) part.first (omega (arith, on.part_is.first)) room).places

-- ---- the split that is under way

-- its area is one of the chain,
pub way-inside : (part : KeyedChain) (area : ℕ) (split : Option SplitNow) (now : Seen)
    → IsSome split → KeyedUnderWay part (split_at area split) now
    → Contains (areas_in part now.cur) area
way-inside part area None now some way = absurd cc
way-inside part area (Some split) now some way = way.0

-- and where the blocks of one of its areas are as a split left them, it is under way
pub way-there : (part : KeyedChain) (area : ℕ) (split : Option SplitNow) (now : Seen)
    → Contains (areas_in part now.cur) area → AreaUnderWay (area_of part area) split now
    → KeyedUnderWay part (split_at area split) now
way-there part area None now inside way = tt
way-there part area (Some split) now inside way = (inside, way)

-- ---- after a call that puts nothing

module _ (chain : AreasNow) (tells : Bool) (told : IsTrue tells) (a b : Seen)
    (call : Keeps tells a b) (on : IsChainOn chain.part a)
    (stands : Stands (KeyedShape chain.part) a.cur) where
  -- a split stays under way,
  pub under-still : (split : Option AreaSplit) → KeyedUnderWay chain.part split a
      → KeyedUnderWay chain.part split b
  under-still None way = tt
  under-still (Some split) way =
      let linked : IsLinkedArea chain.part a.cur split.area =
      links-in-area chain.part a.cur (area_count chain.part.geometry) chain.part.first None
      stands.1.chain split.area way.0 in (
        subst (λ (image : Image). Contains (areas_in chain.part image) split.area)
            (sym (call.content told)) way.0,
        way-still (area_of chain.part split.area) tells told a b call
            (area-on chain.part a on split.area linked.there).0 linked.stands.head
            (Some split.split) way.1,
      )

  -- each of its splits does,
  pub ways-still : (split : Option AreaSplit) (move : Option MoveNow)
      → KeyedUnderWay chain.part split a × MoveUnderWay chain.part move a
      × ((split ≡ None) ⊎ (move ≡ None)) × IsPastClaim move
      → KeyedUnderWay chain.part split b × MoveUnderWay chain.part move b
      × ((split ≡ None) ⊎ (move ≡ None)) × IsPastClaim move
  ways-still split move way = (
    under-still split way.0,
    move-keeps chain.part move tells told a b call on stands way.1,
    way.2,
    way.3,
  )

  -- and what the part keeps is right, whatever it met of the blocks.
  pub knows-still : (split : Option AreaSplit) (move : Option MoveNow) (old new : List Met)
      → Knows (KeyedShape chain.part) (known_by chain split move old) a
      → All (IsChainMet chain.part a.cur) new
      → Knows (KeyedShape chain.part) (known_by chain split move new) b
  knows-still split move old new knows met = record {
    way = ways-still split move knows.way;
    blocks = (
      subst (KnowsAreas chain.part chain.areas chain.ends) (sym (call.content told))
          knows.blocks.0,
      subst (λ (image : Image). All (IsChainMet chain.part image) new) (sym (call.content told))
          met,
      knows.blocks.2 ∙ ap (intervals_in chain.part) (sym (call.content told)),
    );
  }

-- ---- what the part answers to a record that wants room

module _ (part : KeyedChain) (split : Option AreaSplit) (move : Option MoveNow) (image : Image)
    (free : ℕ) (kept : Lengths) (place : List ℕ) (n area : ℕ)
    (found : area_for part image place ≡ Some area) where
  abbrev answers : Option StageKind → Room
  answers waits = room_after waits (area_room (area_of part area) (split_in split area)
      (stage_under split move) image free kept place n)

  -- that of the area, where it waits for no split of it,
  pub room-there : (stage : Option StageKind) → stage ≡ stage_under split move
      → move_stage move area ≡ None
      → area_room (area_of part area) (split_in split area) stage image free kept place n
      ≡ keyed_room part split move image free kept place n
  room-there stage next none =
      ap (λ (one : Option StageKind).
      area_room (area_of part area) (split_in split area) one image free kept place n) next
      ∙ ap answers (sym none)
      ∙ sym (room-of-area part split move image free kept place n area found)

  -- and else the next stage of that.
  pub room-waits : (stage : StageKind) → move_stage move area ≡ Some stage
      → Stage stage ≡ keyed_room part split move image free kept place n
  room-waits stage waits = ap answers (sym waits)
      ∙ sym (room-of-area part split move image free kept place n area found)

-- ---- what was met

-- what was met of a place that comes to an area is as it was in that area
pub met-at : (part : KeyedChain) (image : Image) (place : List ℕ) (area : ℕ)
    → area_for part image place ≡ Some area → (met : List Met) → All (IsChainMet part image) met
    → All (IsMetAt (area_of part area) image place) met
met-at part image place area found met all =
    All-weaker (IsChainMet part image) (IsMetAt (area_of part area) image place)
    (λ one is same.
    let there : Some is.area ≡ Some area =
    sym is.there ∙ ap (area_for part image) same ∙ found in
    let it : is.area ≡ area = cc in
    subst (λ (at : ℕ). IsMet (area_of part at) image one) it is.is_met)
    met all

-- Each that a call leaves is a block of the area of its place,
pub leaves-mine : (chain : AreasNow) (tells : Bool) (image : Image) (place : List ℕ) (area : ℕ)
    → area_by chain.areas chain.ends place ≡ Some area → (old new : List Met)
    → LeavesMet (area_of chain.part area) tells image place old new → All (IsMine chain) old
    → All (IsMine chain) new
leaves-mine chain tells image place area is old new leaves =
    leaves-all (IsMine chain) (area_of chain.part area) tells image place old new leaves
    (λ one newly. record {
      area = area;
      is = ap (area_by chain.areas chain.ends) newly.place_is ∙ is;
      inside = newly.inside;
    })

-- and as it was met.
pub leaves-met : (part : KeyedChain) (tells : Bool) (image : Image) (place : List ℕ) (area : ℕ)
    → IsTrue tells → area_for part image place ≡ Some area → (old new : List Met)
    → LeavesMet (area_of part area) tells image place old new → All (IsChainMet part image) old
    → All (IsChainMet part image) new
leaves-met part tells image place area told found old new leaves =
    leaves-all (IsChainMet part image) (area_of part area) tells image place old new leaves
    (λ one newly. record {
      area = area;
      there = ap (area_for part image) newly.place_is ∙ found;
      is_met = newly.is_met told;
    })

-- So it is, too, where all may be forgotten, by the layout that was read.
pub none-or-left : (layout here : Keyed) → layout ≡ here → (tells : Bool) (image : Image)
    (place : List ℕ) (P : Met → Type 0) (old new : List Met)
    → (LeavesMet here tells image place old new → All P new)
    → (new ≡ []) ⊎ LeavesMet layout tells image place old new → All P new
none-or-left layout here is tells image place P old new left = ⊎_elim
    (λ none. subst (All P) (sym none) (All-nil P))
    (λ leaves. left (subst (λ (one : Keyed). LeavesMet one tells image place old new) is leaves))

-- What is met of the slots of a part is met of the part.
pub meets-place : (place : List ℕ) (old new : Slots) → MeetsOne place old new
    → (before after : Known) → before.met ≡ mets old → before.most ≡ most_kept old
    → after.met ≡ mets new → after.most ≡ most_kept new → MeetsPlace place before after
meets-place place old new meets before after was most is still =
    let has : (met : List Met) → met ≡ mets new → KeepsAll (mets old) (mets new)
    → (at : List ℕ) → HasMet before at → HasMetPlace met at =
    λ met same kept at has. subst (λ (one : List Met). HasMetPlace one at) (sym same)
    (places-kept (mets old) (mets new) kept at
    (subst (λ (one : List Met). HasMetPlace one at) was has)) in
    record {
      here = subst (λ (met : List Met). HasMetPlace met place) (sym is) meets.here;
      many = omega (
        arith,
        meets.many,
        ap (λ (met : List Met). length met) was,
        ap (λ (met : List Met). length met) is,
      );
      kept = λ fewer. has after.met is
          (meets.kept (omega (arith, fewer, most, ap (λ (met : List Met). length met) was)));
      most = still ∙ meets.most ∙ sym most;
    }
