-- From what a call leaves of one area of a keyed part at rest to what it leaves of the part: what
-- its places may hold, what is sound and at rest, what has to be forced, and room.
use Rattle.std.proofs.Common.{◌≡◌, inl, inr, ⊎_elim, ◌<◌, ℕ, List, Option, Some}
use Rattle.std.proofs.Common.{None, arith, refl, sym, ap, subst, ◌∙◌}
use Rattle.std.specs.Prelude.{Contains}
use Rattle.vr_types.specs.Content.{Item}
use Rattle.vr_types.specs.Geometry.{area_count}
use Rattle.vr_types.specs.Image.{Block, Image, block_at}
use Rattle.vr_types.specs.Moments.{During}
use Rattle.vr_types.specs.Regions.{Outside, Touches}
use Rattle.vr_types.specs.Seen.{Left, Seen}
use Rattle.vr_types.proofs.CallerLemmas.{during-weaken}
use Rattle.vr_space.specs.AreaCalls.{AddsHere, DueMoreAtHere, DueMoreHere, HasHere, HasRoomHere}
use Rattle.vr_space.specs.AreaCalls.{IsDueHere, MayAlsoHoldHere, MayHoldHere, item_here}
use Rattle.vr_space.specs.Areas.{AreLinked, ChainHasRoom, ChainKeepsRoom, ChainStandsFor, EachArea}
use Rattle.vr_space.specs.Areas.{IsChainAtRest, IsChainSound, IsOwnedArea, IsQuietArea, KeyedChain}
use Rattle.vr_space.specs.Areas.{LinksIn, area_for, area_of, areas_in, content_after, head_in}
use Rattle.vr_space.specs.Areas.{head_of}
use Rattle.vr_space.specs.Keyed.{HasEnds, InArea, IsHead, IsKeyedAtRest, IsKeyedSound, KeepsEnds}
use Rattle.vr_space.specs.Keyed.{KeepsRoom, area_way, entries_of, low_of}
use Rattle.vr_space.specs.Owners.{Owners}
use Rattle.vr_space.specs.Part.{AddsTo, DueMore, DueMoreAt, HasOnly, HasRoom, InPart, IsDueTo}
use Rattle.vr_space.specs.Part.{KeyedShape, MayAlsoHold, MayHold, item_of}
use Rattle.vr_space.specs.Room.{Lengths}
use Rattle.vr_space.specs.Rosters.{IsOf}
use Rattle.vr_space.specs.Way.{MayOnceForced}
use Rattle.vr_space.proofs.AreaPlaces.{ChangesArea, by-area, here-same, item-of-area, item-of-none}
use Rattle.vr_space.proofs.AreaPlaces.{other-blocks, same-area}
use Rattle.vr_space.proofs.Due.{on-way-due}
use Rattle.vr_space.proofs.KeyedSound.{IsBlock, head-block, head-in, keyed-less, keyed-within}
use Rattle.vr_space.proofs.KeyedSound.{ranges-held}
use Rattle.vr_space.proofs.LinkedContent.{chain-item, found-area, item_by}
use Rattle.vr_space.proofs.Links.{areas-apart}
use Rattle.vr_space.proofs.Links.{each-after-less}
use Rattle.vr_space.proofs.PartBlocks.{chain-on-less}
use Rattle.vr_space.proofs.Resting.{IsResting, IsRestingRoom, due-here, hold-up, old-head}
use Rattle.vr_space.proofs.Resting.{resting-area, resting-each, resting-for, resting-links}
use Rattle.vr_space.proofs.Resting.{resting-rooms}
use Rattle.vr_space.proofs.Rooms.{area-room-image, area-room-less}
use Rattle.vr_space.proofs.SameEnds.{HasSameEnds, IsAlike, KeepsHead, MayHoldBy, area-kept}
use Rattle.vr_space.proofs.SameEnds.{each-after-kept, keeps-head, links-in-kept, links-kept}
use Rattle.vr_space.proofs.SameEnds.{ways-down}
use Rattle.vr_space.proofs.Ways.{find-less, found-may}

-- What calls leave that put into one area alone: the other blocks as they were, and heads with the
-- ends that they had.
pub record PutsInto (part : KeyedChain) (area : ℕ) (old new : Seen) : Type 0 where
  pub count : new.count ≡ old.count
  pub size : new.size ≡ old.size
  pub content : (n : ℕ) → Outside (InArea (area_of part area)) n
      → block_at new.cur n ≡ block_at old.cur n
  pub fewer : (n : ℕ) (block : Block) → n < old.count → Outside (InArea (area_of part area)) n
      → new.may n block → old.may n block
  pub ends : KeepsEnds (area_of part area) old new

-- so do those that add to what its places may hold
pub adds-puts : (part : KeyedChain) (area : ℕ) (A : List ℕ → Option Item → Type 0) (old new : Seen)
    → AddsHere (area_of part area) A old new → PutsInto part area old new
adds-puts part area A old new call = record {
  count = call.touches.count_same;
  size = call.touches.size_same;
  content = call.touches.content;
  fewer = call.touches.adds_none;
  ends = call.ends;
}

-- ---- the part after

module _ (part : KeyedChain) (owners : Owners) (area : ℕ) (old new : Seen)
    (rests : IsChainAtRest part owners old) (left : Left old old.cur)
    (inside : Contains (areas_in part old.cur) area) (puts : PutsInto part area old new) where
  -- the area is one of the chain
  mine : IsResting part owners old area
  mine = resting-area part owners old rests left area inside

  -- its blocks are none of the others
  outside : (at : ℕ) → (at ≡ area → ⊥) → (n : ℕ) → InArea (area_of part at) n
      → Outside (InArea (area_of part area)) n
  outside at differ n is there = areas-apart part at area n differ is there

  -- of which a crash leaves no more
  others-less : (at : ℕ) → (at ≡ area → ⊥) → (n : ℕ) (block : Block)
      → IsBlock (area_of part at) old n → new.may n block → old.may n block
  others-less at differ n block is may = puts.fewer n block is.0 (outside at differ n is.1) may

  -- Each head that a crash may leave has the ends of the one before,
  pub heads-kept : (at : ℕ) → IsResting part owners old at → KeepsHead part old.cur new.may at
  heads-kept at is = by-area (KeepsHead part old.cur new.may) area at
      (λ top may. let from = puts.ends top may in
      subst (λ (before : Block). HasEnds before top) (mine.0.one_head from.0 from.1) from.2)
      (λ differ top may. old-head part owners old rests left at is top
      (others-less at differ (head_of part at) top (head-block (area_of part at) old is.1) may))

  heads-each : EachArea part (KeepsHead part old.cur new.may) (IsOf old.cur)
  heads-each = each-after-less part (IsResting part owners old) (KeepsHead part old.cur new.may)
      (IsOf old.cur) (IsOf old.cur) heads-kept (λ at is top here. here) (area_count part.geometry)
      part.first (resting-each part owners old rests left)

  sound-kept : IsKeyedSound (area_of part area) new → (at : ℕ) → IsResting part owners old at
      → IsKeyedSound (area_of part at) new
  sound-kept sound at is = by-area (λ one. IsKeyedSound (area_of part one) new) area at sound
      (λ differ. keyed-less (area_of part at) old new puts.count puts.size (others-less at differ)
      is.1)

  -- so the chain goes on as it did.
  chain-kept : (Own : ℕ → Type 0) → ((at : ℕ) → IsResting part owners old at → Own at)
      → IsKeyedSound (area_of part area) new → AreLinked part Own new
  chain-kept Own own sound = links-kept part old.cur Own new (area_count part.geometry) part.first
      None (resting-links part owners old rests left)
      (each-after-less part (IsResting part owners old)
      (λ at. KeepsHead part old.cur new.may at × Own at × IsKeyedSound (area_of part at) new)
      (IsOf old.cur) (IsOf old.cur) (λ at is. (heads-kept at is, own at is, sound-kept sound at is))
      (λ at is top here. here) (area_count part.geometry) part.first
      (resting-each part owners old rests left))

  -- The part is sound where the area is,
  pub lift-sound : IsKeyedSound (area_of part area) new → IsChainSound part owners new
  lift-sound sound = record {
    on = chain-on-less part old new puts.count puts.size rests.on;
    chain = chain-kept (IsOwnedArea part owners) (λ at is. is.0.own) sound;
  }

  -- and at rest where it is.
  pub lift-rest : IsKeyedAtRest (area_of part area) new → IsChainAtRest part owners new
  lift-rest rest = record {
    on = chain-on-less part old new puts.count puts.size rests.on;
    chain = chain-kept (IsQuietArea part owners new)
        (λ at is. record {
          own = is.0.own;
          one_head = by-area
              (λ one. (top : Block) → new.may (head_of part one) top
              → top ≡ head_in part new.cur one)
              area at rest.one_head
              (λ differ top may. is.0.one_head top (others-less at differ (head_of part at) top
              (head-block (area_of part at) old is.1) may)
              ∙ sym (puts.content (head_of part at)
              (outside at differ (head_of part at) (omega arith, omega arith))));
        })
        rest.sound;
  }

  -- ---- what places may hold

  -- What a place of the part may hold is what it might hold before, or what is allowed, where that
  -- is so of the area.
  pub lift-holds : (A : List ℕ → Option Item → Type 0) (place : List ℕ) (item : Option Item)
      → (MayHoldHere (area_of part area) new.may place item
      → MayAlsoHoldHere (area_of part area) old.may A place item)
      → MayHold (KeyedShape part) new.may place item
      → MayAlsoHold (KeyedShape part) old.may A place item
  lift-holds A place item here holds = by_found (area_for part old.cur place) refl
      (ways-down part old.cur new.may place item (area_count part.geometry) part.first heads-each
      holds)
      (hold-up part owners old rests left place item)
    where
      Wanted : Type 0
      Wanted = MayAlsoHold (KeyedShape part) old.may A place item

      by_found : (found : Option ℕ) → area_for part old.cur place ≡ found
          → MayHoldBy part old.cur new.may place item found
          → (MayHoldBy part old.cur old.may place item found
          → MayHold (KeyedShape part) old.may place item)
          → MayAlsoHold (KeyedShape part) old.may A place item
      by_found None is none up = inl (up none)
      by_found (Some at) is found up = by-area
          (λ one. MayHoldHere (area_of part one) new.may place item
          → (MayHoldHere (area_of part one) old.may place item
          → MayHold (KeyedShape part) old.may place item)
          → MayAlsoHold (KeyedShape part) old.may A place item)
          area at
          (λ may back. ⊎_elim (λ before. inl (back before)) (λ added. inr added) (here may))
          (λ differ may back. inl (back (find-less (IsBlock (area_of part at) old) new.may old.may
          item (others-less at differ) (area_way (area_of part at) place)
          (keyed-within (area_of part at) old
          (resting-for part owners old rests left place at is).1 place) may)))
          found up

-- ---- an image

-- the blocks of the part that aren't of the area are allowed in it
abbrev pub HasOthers : KeyedChain → Owners → ℕ → Seen → Image → Type 0
HasOthers part owners area old image = (n : ℕ) → n < old.count
    → Outside (InArea (area_of part area)) n → InPart (KeyedShape part) owners n
    → old.may n (block_at image n)

module _ (part : KeyedChain) (owners : Owners) (area : ℕ) (old : Seen)
    (rests : IsChainAtRest part owners old) (left : Left old old.cur)
    (inside : Contains (areas_in part old.cur) area)
    (O : List ℕ → Option Item → Type 0) (image : Image)
    (has : HasHere (area_of part area) old O image)
    (others : HasOthers part owners area old image) where
  -- each block of another area is allowed
  other-may : (at : ℕ) → IsResting part owners old at → (at ≡ area → ⊥) → (n : ℕ)
      → IsBlock (area_of part at) old n → old.may n (block_at image n)
  other-may at is differ n block = others n block.0
      (λ there. areas-apart part at area n differ block.1 there) (is.0.own.owned n block.1)

  -- Each area is in order, with the ends that it had.
  image-alike : (at : ℕ) → IsResting part owners old at → IsAlike part old.cur image at
  image-alike at is = by-area (IsAlike part old.cur image) area at
      (record {
        ends = subst (λ (before : Block). HasEnds before (head_in part image area))
            ((resting-area part owners old rests left area inside).0.one_head has.before
            has.allowed) has.ends;
        head = has.head;
        intervals = has.intervals;
      })
      (λ differ.
      let one = area_of part at in
      let top : Block = head_in part image at in
      let may : old.may (head_of part at) top =
      other-may at is differ (head_of part at) (head-block one old is.1) in
      let head : IsHead one top = is.1.heads top may in
      record {
        ends = old-head part owners old rests left at is top may;
        head = head;
        intervals = ranges-held one old image (low_of top) (entries_of top)
            (other-may at is differ) is.1.area (head-in one top head) (is.1.intervals top may);
      })

  alike-each : EachArea part (IsAlike part old.cur image) (IsOf old.cur)
  alike-each = each-after-less part (IsResting part owners old) (IsAlike part old.cur image)
      (IsOf old.cur) (IsOf old.cur) image-alike (λ at is top here. here) (area_count part.geometry)
      part.first (resting-each part owners old rests left)

  -- So is the chain,
  image-links : LinksIn part image (area_count part.geometry) part.first None
  image-links = links-in-kept part old.cur image (area_count part.geometry) part.first None
      (resting-links part owners old rests left) alike-each

  -- and what is true of each area of it before is true of each now.
  image-each : (P : ℕ → Type 0) → ((at : ℕ) → IsResting part owners old at → P at)
      → EachArea part P (IsOf image)
  image-each P all = each-after-kept part old.cur P (IsOf image) (area_count part.geometry)
      part.first
      (each-after-less part (IsResting part owners old)
      (λ at. KeepsHead part old.cur (IsOf image) at × P at) (IsOf old.cur) (IsOf old.cur)
      (λ at is. (keeps-head part old.cur image at (image-alike at is).ends, all at is))
      (λ at is top here. here) (area_count part.geometry) part.first
      (resting-each part owners old rests left))

  -- a place has the item of the area to which it came
  image-item : (place : List ℕ) → item_of (KeyedShape part) image place
      ≡ item_by part image place (area_for part old.cur place)
  image-item place =
      found-area part image place (area_count part.geometry) part.first
      ∙ ap (item_by part image place)
      (area-kept part old.cur image place (area_count part.geometry) part.first
      (each-after-less part (IsAlike part old.cur image) (HasSameEnds part old.cur image)
      (IsOf old.cur) (IsOf old.cur) (λ at is. is.ends) (λ at is top here. here)
      (area_count part.geometry) part.first alike-each))

  -- Each place of the part has what it might hold before, or what is allowed, where that is so of
  -- the area.
  image-holds : (A : List ℕ → Option Item → Type 0)
      → ((place : List ℕ) → MayAlsoHoldHere (area_of part area) old.may A place
      (item_here (area_of part area) image place))
      → (place : List ℕ)
      → MayAlsoHold (KeyedShape part) old.may A place
      (item_by part image place (area_for part old.cur place))
  image-holds A here place = by_found (area_for part old.cur place) refl
      (λ item. hold-up part owners old rests left place item)
    where
      by_found : (found : Option ℕ) → area_for part old.cur place ≡ found
          → ((item : Option Item) → MayHoldBy part old.cur old.may place item found
          → MayHold (KeyedShape part) old.may place item)
          → MayAlsoHold (KeyedShape part) old.may A place (item_by part image place found)
      by_found None is up = inl (up None refl)
      by_found (Some at) is up = by-area
          (λ one. ((item : Option Item) → MayHoldHere (area_of part one) old.may place item
          → MayHold (KeyedShape part) old.may place item)
          → MayAlsoHold (KeyedShape part) old.may A place
          (item_here (area_of part one) image place))
          area at
          (λ back. ⊎_elim (λ before. inl (back _ before)) (λ added. inr added) (here place))
          (λ differ back.
          let resting = resting-for part owners old rests left place at is in
          inl (back _ (found-may (IsBlock (area_of part at) old) old.may image
          (other-may at resting differ) (area_way (area_of part at) place)
          (keyed-within (area_of part at) old resting.1 place))))
          up

  -- So the image stands for a content in blocks of the part alone.
  image-only : (A : List ℕ → Option Item → Type 0)
      → ((place : List ℕ) → MayAlsoHoldHere (area_of part area) old.may A place
      (item_here (area_of part area) image place))
      → HasOnly (KeyedShape part) owners (MayAlsoHold (KeyedShape part) old.may A) image
  image-only A here =
      let content = content_after part image (area_count part.geometry) part.first in
      let stands : ChainStandsFor part image content =
      record { part_is = rests.on.part_is; chain = image-links; records = refl } in
      record {
        content = content;
        stands = stands;
        within = image-each (IsOwnedArea part owners) (λ at is. is.0.own);
        each = λ place. subst (MayAlsoHold (KeyedShape part) old.may A place)
            (sym (chain-item part image content stands place ∙ image-item place))
            (image-holds A here place);
      }

  -- It has room where the area has, and had before.
  image-room : (kept : Lengths) → ((at : ℕ) → IsResting part owners old at
      → KeepsRoom (area_of part at) kept old → HasRoomHere (area_of part at) kept image)
      → ChainKeepsRoom part kept old → ChainHasRoom part kept image
  image-room kept all room = each-after-kept part old.cur
      (λ at. HasRoomHere (area_of part at) kept image) (IsOf image) (area_count part.geometry)
      part.first
      (each-after-less part (IsRestingRoom part owners kept old)
      (λ at. KeepsHead part old.cur (IsOf image) at × HasRoomHere (area_of part at) kept image)
      (IsOf old.cur) (IsOf old.cur)
      (λ at is. (keeps-head part old.cur image at (image-alike at is.0).ends, all at is.0 is.1))
      (λ at is top here. here) (area_count part.geometry) part.first
      (resting-rooms part owners old rests left kept room))

  pub lift-image-room : (kept : Lengths) → HasRoomHere (area_of part area) kept image
      → ChainKeepsRoom part kept old → HasRoom (KeyedShape part) kept image
  lift-image-room kept here = image-room kept
      (λ at is room. by-area (λ one. HasRoomHere (area_of part one) kept image) area at here
      (λ differ. area-room-image (area_of part at) kept old is.1 room image
      (record { each = λ n below within. other-may at is differ n (below, within) })))

-- ---- moments

during-both : (a b : Seen) (P Q : Image → Type 0) → During a b P → During a b Q
    → During a b (λ image. P image × Q image)
during-both a b P Q one other = record {
  forward = one.forward;
  passed = one.passed;
  kept = one.kept;
  each = λ t image from to left. (one.each t image from to left, other.each t image from to left);
}

-- two things that each image of some calls has
pub touches-both : (region : ℕ → Type 0) (P Q : Image → Type 0) (a b : Seen)
    → Touches region P a b → Touches region Q a b → Touches region (λ image. P image × Q image) a b
touches-both region P Q a b one other = record {
  count_same = one.count_same;
  size_same = one.size_same;
  content = one.content;
  adds_none = one.adds_none;
  moments = during-weaken a b _ _ (during-both a b _ _ one.moments other.moments)
      (λ image has. (has.0.0, (has.0.1, has.1.1)));
  rest = λ image left. (one.rest image left, other.rest image left);
}

-- calls that put into an area of the part's own put into the part
pub touches-part : (part : KeyedChain) (owners : Owners) (area : ℕ) (P Q : Image → Type 0)
    (old new : Seen) → IsOwnedArea part owners area
    → Touches (InArea (area_of part area)) P old new
    → ((image : Image) → P image → HasOthers part owners area old image → Q image)
    → Touches (InPart (KeyedShape part) owners) Q old new
touches-part part owners area P Q old new own call wider = record {
  count_same = call.count_same;
  size_same = call.size_same;
  content = λ n out. call.content n (λ is. out (own.owned n is));
  adds_none = λ n block below out. call.adds_none n block below (λ is. out (own.owned n is));
  moments = during-weaken old new _ _ call.moments (λ image has. (
    record { each = λ n below out. has.0.each n below (λ is. out (own.owned n is)) },
    wider image has.1 (λ n below out inside. has.0.each n below out),
  ));
  rest = λ image left. wider image
      (call.rest image (record { each = λ n below is. left.each n below (own.owned n is) }))
      (λ n below out inside. call.adds_none n (block_at image n) below out
      (left.each n (omega (arith, below, call.count_same)) inside));
}

-- ---- what calls in an area leave of the part

module _ (part : KeyedChain) (owners : Owners) (area : ℕ) (old new : Seen)
    (rests : IsChainAtRest part owners old) (left : Left old old.cur)
    (inside : Contains (areas_in part old.cur) area) where
  own : IsOwnedArea part owners area
  own = (resting-area part owners old rests left area inside).0.own

  -- They add to what places of the part may hold what they add in the area.
  pub lift-adds : (A : List ℕ → Option Item → Type 0) → AddsHere (area_of part area) A old new
      → AddsTo (KeyedShape part) owners A old new
  lift-adds A call =
      let puts : PutsInto part area old new = adds-puts part area A old new call in
      record {
        touches = touches-part part owners area _ _ old new own call.touches
            (λ image has others. image-only part owners area old rests left inside
            (MayAlsoHoldHere (area_of part area) old.may A) image has others A has.each);
        rest = λ place item. lift-holds part owners area old new rests left inside puts A place item
            (call.rest place item);
        sound = lift-sound part owners area old new rests left inside puts call.sound;
      }

  -- What is kept has room in each of their moments where it has it in the area,
  pub lift-rooms : (A : List ℕ → Option Item → Type 0) (kept : Lengths)
      → AddsHere (area_of part area) A old new → ChainKeepsRoom part kept old
      → Touches (InArea (area_of part area)) (HasRoomHere (area_of part area) kept) old new
      → Touches (InPart (KeyedShape part) owners) (HasRoom (KeyedShape part) kept) old new
  lift-rooms A kept call room rooms = touches-part part owners area _ _ old new own
      (touches-both (InArea (area_of part area)) _ _ old new call.touches rooms)
      (λ image has others. lift-image-room part owners area old rests left inside
      (MayAlsoHoldHere (area_of part area) old.may A) image has.0 others kept has.1 room)

  module _ (puts : PutsInto part area old new) where
    -- and from then on.
    pub lift-room : (kept : Lengths) → KeepsRoom (area_of part area) kept new
        → ChainKeepsRoom part kept old → ChainKeepsRoom part kept new
    lift-room kept here room = each-after-kept part old.cur
        (λ at. KeepsRoom (area_of part at) kept new) new.may (area_count part.geometry) part.first
        (each-after-less part (IsRestingRoom part owners kept old)
        (λ at. KeepsHead part old.cur new.may at × KeepsRoom (area_of part at) kept new)
        (IsOf old.cur) (IsOf old.cur)
        (λ at is. (
          heads-kept part owners area old new rests left inside puts at is.0,
          by-area (λ one. KeepsRoom (area_of part one) kept new) area at here
              (λ differ. area-room-less (area_of part at) kept old new
              (others-less part owners area old new rests left inside puts at differ) is.0.1 is.1),
        ))
        (λ at is top is_top. is_top) (area_count part.geometry) part.first
        (resting-rooms part owners old rests left kept room))

    -- The current head has the ends that it had.
    pub changes-area : Left new new.cur → ChangesArea part area old.cur new.cur
    changes-area now = record {
      others = puts.content;
      ends =
          let resting = resting-area part owners old rests left area inside in
          heads-kept part owners area old new rests left inside puts area resting
          (head_in part new.cur area)
          (now.each (head_of part area) (omega (arith, resting.1.area, puts.count)));
    }

    -- What is due to some blocks for a place of the part is so after where it is in the area.
    pub lift-due-place : (listed place : List ℕ) → ChangesArea part area old.cur new.cur
        → (IsDueHere (area_of part area) listed old place
        → IsDueHere (area_of part area) listed new place)
        → IsDueTo (KeyedShape part) listed old place → IsDueTo (KeyedShape part) listed new place
    lift-due-place listed place changes here due item holds =
        by_found (area_for part old.cur place) refl
        (ways-down part old.cur (MayOnceForced listed new) place item (area_count part.geometry)
        part.first
        (each-after-less part (KeepsHead part old.cur new.may)
        (KeepsHead part old.cur (MayOnceForced listed new)) (IsOf old.cur) (IsOf old.cur)
        (λ at keeps top may. keeps top may.0) (λ at keeps top is. is) (area_count part.geometry)
        part.first (heads-each part owners area old new rests left inside puts)) holds)
      where
        now-at : (found : Option ℕ) → area_for part old.cur place ≡ found
            → area_for part new.cur place ≡ found
        now-at found is = same-area part area old.cur new.cur changes place ∙ is

        by_found : (found : Option ℕ) → area_for part old.cur place ≡ found
            → MayHoldBy part old.cur (MayOnceForced listed new) place item found
            → item ≡ item_of (KeyedShape part) new.cur place
        by_found None is none = none ∙ sym (item-of-none part new.cur place (now-at None is))
        by_found (Some at) is held =
            by-area
            (λ one. IsDueHere (area_of part one) listed old place
            → IsDueHere (area_of part one) listed new place)
            area at here
            (λ differ before.
            let resting = resting-for part owners old rests left place at is in
            on-way-due (IsBlock (area_of part at) old) listed listed
            (area_way (area_of part at) place) old new
            (keyed-within (area_of part at) old resting.1 place)
            (λ n block there may. (
              others-less part owners area old new rests left inside puts at differ n block there
                  may.0,
              λ forced. may.1 forced
                  ∙ other-blocks part area old.cur new.cur changes at differ n there.1,
            ))
            (here-same (area_of part at) old.cur new.cur
            (resting.1.heads (head_in part old.cur at)
            (left.each (head_of part at) (omega (arith, resting.1.area))))
            (other-blocks part area old.cur new.cur changes at differ) place) before)
            (due-here part owners old rests left listed place due at is) item held
            ∙ sym (item-of-area part new.cur place at (now-at (Some at) is))

    -- So what has to be forced for a place is what had to be, and what has to be in the area,
    pub lift-due : ChangesArea part area old.cur new.cur → (put : List ℕ)
        → DueMoreHere (area_of part area) put old new → DueMore (KeyedShape part) put old new
    lift-due changes put more listed place due within = lift-due-place listed place changes
        (λ here. more listed place here within) due

    -- also where a record is set at one place.
    pub lift-due-at : ChangesArea part area old.cur new.cur → (at put : List ℕ)
        → DueMoreAtHere (area_of part area) at put old new
        → DueMoreAt (KeyedShape part) at put old new
    lift-due-at changes at put more listed place due either = lift-due-place listed place changes
        (λ here. more listed place here either) due
