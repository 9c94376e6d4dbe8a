-- What a part keeps while others put: what rests on its own blocks alone.
use Rattle.std.proofs.Common.{◌≡◌, ⊎_elim, inl, inr, ◌<◌, ℕ, Bool, IsTrue, List, Option, Some}
use Rattle.std.proofs.Common.{None, refl, sym, ap, subst, ◌∙◌, arith, length}
use Rattle.std.specs.Prelude.{Contains}
use Rattle.std.proofs.lemmas.List.Elements.{All-weaker}
use Rattle.vr_types.specs.Blocks.{Keeps, Puts}
use Rattle.vr_types.specs.Image.{Block, block_at}
use Rattle.vr_types.specs.Seen.{Left, Seen}
use Rattle.vr_types.specs.Geometry.{area_count}
use Rattle.vr_seqset.specs.Entry.{Entry}
use Rattle.vr_space.specs.Areas.{EachAfter, IsChainSound, IsOwnedArea, KeyedChain, area_for}
use Rattle.vr_space.specs.Areas.{area_of}
use Rattle.vr_space.specs.Areas.{areas_in, head_in, head_of}
use Rattle.vr_space.specs.Keyed.{HasEnds, InArea, IsHead, IsKeyedSound, Keyed, entry_block}
use Rattle.vr_space.specs.Keyed.{entry_in}
use Rattle.vr_space.specs.Known.{Known}
use Rattle.vr_space.specs.Met.{IsChainMet, Met}
use Rattle.vr_space.specs.Owners.{Owners}
use Rattle.vr_space.specs.Part.{AreMet, CanSet, HasKeptRoom, HasRoomFor, InPart, IsSound}
use Rattle.vr_space.specs.Part.{IsUnderWay, KeyedShape, Knows, NumberedShape, OwnsClaimed, Shape}
use Rattle.vr_space.specs.Part.{fits_at, part_no}
use Rattle.vr_space.specs.Room.{Lengths, Range}
use Rattle.vr_space.specs.Rosters.{IsOf}
use Rattle.vr_space.specs.Moves.{MoveUnderWay, OwnsInto}
use Rattle.vr_space.specs.Split.{AreaSplit, MoveNow, area_fits, first_stage, fits_by, fits_in}
use Rattle.vr_space.specs.Split.{keyed_fits, keyed_stage, move_stage, split_in, stage_by, stage_in}
use Rattle.vr_space.specs.UnderWay.{KeyedUnderWay}
use Rattle.vr_space.proofs.Adding.{rest-stands}
use Rattle.vr_space.proofs.Ends.{same-ends}
use Rattle.vr_space.proofs.IntervalCounts.{intervals-kept}
use Rattle.vr_space.proofs.LinkedContent.{area-found}
use Rattle.vr_space.proofs.Links.{area-each, each-after-image, each-after-less, links-each}
use Rattle.vr_space.proofs.Links.{links-image}
use Rattle.vr_space.proofs.NumberedKnown.{numbered-fits-same, numbered-known}
use Rattle.vr_space.proofs.PartBlocks.{StaysPart, stays-keeps, stays-puts}
use Rattle.vr_space.proofs.Rooms.{room-less}
use Rattle.vr_space.proofs.SameEnds.{HasSameEnds, area-kept, areas-kept, knows-kept}
use Rattle.vr_space.proofs.MovesUnderWay.{move-keeps, moving-stays}
use Rattle.vr_space.proofs.UnderWay.{AreaStays, found-in, met-stays, way-stays}

-- the blocks of a keyed part's area do
record StaysArea (part : Keyed) (a b : Seen) : Type 0 where
  count : b.count ≡ a.count
  size : b.size ≡ a.size
  same : (n : ℕ) → InArea part n → block_at b.cur n ≡ block_at a.cur n
  fewer : (n : ℕ) (block : Block) → n < a.count → InArea part n → b.may n block → a.may n block

area-stays : (part : KeyedChain) (owners : Owners) (a b : Seen) (area : ℕ)
    → IsOwnedArea part owners area → StaysPart (KeyedShape part) owners a b
    → StaysArea (area_of part area) a b
area-stays part owners a b area own stays = record {
  count = stays.count;
  size = stays.size;
  same = λ n inside. stays.same n (own.owned n inside);
  fewer = λ n block below inside. stays.fewer n block below (own.owned n inside);
}

blocks-stay : (part : Keyed) (a b : Seen) → StaysArea part a b → AreaStays part a b
blocks-stay part a b stays n is = record {
  cur = stays.same n is.1;
  less = λ bytes may. stays.fewer n bytes is.0 is.1 may;
}

-- an area of the part's own is in order, and as it was
record IsStill (part : KeyedChain) (a b : Seen) (area : ℕ) : Type 0 where
  sound : IsKeyedSound (area_of part area) a
  stays : StaysArea (area_of part area) a b
  head : IsHead (area_of part area) (head_in part a.cur area)
  same : head_in part b.cur area ≡ head_in part a.cur area

module _ (part : KeyedChain) (owners : Owners) (a b : Seen)
    (stays : StaysPart (KeyedShape part) owners a b) (chain : IsChainSound part owners a)
    (left : Left a a.cur) where
  each-still : EachAfter part (IsStill part a b) (IsOf a.cur) (area_count part.geometry) part.first
  each-still = each-after-image part
      (λ area. IsOwnedArea part owners area × IsKeyedSound (area_of part area) a)
      (IsStill part a b) a.may a.cur
      (λ area is. record {
        sound = is.1;
        stays = area-stays part owners a b area is.0 stays;
        head = is.1.heads (head_in part a.cur area) (top-may area is.1);
        same = stays.same (head_of part area)
            (is.0.owned (head_of part area) (omega arith, omega arith));
      })
      (λ area is. top-may area is.1) (area_count part.geometry) part.first
      (links-each part (IsOwnedArea part owners) a (area_count part.geometry) part.first None
      chain.chain)
    where
      top-may : (area : ℕ) → IsKeyedSound (area_of part area) a
          → a.may (head_of part area) (head_in part a.cur area)
      top-may area sound = left.each (head_of part area) (omega (arith, sound.area))

  each-same : EachAfter part (HasSameEnds part a.cur b.cur) (IsOf a.cur)
      (area_count part.geometry) part.first
  each-same = each-after-less part (IsStill part a b) (HasSameEnds part a.cur b.cur) (IsOf a.cur)
      (IsOf a.cur)
      (λ area is. subst (HasEnds (head_in part a.cur area)) (sym is.same)
      (same-ends (head_in part a.cur area)))
      (λ area is top same. same) (area_count part.geometry) part.first each-still

  -- so the chain has the areas that it had,
  areas-stay : areas_in part b.cur ≡ areas_in part a.cur
  areas-stay = areas-kept part a.cur b.cur (area_count part.geometry) part.first each-same

  -- a place comes to the same one,
  area-stay : (place : List ℕ) → area_for part b.cur place ≡ area_for part a.cur place
  area-stay place = area-kept part a.cur b.cur place (area_count part.geometry) part.first each-same

  -- and each is as it was.
  area-still : (area : ℕ) → Contains (areas_in part a.cur) area → IsStill part a b area
  area-still area = area-each part (IsStill part a b) a.cur (area_count part.geometry) part.first
      area each-still

  found-still : (place : List ℕ) (area : ℕ) → area_for part a.cur place ≡ Some area
      → IsStill part a b area
  found-still place area found = area-still area
      (area-found part a.cur place (area_count part.geometry) part.first None
      (links-image part (IsOwnedArea part owners) a a.cur (λ at own. own.there)
      (λ at own n is. left.each n is.0) (area_count part.geometry) part.first None chain.chain)
      refl area found).inside

  chain-under : (split : Option AreaSplit) → KeyedUnderWay part split a
      → KeyedUnderWay part split b
  chain-under None way = tt
  chain-under (Some split) way =
      let still : IsStill part a b split.area = area-still split.area way.0 in (
        subst (λ (areas : List ℕ). Contains areas split.area) (sym areas-stay) way.0,
        way-stays (area_of part split.area) (Some split.split) a b still.sound left
            (λ now some n block named.
            blocks-stay (area_of part split.area) a b still.stays n block) way.1,
      )

  -- The split of an area stays so, where the area that it claimed is the part's own.
  chain-moves : (move : Option MoveNow) → OwnsInto part owners move → MoveUnderWay part move a
      → MoveUnderWay part move b
  chain-moves None owns moves = tt
  chain-moves (Some move) owns moves =
      let still : IsStill part a b move.area = area-still move.area moves.inside in
      moving-stays part move a b chain.on (omega (arith, still.sound.area)) still.head areas-stay
      (blocks-stay (area_of part move.area) a b still.stays)
      (λ later. blocks-stay (area_of part move.into) a b
      (area-stays part owners a b move.into (owns later) stays)) moves

  chain-met : (one : Met) → IsChainMet part a.cur one → IsChainMet part b.cur one
  chain-met one is =
      let still : IsStill part a b is.area = found-still one.place is.area is.there in
      record {
        area = is.area;
        there = area-stay one.place ∙ is.there;
        is_met = met-stays (area_of part is.area) a.cur b.cur one still.head still.same
            (λ inside. still.stays.same one.number inside) is.is_met;
      }

module _ (a b : Seen) where
  pub room-stays : (shape : Shape) (owners : Owners) (kept : Lengths)
      → StaysPart shape owners a b → IsSound shape owners a → HasKeptRoom shape kept a
      → HasKeptRoom shape kept b
  room-stays shape owners kept stays =
      room-less shape owners kept a b (λ n block is. stays.fewer n block is.0 is.1)

  -- a split under way stays so, where the area that it claimed is the part's own,
  under-stays : (shape : Shape) (owners : Owners) (known : Known) → StaysPart shape owners a b
      → IsSound shape owners a → Left a a.cur → OwnsClaimed shape owners known
      → IsUnderWay shape known a → IsUnderWay shape known b
  under-stays (KeyedShape part) owners known stays sound left owns way = (
    chain-under part owners a b stays sound left known.split way.0,
    chain-moves part owners a b stays sound left known.move owns way.1,
    way.2,
    way.3,
  )
  under-stays (NumberedShape part) owners known stays sound left owns way = tt

  -- the blocks that were met as they were,
  met-known : (shape : Shape) (owners : Owners) (known : Known) → StaysPart shape owners a b
      → IsSound shape owners a → Left a a.cur → AreMet shape known a.cur → AreMet shape known b.cur
  met-known (KeyedShape part) owners known stays sound left met = (
    knows-kept part a.cur b.cur known.areas known.ends
        (each-same part owners a b stays sound left) met.0,
    All-weaker (IsChainMet part a.cur) (IsChainMet part b.cur)
        (chain-met part owners a b stays sound left) known.met met.1,
    met.2 ∙ sym (intervals-kept part a.cur b.cur (areas-stay part owners a b stays sound left)
        (λ area inside. (area-still part owners a b stays sound left area inside).same)),
  )
  met-known (NumberedShape part) owners known stays sound left met =
      numbered-known part owners a b stays sound left known met

  -- and so does what a part knows of its blocks.
  pub knows-stays : (shape : Shape) (owners : Owners) (known : Known)
      → StaysPart shape owners a b → IsSound shape owners a → Left a a.cur
      → OwnsClaimed shape owners known → Knows shape known a → Knows shape known b
  knows-stays shape owners known stays sound left owns knows = record {
    way = under-stays shape owners known stays sound left owns knows.way;
    blocks = met-known shape owners known stays sound left knows.blocks;
  }

  -- the record that fits where the interval is as it was
  fits-stays : (part : Keyed) (kept : Lengths) (place : List ℕ) (n : ℕ)
      → StaysArea part a b → (found : Option (Range × Entry))
      → ((at : Range × Entry) → found ≡ Some at → InArea part (entry_block part at.1))
      → fits_in part b.cur kept place n found ≡ fits_in part a.cur kept place n found
  fits-stays part kept place n stays None inside = refl
  fits-stays part kept place n stays (Some at) inside =
      ap (λ (block : Block). Rattle.vr_space.specs.Room.have_room part.size
      (Rattle.vr_space.specs.Room.with_length
      (Rattle.vr_space.specs.Keyed.lengths_of part kept at.0 block) place n))
      (stays.same (entry_block part at.1) (inside at refl))

  fits-same : (part : Keyed) (kept : Lengths) (place : List ℕ) (n : ℕ)
      → StaysArea part a b → IsHead part (block_at a.cur part.head)
      → area_fits part b.cur kept place n ≡ area_fits part a.cur kept place n
  fits-same part kept place n stays head =
      ap (λ (top : Block). fits_in part b.cur kept place n (entry_in top place))
      (stays.same part.head (omega arith, omega arith))
      ∙ fits-stays part kept place n stays
      (entry_in (block_at a.cur part.head) place)
      (λ at is. let below = found-in part (block_at a.cur part.head) place at head is in
      (omega arith, omega (arith, below)))

  chain-fits-same : (part : KeyedChain) (owners : Owners)
      → StaysPart (KeyedShape part) owners a b → IsChainSound part owners a → Left a a.cur
      → (kept : Lengths) (place : List ℕ) (n : ℕ)
      → keyed_fits part b.cur kept place n ≡ keyed_fits part a.cur kept place n
  chain-fits-same part owners stays sound left kept place n =
      ap (fits_by part b.cur kept place n) (area-stay part owners a b stays sound left place)
      ∙ by_area (area_for part a.cur place) refl
    where
      by_area : (found : Option ℕ) → area_for part a.cur place ≡ found
          → fits_by part b.cur kept place n found ≡ fits_by part a.cur kept place n found
      by_area None is = refl
      by_area (Some area) is =
          let still = found-still part owners a b stays sound left place area is in
          fits-same (area_of part area) kept place n still.stays still.head

  chain-stage-same : (part : KeyedChain) (owners : Owners)
      → StaysPart (KeyedShape part) owners a b → IsChainSound part owners a → Left a a.cur
      → (split : Option AreaSplit) (move : Option MoveNow) (place : List ℕ)
      → keyed_stage part split move b.cur place ≡ keyed_stage part split move a.cur place
  chain-stage-same part owners stays sound left split move place =
      ap (stage_by part split move b.cur place) (area-stay part owners a b stays sound left place)
      ∙ by_area (area_for part a.cur place) refl
    where
      by_area : (found : Option ℕ) → area_for part a.cur place ≡ found
          → stage_by part split move b.cur place found
          ≡ stage_by part split move a.cur place found
      by_area None is = refl
      by_area (Some area) is = ap (λ (top : Block). first_stage (move_stage move area)
          (stage_in (split_in split area) (entry_in top place)))
          (found-still part owners a b stays sound left place area is).same

  -- what fits in the same way has room
  room-for : (shape : Shape) (known : Known) (kept : Lengths) (place : List ℕ)
      (item : Option (List ℕ))
      → ((n : ℕ) → fits_at shape known b.cur kept place n ≡ fits_at shape known a.cur kept place n)
      → HasRoomFor shape known a.cur kept place item
      → HasRoomFor shape known b.cur kept place item
  room-for shape known kept place None same has = tt
  room-for shape known kept place (Some bytes) same has = ⊎_elim
      (λ fits. inl (subst IsTrue (sym (same (length bytes))) fits))
      (λ kept-there. inr kept-there) has

  pub can-stays : (shape : Shape) (owners : Owners) (known : Known) (kept : Lengths)
      (place : List ℕ)
      (item : Option (List ℕ)) → StaysPart shape owners a b
      → IsSound shape owners a → Left a a.cur → CanSet shape known a.cur kept place item
      → CanSet shape known b.cur kept place item
  can-stays (KeyedShape part) owners known kept place item stays sound left can = record {
    no_stage = chain-stage-same part owners stays sound left known.split known.move place
        ∙ can.no_stage;
    room = room-for (KeyedShape part) known kept place item
        (λ n. chain-fits-same part owners stays sound left kept place n) can.room;
  }
  can-stays (NumberedShape part) owners known kept place item stays sound left can = record {
    no_stage = refl;
    room = room-for (NumberedShape part) known kept place item
        (λ n. numbered-fits-same part owners a b stays sound left known.tail place n) can.room;
  }

-- ---- calls that put nothing into the part

module _ (tells : Bool) (told : IsTrue tells) where
  -- a call that puts nothing leaves a split under way, whoever owns the area that it claimed
  pub way-keeps : (shape : Shape) (owners : Owners) (known : Known) (a b : Seen) → Keeps tells a b
      → IsSound shape owners a → Left a a.cur → IsUnderWay shape known a → IsUnderWay shape known b
  way-keeps (KeyedShape part) owners known a b call sound left way = (
    chain-under part owners a b (stays-keeps tells told a b call (KeyedShape part) owners) sound
        left known.split way.0,
    move-keeps part known.move tells told a b call sound.on
        (rest-stands (KeyedShape part) owners a sound left) way.1,
    way.2,
    way.3,
  )
  way-keeps (NumberedShape part) owners known a b call sound left way = tt

  -- and what a part knows of its blocks
  pub knows-keeps : (shape : Shape) (owners : Owners) (known : Known) (a b : Seen) → Keeps tells a b
      → IsSound shape owners a → Left a a.cur → Knows shape known a
      → Knows shape known b
  knows-keeps shape owners known a b call sound left knows = record {
    way = way-keeps shape owners known a b call sound left knows.way;
    blocks = met-known a b shape owners known (stays-keeps tells told a b call shape owners) sound
        left knows.blocks;
  }

  -- what is put outside the part leaves what it knows of them, too
  pub knows-puts : (shape : Shape) (owners : Owners) (known : Known) (n : ℕ) (bytes : Block)
      (a b : Seen)
      → Puts tells n bytes a b → (InPart shape owners n → ⊥)
      → IsSound shape owners a → Left a a.cur → OwnsClaimed shape owners known
      → Knows shape known a → Knows shape known b
  knows-puts shape owners known n bytes a b call beyond =
      knows-stays a b shape owners known
      (stays-puts tells told a b shape owners n bytes call beyond)

-- ---- owners

-- a block is of one part
pub one-owner : (here there : Shape) (owners : Owners) (n : ℕ) → InPart here owners n
    → InPart there owners n → (part_no here).0 ≡ (part_no there).0
one-owner here there owners n is also = some-same (sym is ∙ also)
  where
    some-same : {one other : ℕ} → Some one ≡ Some other → one ≡ other
    some-same same = cc
