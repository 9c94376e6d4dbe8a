-- What calls of a part add to what its places may hold, one after another, and what a force leaves.
use Rattle.std.proofs.Common.{◌≡◌, ◌⊎◌, inl, inr, ⊎_elim, ◌<◌, ℕ, Bool, IsTrue, true, false, List}
use Rattle.std.proofs.Common.{[], Option, Some, None, refl, sym, ap, subst, ◌∙◌, length}
use Rattle.std.proofs.Common.{cond, nat_le}
use Rattle.vr_types.specs.Content.{Content, Item, item_at}
use Rattle.vr_types.specs.Geometry.{area_count}
use Rattle.vr_types.specs.Image.{Block, Image, block_at}
use Rattle.vr_types.specs.Seen.{Seen, Left}
use Rattle.vr_types.specs.Blocks.{Keeps, Forced}
use Rattle.vr_types.specs.Regions.{IsImageOn}
use Rattle.vr_types.proofs.CallerLemmas.{touches-then, touches-weaken, keeps-touches}
use Rattle.vr_types.specs.declared.unit.StageKind.{StageKind}
use Rattle.vr_types.specs.declared.unit.StageKind.TheVariants.{Extend}
use Rattle.vr_space.specs.declared.room.Room.{Room}
use Rattle.vr_space.specs.declared.room.Room.TheVariants.{Ready, NoSpace, Stage}
use Rattle.vr_space.specs.Room.{Lengths, length_at}
use Rattle.vr_space.specs.Known.{Known}
use Rattle.vr_space.specs.Split.{AreaSplit, MoveNow, area_fits, area_stage, can_grow, first_stage}
use Rattle.vr_space.specs.Split.{fits_by, free_interval, keyed_room_by, move_stage, room_after}
use Rattle.vr_space.specs.Split.{room_by, room_by_split, split_in, stage_by, stage_under}
use Rattle.vr_space.specs.Keyed.{IsKeyedSound, Keyed, KeyedStandsFor, entries_of, low_of}
use Rattle.vr_space.specs.AreaCalls.{item_here}
use Rattle.vr_space.specs.Areas.{ChainStaysIn, IsChainSound, IsOwnedArea, KeyedChain, area_for}
use Rattle.vr_space.specs.Areas.{area_of, content_after, head_of}
use Rattle.vr_space.specs.Owners.{Owners}
use Rattle.vr_space.specs.Part.{Shape, KeyedShape, NumberedShape, InPart, StandsFor, Stands}
use Rattle.vr_space.specs.Part.{HasOnly, MayHold, MayAlsoHold, Nothing, AddsTo, IsSound, IsAtRest}
use Rattle.vr_space.specs.Part.{IsLengthOf, IsOn, IsRecordOf, StaysIn, way_to, item_of, left_by}
use Rattle.vr_space.specs.Part.{SameRecords, SetsOne, IsDueTo, DueMore, IsFirm, CanSet, room_of}
use Rattle.vr_space.specs.Part.{MayGoBack, stage_of, fits_at}
use Rattle.vr_space.specs.Rosters.{IsInArea, IsOf, IsOwnArea, Numbered}
use Rattle.vr_space.specs.Numbered.{IsFilled, IsNumberedSound, NumberedStaysIn, areas_short}
use Rattle.vr_space.specs.Numbered.{chain_room_by, has_interval, interval_of, items_from}
use Rattle.vr_space.specs.Numbered.{numbered_fits, start_of}
use Rattle.vr_space.proofs.Chains.{chain-less}
use Rattle.vr_space.proofs.Due.{due-fewer, due-firm}
use Rattle.vr_space.proofs.LinkedContent.{chain-item}
use Rattle.vr_space.proofs.Links.{each-after-image, links-each, links-image}
use Rattle.vr_space.proofs.PartBlocks.{IsPartBlock, area-owned, chain-on-less, holds-less, on-less}
use Rattle.vr_space.proofs.PartBlocks.{rest-stays, sound-less, stays-keeps, way-within}
use Rattle.vr_space.proofs.NumberedReads.{numbered-item}
use Rattle.vr_space.proofs.Ways.{found-may}
use Rattle.vr_space.proofs.KeyedContent.{area-content}
use Rattle.vr_space.proofs.KeyedSound.{IsBlock, head-ascends, head-block}

-- ---- one after another

pub only-weaken : (shape : Shape) (owners : Owners) (O P : List ℕ → Option Item → Type 0)
    → ((place : List ℕ) (item : Option Item) → O place item → P place item)
    → (image : Image) → HasOnly shape owners O image
    → HasOnly shape owners P image
only-weaken shape owners O P wider image has = record {
  content = has.content;
  stands = has.stands;
  within = has.within;
  each = λ place. wider place (item_at has.content place) (has.each place);
}

-- what is allowed may be allowed more widely
pub adds-weaken : (shape : Shape) (owners : Owners) (A C : List ℕ → Option Item → Type 0)
    (a b : Seen)
    → AddsTo shape owners A a b
    → ((place : List ℕ) (item : Option Item) → A place item → C place item)
    → AddsTo shape owners C a b
adds-weaken shape owners A C a b call wider =
    let over : (place : List ℕ) (item : Option Item) → MayAlsoHold shape a.may A place item
    → MayAlsoHold shape a.may C place item =
    λ place item. ⊎_elim (λ old. inl old) (λ new. inr (wider place item new)) in
    record {
      touches = touches-weaken (InPart shape owners) _ _ a b call.touches
          (only-weaken shape owners (MayAlsoHold shape a.may A) (MayAlsoHold shape a.may C) over);
      rest = λ place item holds. over place item (call.rest place item holds);
      sound = call.sound;
    }

-- two calls add what each allows
pub adds-then : (shape : Shape) (owners : Owners) (A C : List ℕ → Option Item → Type 0)
    (a b c : Seen)
    → AddsTo shape owners A a b → AddsTo shape owners C b c
    → AddsTo shape owners (λ place item. A place item ⊎ C place item) a c
adds-then shape owners A C a b c first second =
    let both : List ℕ → Option Item → Type 0 = λ place item. A place item ⊎ C place item in
    let early : (place : List ℕ) (item : Option Item) → MayAlsoHold shape a.may A place item
    → MayAlsoHold shape a.may both place item =
    λ place item. ⊎_elim (λ old. inl old) (λ new. inr (inl new)) in
    let late : (place : List ℕ) (item : Option Item) → MayAlsoHold shape b.may C place item
    → MayAlsoHold shape a.may both place item =
    λ place item. ⊎_elim (λ old. early place item (first.rest place item old))
    (λ new. inr (inr new)) in
    record {
      touches = touches-then (InPart shape owners) _ a b c
          (touches-weaken (InPart shape owners) _ _ a b first.touches
          (only-weaken shape owners (MayAlsoHold shape a.may A) (MayAlsoHold shape a.may both)
          early))
          (touches-weaken (InPart shape owners) _ _ b c second.touches
          (only-weaken shape owners (MayAlsoHold shape b.may C) (MayAlsoHold shape a.may both)
          late));
      rest = λ place item holds. late place item (second.rest place item holds);
      sound = second.sound;
    }

-- a call that adds nothing, and then another
pub nothing-then : (shape : Shape) (owners : Owners) (A : List ℕ → Option Item → Type 0)
    (a b c : Seen)
    → AddsTo shape owners Nothing a b → AddsTo shape owners A b c
    → AddsTo shape owners A a c
nothing-then shape owners A a b c first second =
    adds-weaken shape owners _ A a c (adds-then shape owners Nothing A a b c first second)
    (λ place item. ⊎_elim (λ none. absurd none) (λ new. new))

-- and the other way round
pub then-nothing : (shape : Shape) (owners : Owners) (A : List ℕ → Option Item → Type 0)
    (a b c : Seen)
    → AddsTo shape owners A a b → AddsTo shape owners Nothing b c
    → AddsTo shape owners A a c
then-nothing shape owners A a b c first second =
    adds-weaken shape owners _ A a c (adds-then shape owners A Nothing a b c first second)
    (λ place item. ⊎_elim (λ new. new) (λ none. absurd none))

-- ---- what images have

-- the content of an area has at each place the item that is there
pub area-item : (part : Keyed) (image : Image) (content : Content)
    → KeyedStandsFor part image content → (place : List ℕ)
    → item_at content place ≡ item_here part image place
area-item part image content stands place =
    let top : Block = block_at image part.head in
    ap (λ (c : Content). item_at c place) stands.records
    ∙ area-content part image (low_of top) (entries_of top) place
    (head-ascends part top stands.head)

-- and so has that of a part
pub content_item : (shape : Shape) (image : Image) (content : Content)
    → StandsFor shape image content → (place : List ℕ)
    → item_at content place ≡ item_of shape image place
content_item (KeyedShape part) image content stands place =
    chain-item part image content stands place
content_item (NumberedShape part) image content stands place =
    numbered-item part image content stands place

keyed-stand : (part : KeyedChain) (owners : Owners) (now : Seen) → IsChainSound part owners now
    → (image : Image) → IsImageOn (InPart (KeyedShape part) owners) now.count now.may image
    → Stands (KeyedShape part) image × ChainStaysIn part owners image
keyed-stand part owners now sound image left =
    let each : (area : ℕ) → IsOwnedArea part owners area → (n : ℕ)
    → IsBlock (area_of part area) now n → now.may n (block_at image n) =
    λ area own n is. left.each n is.0 (own.owned n is.1) in (
      (
        content_after part image (area_count part.geometry) part.first,
        record {
          part_is = sound.on.part_is;
          chain = links-image part (IsOwnedArea part owners) now image (λ area own. own.there) each
              (area_count part.geometry) part.first None sound.chain;
          records = refl;
        },
      ),
      each-after-image part
          (λ area. IsOwnedArea part owners area × IsKeyedSound (area_of part area) now)
          (IsOwnedArea part owners) now.may image (λ area is. is.0)
          (λ area is. each area is.0 (head_of part area)
          (head-block (area_of part area) now is.1))
          (area_count part.geometry) part.first
          (links-each part (IsOwnedArea part owners) now (area_count part.geometry) part.first
          None sound.chain),
    )

numbered-stand : (part : Numbered) (owners : Owners) (now : Seen) → IsNumberedSound part owners now
    → (image : Image) → IsImageOn (InPart (NumberedShape part) owners) now.count now.may image
    → Stands (NumberedShape part) image × NumberedStaysIn part owners image
numbered-stand part owners now sound image left =
    let each : (area : ℕ) → IsOwnArea part owners area → (n : ℕ) → IsInArea part area n
    → (block : Block) → IsOf image n block → now.may n block =
    λ area own n inside block is.
    let there : IsPartBlock (NumberedShape part) owners now n =
    area-owned part owners now sound.on area own n inside in
    subst (now.may n) (sym is) (left.each n there.0 there.1) in (
      (
        items_from part image (area_count part.geometry) (start_of part) part.first,
        record {
          part_is = sound.on.part_is;
          chain = chain-less part (IsOwnArea part owners)
              (λ area. area < area_count part.geometry) (IsFilled part) (IsOf image) now.may
              (λ area own. own.there) each (area_count part.geometry) part.first sound.chain;
          records = refl;
        },
      ),
      chain-less part (IsOwnArea part owners) (IsOwnArea part owners) (IsFilled part) (IsOf image)
          now.may (λ area own. own) each (area_count part.geometry) part.first sound.chain,
    )

-- each image stands for a content, in blocks of the part alone,
pub sound-stands : (shape : Shape) (owners : Owners) (now : Seen) → IsSound shape owners now
    → (image : Image) → IsImageOn (InPart shape owners) now.count now.may image
    → Stands shape image × StaysIn shape owners image
sound-stands (KeyedShape part) owners now sound image left =
    keyed-stand part owners now sound image left
sound-stands (NumberedShape part) owners now sound image left =
    numbered-stand part owners now sound image left

-- and of things that may be held
pub sound-image : (shape : Shape) (owners : Owners) (now : Seen) → IsSound shape owners now
    → (image : Image) → IsImageOn (InPart shape owners) now.count now.may image
    → HasOnly shape owners (MayHold shape now.may) image
sound-image shape owners now sound image left =
    let has = sound-stands shape owners now sound image left in
    record {
      content = has.0.0;
      stands = has.0.1;
      within = has.1;
      each = λ place. subst (λ (item : Option Item). MayHold shape now.may place item)
          (sym (content_item shape image has.0.0 has.0.1 place))
          (found-may (IsPartBlock shape owners now) now.may image (λ n is. left.each n is.0 is.1)
          (way_to shape place) (way-within shape owners now sound place));
    }

-- the current blocks stand for a content
pub rest-stands : (shape : Shape) (owners : Owners) (now : Seen) → IsSound shape owners now
    → Left now now.cur → Stands shape now.cur
rest-stands shape owners now sound left =
    let has = sound-image shape owners now sound now.cur (record {
      each =
          λ n below is. left.each n below;
    }) in
    (has.content, has.stands)

-- ---- calls that put nothing

module _ (tells : Bool) (told : IsTrue tells) where
  pub sound-keeps : (shape : Shape) (owners : Owners) (a b : Seen) → Keeps tells a b
      → IsSound shape owners a → IsSound shape owners b
  sound-keeps shape owners a b call = sound-less a b shape owners call.count_same call.size_same
      (λ n block is may. call.adds_none told n block is.0 may)

  pub rest-keeps : (shape : Shape) (owners : Owners) (a b : Seen) → Keeps tells a b
      → IsAtRest shape owners a → IsAtRest shape owners b
  rest-keeps shape owners a b call =
      rest-stays a b shape owners (stays-keeps tells told a b call shape owners)

  pub keeps-adds : (shape : Shape) (owners : Owners) (a b : Seen) → Keeps tells a b
      → IsSound shape owners a → AddsTo shape owners Nothing a b
  keeps-adds shape owners a b call sound = record {
    touches = keeps-touches tells (InPart shape owners) _ a b told call
        (λ image left. only-weaken shape owners (MayHold shape a.may) _
        (λ place item held. inl held) image (sound-image shape owners a sound image left));
    rest = λ place item holds. inl (holds-less shape owners a b.may sound
        (λ n block is may. call.adds_none told n block is.0 may) place item holds);
    sound = sound-keeps shape owners a b call sound;
  }

  pub same-keeps : (shape : Shape) (a b : Seen) → Keeps tells a b → SameRecords shape a.cur b.cur
  same-keeps shape a b call place =
      ap (λ (image : Image). item_of shape image place) (call.content told)

  -- what had to be forced has to be
  pub due-keeps : (shape : Shape) (owners : Owners) (a b : Seen) → Keeps tells a b
      → IsSound shape owners a → DueMore shape [] a b
  due-keeps shape owners a b call sound listed place due within =
      due-fewer shape owners a sound listed listed place b
      (λ n block is may. (
        call.adds_none told n block is.0 may.0,
        λ there. may.1 there
            ∙ ap (λ (image : Image). block_at image n) (call.content told),
      )) (same-keeps shape a b call place) due

  -- a force of the blocks that something else might stand in
  pub forced-firm : (shape : Shape) (owners : Owners) (listed place : List ℕ) (a b : Seen)
      → Keeps tells a b
      → Forced listed a.cur b.may → IsSound shape owners a
      → IsDueTo shape listed a place → IsFirm shape b place
  forced-firm shape owners listed place a b call forced sound =
      due-firm shape owners a sound listed place b
      (λ n block is may. (call.adds_none told n block is.0 may, λ there. forced n block there may))
      (same-keeps shape a b call place)

-- ---- what room says

ready-after : (stage : Option StageKind) (other : Room) → room_after stage other ≡ Ready
    → (stage ≡ None) × (other ≡ Ready)
ready-after None other is = (refl, is)
ready-after (Some stage) other is = absurd cc

ready-by : (fits : Bool) (other : Room) → (other ≡ Ready → ⊥) → room_by fits other ≡ Ready
    → IsTrue fits
ready-by true other never is = refl
ready-by false other never is = absurd (never is)

never-ready : (stage : Option StageKind) (free : Option ℕ) (grows : Bool)
    → room_by_split stage free grows ≡ Ready → ⊥
never-ready (Some stage) free grows is = cc
never-ready None (Some interval) grows is = cc
never-ready None None true is = cc
never-ready None None false is = cc

-- no stage comes before a place of an area where neither split has one there
none-first : (move split : Option StageKind) → move ≡ None → split ≡ None
    → first_stage move split ≡ None
none-first move split none is = ap (λ (stage : Option StageKind). first_stage stage split) none ∙ is

chain-ready : (fits used : Bool) (need free : ℕ) → chain_room_by fits used need free ≡ Ready
    → IsTrue fits
chain-ready true used need free is = refl
chain-ready false true need free is = absurd cc
chain-ready false false need free is = absurd (by_enough (nat_le need free) is)
  where
    by_enough : (enough : Bool) → cond enough (Stage Extend) (NoSpace need free) ≡ Ready → ⊥
    by_enough true is = cc
    by_enough false is = cc

keyed-ready : (part : KeyedChain) (split : Option AreaSplit) (move : Option MoveNow)
    (image : Image) (free : ℕ) (kept : Lengths) (place : List ℕ) (n : ℕ) (found : Option ℕ)
    → keyed_room_by part split move image free kept place n found ≡ Ready
    → (stage_by part split move image place found ≡ None)
    × IsTrue (fits_by part image kept place n found)
keyed-ready part split move image free kept place n None is = absurd cc
keyed-ready part split move image free kept place n (Some area) is =
    let one = area_of part area in
    let stage = area_stage one (split_in split area) image place in
    let moved = ready-after (move_stage move area) _ is in
    let both = ready-after stage _ moved.1 in (
      none-first (move_stage move area) stage moved.0 both.0,
      ready-by (area_fits one image kept place n) _
          (never-ready (stage_under split move) (free_interval one (block_at image one.head))
          (can_grow free (block_at image one.head))) both.1,
    )

-- a record that room is ready for may be set
pub ready-can : (shape : Shape) (known : Known) (image : Image) (free : ℕ)
    (kept : Lengths) (place : List ℕ) (n : ℕ) → room_of shape known image free kept place n ≡ Ready
    → (stage_of shape known image place ≡ None) × IsTrue (fits_at shape known image kept place n)
ready-can (KeyedShape part) known image free kept place n is =
    keyed-ready part known.split known.move image free kept place n (area_for part image place) is
ready-can (NumberedShape part) known image free kept place n is = (
  refl,
  chain-ready (numbered_fits part known.tail image place n) (has_interval part image place)
      (areas_short part image (interval_of part place)) free is,
)

-- and is set
pub can-set : (shape : Shape) (known : Known) (image : Image) (free : ℕ) (kept : Lengths)
    (place bytes : List ℕ) → room_of shape known image free kept place (length bytes) ≡ Ready
    → CanSet shape known image kept place (Some bytes)
can-set shape known image free kept place bytes is =
    let both = ready-can shape known image free kept place (length bytes) is in
    record { no_stage = both.0; room = inl both.1 }

no-stage-after : (stage : Option StageKind) (other : Room) (need left : ℕ)
    → room_after stage other ≡ NoSpace need left
    → (stage ≡ None) × (other ≡ NoSpace need left)
no-stage-after None other need left is = (refl, is)
no-stage-after (Some stage) other need left is = absurd cc

keyed-full : (part : KeyedChain) (split : Option AreaSplit) (move : Option MoveNow)
    (image : Image) (free : ℕ) (kept : Lengths) (place : List ℕ) (n : ℕ) (found : Option ℕ)
    (need left : ℕ)
    → keyed_room_by part split move image free kept place n found ≡ NoSpace need left
    → stage_by part split move image place found ≡ None
keyed-full part split move image free kept place n None need left is = refl
keyed-full part split move image free kept place n (Some area) need left is =
    let stage = area_stage (area_of part area) (split_in split area) image place in
    let moved = no-stage-after (move_stage move area) _ need left is in
    none-first (move_stage move area) stage moved.0
    (no-stage-after stage _ need left moved.1).0

-- Where room is ready, or there is no space, no stage comes before the place.
pub room-no-stage : (shape : Shape) (known : Known) (image : Image) (free : ℕ)
    (kept : Lengths) (place : List ℕ) (n need left : ℕ)
    → (room_of shape known image free kept place n ≡ Ready)
    ⊎ (room_of shape known image free kept place n ≡ NoSpace need left)
    → stage_of shape known image place ≡ None
room-no-stage (KeyedShape part) known image free kept place n need left = ⊎_elim
    (λ ready. (ready-can (KeyedShape part) known image free kept place n ready).0)
    (λ full. keyed-full part known.split known.move image free kept place n
    (area_for part image place) need left full)
room-no-stage (NumberedShape part) known image free kept place n need left = λ either. refl

-- a record may be taken away there
pub can-erase : (shape : Shape) (known : Known) (image : Image) (free : ℕ)
    (kept : Lengths) (place : List ℕ) (n need left : ℕ)
    → (room_of shape known image free kept place n ≡ Ready)
    ⊎ (room_of shape known image free kept place n ≡ NoSpace need left)
    → CanSet shape known image kept place None
can-erase shape known image free kept place n need left is = record {
  no_stage = room-no-stage shape known image free kept place n need left is;
  room = tt;
}

-- and one set for which the place is kept
pub can-set-kept : (shape : Shape) (known : Known) (image : Image) (kept : Lengths)
    (place bytes : List ℕ) (n : ℕ) → length_at kept place ≡ Some n
    → MayGoBack shape n (length bytes) → stage_of shape known image place ≡ None
    → CanSet shape known image kept place (Some bytes)
can-set-kept shape known image kept place bytes n at most no_stage =
    record { no_stage = no_stage; room = inr (n, at, most) }

-- ---- calls in a row

pub records-then : (shape : Shape) (a b c : Image) → SameRecords shape a b → SameRecords shape b c
    → SameRecords shape a c
records-then shape a b c first second place = second place ∙ first place

pub sets-after : (shape : Shape) (at : List ℕ) (bytes : Option (List ℕ)) (a b c : Image)
    → SameRecords shape a b → SetsOne shape at bytes b c → SetsOne shape at bytes a c
sets-after shape at bytes a b c first second = record {
  here = second.here ∙ ap (λ (now : Option Item). left_by shape now bytes) (first at);
  others = λ place other. second.others place other ∙ first place;
}

pub on-still : (shape : Shape) (a b : Seen) → IsOn shape a
    → b.count ≡ a.count → b.size ≡ a.size → IsOn shape b
on-still (KeyedShape part) a b on count size = chain-on-less part a b count size on
on-still (NumberedShape part) a b on count size = on-less part a b count size on

pub record-length : (shape : Shape) (place bytes : List ℕ)
    → IsRecordOf shape place bytes
    → IsLengthOf shape (length bytes)
record-length (KeyedShape part) place bytes is = (is.0.least, is.0.most)
record-length (NumberedShape part) place bytes is = is.whole
