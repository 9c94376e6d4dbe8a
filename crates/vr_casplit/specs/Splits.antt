-- A split of an area of a keyed part under way: how far it is, and what its stages left so far. The
-- stages are this project's own.
use Rattle.std.specs.Prelude.{◌≡◌, ◌≢◌, ℕ, ◌+◌, ◌<◌, ◌≤◌, List, Option, Some, None}
use Rattle.std.specs.Prelude.{IfSome, if◌then◌else◌, length, nat_eq, slice_set}
use Rattle.vr_types.specs.Geometry.{area_count}
use Rattle.vr_types.specs.Image.{Block}
use Rattle.vr_types.specs.Seen.{Seen}
use Rattle.vr_types.specs.Space.{least_free}
use Rattle.vr_types.specs.declared.unit.PartNo.{PartNo}
use Rattle.vr_types.specs.declared.unit.StageKind.{StageKind}
use Rattle.vr_types.specs.declared.unit.StageKind.TheVariants.{CaClaim, CaCopy, CaLink, CaSwitch}
use Rattle.vr_space.specs.Areas.{ChainKeepsRoom, IsChainAtRest, IsOwnedArea, KeyedChain, KnowsAreas}
use Rattle.vr_space.specs.Areas.{area_of, intervals_in}
use Rattle.vr_space.specs.Keyed.{IsHead, entries_of}
use Rattle.vr_space.specs.Owners.{Owners}
use Rattle.vr_space.specs.Part.{KeyedShape, part_no}
use Rattle.vr_space.specs.Room.{Lengths}
use Rattle.vr_space.specs.Moves.{IsMoving, moving, with_area, with_end}
use Rattle.vr_space.specs.Split.{MoveNow}
use Rattle.vr_casplit.specs.Growing.{LeavesRecords, LeavesRest}
use Rattle.vr_casplit.specs.declared.stages.Moving.{Moving}

-- splits of the areas of a part, one of which may be under way, and where the ranges of the area
-- end that was split last
pub record Moves : Type 0 where
  pub part : KeyedChain
  pub move : Option MoveNow
  pub cut : List ℕ

-- by the stage that is next, if there is one
abbrev pub move_by : Option StageKind → ℕ → ℕ → ℕ → ℕ → ℕ → Option MoveNow
move_by None area entries stay into copied = None
move_by (Some stage) area entries stay into copied = Some (record {
  area = area;
  entries = entries;
  stay = stay;
  into = into;
  copied = copied;
  stage = stage;
})

-- as the stages are given it
abbrev pub move_of : Moving → StageKind → MoveNow
move_of moving stage = record {
  area = moving.area;
  entries = moving.entries;
  stay = moving.stay;
  into = moving.into;
  copied = moving.copied;
  stage = stage;
}

-- how many of those that move may be copied before a stage of an area split: not all, while there
-- are copies to come
abbrev pub IsCounted : StageKind → ℕ → ℕ → Type 0
IsCounted CaClaim copied moving = copied < moving
IsCounted CaCopy copied moving = copied < moving
IsCounted CaLink copied moving = copied ≤ moving
IsCounted CaSwitch copied moving = copied ≤ moving
IsCounted stage copied moving = ⊥

-- its areas are of the volume, and its numbers are those of a split
pub record IsMove (part : KeyedChain) (move : MoveNow) : Type 0 where
  pub area : move.area < area_count part.geometry
  pub into : move.into < area_count part.geometry
  pub some : 0 < move.stay
  pub fewer : move.stay < move.entries
  pub few : move.entries ≤ part.geometry.area
  pub counted : IsCounted move.stage move.copied (moving move)

-- the same, if one is under way
abbrev pub IsMoveOf : KeyedChain → Option MoveNow → Type 0
IsMoveOf part move = IfSome move (IsMove part)

-- a split that begins, of an area with so many entries, of which so many stay
abbrev pub begun_at : ℕ → ℕ → ℕ → MoveNow
begun_at area entries stay = record {
  area = area;
  entries = entries;
  stay = stay;
  into = 0;
  copied = 0;
  stage = CaClaim;
}

-- the split once its next stage is done: that one claimed this area
abbrev pub after_by : StageKind → MoveNow → ℕ → Option MoveNow
after_by CaClaim move claimed = Some (record move { into = claimed; stage = CaCopy })
after_by CaCopy move claimed = Some (record move {
  copied = move.copied + 1;
  stage = if nat_eq (move.copied + 1) (moving move) then CaLink else CaCopy;
})
after_by CaLink move claimed = Some (record move { stage = CaSwitch })
after_by stage move claimed = None

abbrev pub after_move : MoveNow → ℕ → Option MoveNow
after_move move claimed = after_by move.stage move claimed

-- what a stage leaves of it: the last is still next, until the split ends
abbrev pub left_at : StageKind → MoveNow → ℕ → Option MoveNow
left_at CaSwitch move claimed = Some move
left_at stage move claimed = after_by stage move claimed

abbrev pub left_by : MoveNow → ℕ → Option MoveNow
left_by move claimed = left_at move.stage move claimed

-- The part is at rest, with room for what is kept, and the area that gets the entries is its own,
-- once it is claimed.
pub record IsAtWork (part : KeyedChain) (move : MoveNow) (owners : Owners) (kept : Lengths)
    (now : Seen) : Type 0 where
  pub rests : IsChainAtRest part owners now
  pub room : ChainKeepsRoom part kept now
  pub own : move.stage ≢ CaClaim → IsOwnedArea part owners move.into

-- the owners of areas once a stage is done: the first gets the least free area for the part
abbrev pub OwnersBy : StageKind → PartNo → ℕ → List (Option PartNo) → List (Option PartNo) → Type 0
OwnersBy CaClaim part claimed old new = (least_free old ≡ Some claimed)
    × (new ≡ slice_set old claimed (Some part))
OwnersBy stage part claimed old new = new ≡ old

-- the areas of the chain once it is done, and where each ends
abbrev pub areas_by : StageKind → MoveNow → List ℕ → List ℕ
areas_by CaSwitch move areas = with_area move.area move.into areas
areas_by stage move areas = areas

abbrev pub ends_by : StageKind → MoveNow → List ℕ → List ℕ → List (List ℕ) → List (List ℕ)
ends_by CaSwitch move cut areas ends = with_end move.area cut areas ends
ends_by stage move cut areas ends = ends

-- ---- what a stage leaves

-- A block is the head of the area that is split, with as many entries as it had.
pub record IsMovingHead (part : KeyedChain) (area entries : ℕ) (top : Block) : Type 0 where
  pub head : IsHead (area_of part area) top
  pub count : length (entries_of top) ≡ entries

-- A stage leaves the records of a part at work, at every moment, whether it fails or not.
pub record LeavesWork (part : KeyedChain) (move : MoveNow) (old new : Seen) : Type 0 where
  pub records : (owners : Owners) (kept : Lengths) → IsAtWork part move owners kept old
      → LeavesRecords part owners kept old new

-- It is done: the part is at rest, ready for what comes after, and known as it is then; its heads
-- lead to as many intervals as before.
pub record IsWorkDone (part : KeyedChain) (move : MoveNow) (after : Option MoveNow) (cut : List ℕ)
    (old new : Seen) : Type 0 where
  pub rests : (owners : Owners) (kept : Lengths) → IsAtWork part move owners kept old
      → LeavesRest part owners old new
  pub way : (owners : Owners) (kept : Lengths) → IsAtWork part move owners kept old
      → IfSome after (λ next. IsMoving part next new)
  pub knows : (owners : Owners) (kept : Lengths) (areas : List ℕ) (ends : List (List ℕ))
      → IsAtWork part move owners kept old → KnowsAreas part areas ends old.cur
      → KnowsAreas part (areas_by move.stage move areas) (ends_by move.stage move cut areas ends)
      new.cur
  pub counts : (owners : Owners) (kept : Lengths) → IsAtWork part move owners kept old
      → intervals_in part new.cur ≡ intervals_in part old.cur

-- The least free area was claimed for the part.
pub record HasClaimed (part : KeyedChain) (move : MoveNow) (after : Option MoveNow)
    (old new : List (Option PartNo)) : Type 0 where
  pub claimed : ℕ
  pub owners : OwnersBy CaClaim (part_no (KeyedShape part)) claimed old new
  pub after_is : after ≡ after_by CaClaim move claimed
