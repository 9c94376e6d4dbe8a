-- Which stages come before a record: of a keyed part those of a split of one interval, which take
-- no area, and those of a split of one area, of which the first takes one; of the others the one
-- that makes their chain longer.
use Rattle.std.proofs.Common.{◌≡◌, ◌≤◌, ◌⊎◌, inl, inr, ⊎_elim, ℕ, Bool, true, false, List, Option}
use Rattle.std.proofs.Common.{Some, None, ap, refl, subst, ◌∙◌, if◌then◌else◌, ◌||◌, nat_eq, nat_le}
use Rattle.std.specs.Prelude.{slice_index}
use Rattle.std.proofs.lemmas.Bool.{leb-true}
use Rattle.vr_types.specs.Image.{Image}
use Rattle.vr_types.specs.Seen.{Seen}
use Rattle.vr_types.specs.declared.unit.PartNo.{PartNo}
use Rattle.vr_types.specs.declared.unit.StageKind.{StageKind}
use Rattle.vr_types.specs.declared.unit.StageKind.TheVariants.{CiCopy, CiSwitch, CiClean}
use Rattle.vr_types.specs.declared.unit.StageKind.TheVariants.{CaClaim, CaCopy, CaLink, CaSwitch}
use Rattle.vr_types.specs.declared.unit.StageKind.TheVariants.{Post, Extend, Undo, Force}
use Rattle.vr_seqset.specs.Entry.{Entry}
use Rattle.vr_space.specs.Keyed.{Keyed, entry_in}
use Rattle.vr_space.specs.Part.{IsClaimed, IsStageOf, IsUnderWay, KeyedShape, OwnersAfter}
use Rattle.vr_space.specs.Part.{NumberedShape, Shape, room_of}
use Rattle.vr_space.specs.Room.{Lengths, Range}
use Rattle.vr_space.specs.Known.{Known}
use Rattle.vr_space.specs.Numbered.{areas_short, chain_room_by, has_interval, interval_of}
use Rattle.vr_space.specs.Numbered.{numbered_fits}
use Rattle.vr_space.specs.Rosters.{Numbered}
use Rattle.vr_space.specs.Areas.{KeyedChain, area_for, area_of, head_in}
use Rattle.vr_space.specs.Moves.{IsAreaStage, IsReadyTo, MoveUnderWay}
use Rattle.vr_space.specs.Split.{AreaSplit, IsIntervalStage, MoveNow, SplitNow, area_fits}
use Rattle.vr_space.specs.Split.{area_stage, can_grow, free_interval, keyed_room_by, move_stage}
use Rattle.vr_space.specs.Split.{room_after, room_by, room_by_split, split_in, stage_in}
use Rattle.vr_space.specs.Split.{stage_under}
use Rattle.vr_space.specs.UnderWay.{IsReadyFor, KeyedUnderWay}
use Rattle.vr_space.specs.declared.room.Room.{Room}
use Rattle.vr_space.specs.declared.room.Room.TheVariants.{NoSpace, Stage}

-- a split of an interval that is under way is at one of them,
stage-ready : (part : Keyed) (split : SplitNow) (now : Seen) (stage : StageKind)
    → IsReadyFor stage part split now → IsIntervalStage stage
stage-ready part split now CiCopy ready = tt
stage-ready part split now CiSwitch ready = tt
stage-ready part split now CiClean ready = tt
stage-ready part split now CaClaim ready = absurd ready
stage-ready part split now CaCopy ready = absurd ready
stage-ready part split now CaLink ready = absurd ready
stage-ready part split now CaSwitch ready = absurd ready
stage-ready part split now Post ready = absurd ready
stage-ready part split now Extend ready = absurd ready
stage-ready part split now Undo ready = absurd ready
stage-ready part split now Force ready = absurd ready

-- one of an area at one of its own,
move-ready : (part : KeyedChain) (move : MoveNow) (now : Seen) (stage : StageKind)
    → IsReadyTo stage part move now → IsAreaStage stage
move-ready part move now CaClaim ready = tt
move-ready part move now CaCopy ready = tt
move-ready part move now CaLink ready = tt
move-ready part move now CaSwitch ready = tt
move-ready part move now CiCopy ready = absurd ready
move-ready part move now CiSwitch ready = absurd ready
move-ready part move now CiClean ready = absurd ready
move-ready part move now Post ready = absurd ready
move-ready part move now Extend ready = absurd ready
move-ready part move now Undo ready = absurd ready
move-ready part move now Force ready = absurd ready

-- and so is that of a part.
stage-under : (part : KeyedChain) (split : Option AreaSplit) (move : Option MoveNow) (now : Seen)
    (kind : StageKind) → KeyedUnderWay part split now → MoveUnderWay part move now
    → stage_under split move ≡ Some kind → IsStageOf (KeyedShape part) kind
stage-under part None None now kind way moves is = absurd cc
stage-under part (Some split) move now kind way moves is =
    let it : split.split.stage ≡ kind = cc in
    inl (subst IsIntervalStage it
    (stage-ready (area_of part split.area) split.split now split.split.stage way.1))
stage-under part None (Some move) now kind way moves is =
    let it : move.stage ≡ kind = cc in
    inr (subst IsAreaStage it (move-ready part move now move.stage moves.ready))

-- the stage that is next in an area is that of the split there
stage-here : (split : Option SplitNow) (found : Option (Range × Entry)) (kind : StageKind)
    → stage_in split found ≡ Some kind → (now : SplitNow) × (split ≡ Some now)
    × (now.stage ≡ kind)
stage-here split None kind is = absurd cc
stage-here None (Some found) kind is = absurd cc
stage-here (Some split) (Some found) kind is =
    by_test (nat_eq (slice_index found.1.intervals 0) split.old
    || nat_eq (slice_index found.1.intervals 0) split.into) is
  where
    by_test : (test : Bool) → (if test then Some split.stage else None) ≡ Some kind
        → (now : SplitNow) × (Some split ≡ Some now) × (now.stage ≡ kind)
    by_test true same = let it : split.stage ≡ kind = cc in (split, refl, it)
    by_test false same = absurd cc

-- which is the part's
split-under : (split : Option AreaSplit) (move : Option MoveNow) (area : ℕ) (now : SplitNow)
    → split_in split area ≡ Some now → stage_under split move ≡ Some now.stage
split-under None move area now is = absurd cc
split-under (Some split) move area now is = by_test (nat_eq split.area area) is
  where
    by_test : (test : Bool) → (if test then Some split.split else None) ≡ Some now
        → Some split.split.stage ≡ Some now.stage
    by_test true same = let it : split.split ≡ now = cc in
        ap (λ (one : SplitNow). Some one.stage) it
    by_test false same = absurd cc

-- so is the stage for which the whole area waits
area-waits : (part : KeyedChain) (move : Option MoveNow) (area : ℕ) (now : Seen) (kind : StageKind)
    → MoveUnderWay part move now → move_stage move area ≡ Some kind → IsAreaStage kind
area-waits part None area now kind moves is = absurd cc
area-waits part (Some move) area now kind moves is = by_test (nat_eq move.area area) is
  where
    by_test : (test : Bool) → (if test then Some move.stage else None) ≡ Some kind
        → IsAreaStage kind
    by_test true same = let it : move.stage ≡ kind = cc in
        subst IsAreaStage it (move-ready part move now move.stage moves.ready)
    by_test false same = absurd cc

by-split : (stage : Option StageKind) (free : Option ℕ) (grows : Bool) (kind : StageKind)
    → room_by_split stage free grows ≡ Stage kind
    → (stage ≡ Some kind) ⊎ ((CiCopy ≡ kind) ⊎ (CaClaim ≡ kind))
by-split (Some stage) free grows kind is = let it : stage ≡ kind = cc in inl (ap Some it)
by-split None (Some free) grows kind is = let it : CiCopy ≡ kind = cc in inr (inl it)
by-split None None true kind is = let it : CaClaim ≡ kind = cc in inr (inr it)
by-split None None false kind is = absurd cc

after-stage : (stage : Option StageKind) (other : Room) (kind : StageKind)
    → room_after stage other ≡ Stage kind → (stage ≡ Some kind) ⊎ (other ≡ Stage kind)
after-stage (Some stage) other kind is = let it : stage ≡ kind = cc in inl (ap Some it)
after-stage None other kind is = inr is

by-room : (fits : Bool) (other : Room) (kind : StageKind) → room_by fits other ≡ Stage kind
    → other ≡ Stage kind
by-room true other kind is = absurd cc
by-room false other kind is = is

keyed-stage : (part : KeyedChain) (split : Option AreaSplit) (move : Option MoveNow) (now : Seen)
    (image : Image) (free : ℕ) (kept : Lengths) (place : List ℕ) (n : ℕ) (found : Option ℕ)
    (kind : StageKind) → KeyedUnderWay part split now → MoveUnderWay part move now
    → keyed_room_by part split move image free kept place n found ≡ Stage kind
    → IsStageOf (KeyedShape part) kind
keyed-stage part split move now image free kept place n None kind way moves is = absurd cc
keyed-stage part split move now image free kept place n (Some area) kind way moves is = ⊎_elim
    (λ waits. inr (area-waits part move area now kind moves waits))
    (λ later. ⊎_elim in_interval
    (λ lacks. ⊎_elim (λ next. stage-under part split move now kind way moves next)
    (λ first. begins first)
    (by-split (stage_under split move) interval grows kind
    (by-room (area_fits one image kept place n) rest kind lacks)))
    (after-stage (area_stage one (split_in split area) image place)
    (room_by (area_fits one image kept place n) rest) kind later))
    (after-stage (move_stage move area) _ kind is)
  where
    one : Keyed
    one = area_of part area

    interval : Option ℕ
    interval = free_interval one (head_in part image area)

    grows : Bool
    grows = can_grow free (head_in part image area)

    rest : Room
    rest = room_by_split (stage_under split move) interval grows

    in_interval : area_stage one (split_in split area) image place ≡ Some kind
        → IsStageOf (KeyedShape part) kind
    in_interval staged =
        let here = stage-here (split_in split area) (entry_in (head_in part image area) place) kind
        staged in
        stage-under part split move now kind way moves
        (split-under split move area here.0 here.1 ∙ ap Some here.2)

    begins : (CiCopy ≡ kind) ⊎ (CaClaim ≡ kind) → IsStageOf (KeyedShape part) kind
    begins = ⊎_elim (λ first. inl (subst IsIntervalStage first tt))
        (λ first. inr (subst IsAreaStage first tt))

-- the chain lacks the interval, which areas enough are free for
pub record IsChainStage (used : Bool) (need free : ℕ) (kind : StageKind) : Type 0 where
  pub stage : kind ≡ Extend
  pub unused : used ≡ false
  pub enough : need ≤ free

chain-stage : (fits used : Bool) (need free : ℕ) (kind : StageKind)
    → chain_room_by fits used need free ≡ Stage kind → IsChainStage used need free kind
chain-stage true used need free kind is = absurd cc
chain-stage false true need free kind is = absurd cc
chain-stage false false need free kind is = by_test (nat_le need free) refl is
  where
    by_test : (test : Bool) → nat_le need free ≡ test
        → (if test then Stage Extend else NoSpace need free) ≡ Stage kind
        → IsChainStage false need free kind
    by_test true within same =
        record { stage = cc; unused = refl; enough = leb-true need free within }
    by_test false past same = absurd cc

-- So a stage of a chain of areas comes only before a record whose interval it lacks.
pub stage-lacks : (part : Numbered) (known : Known) (image : Image) (free : ℕ) (kept : Lengths)
    (place : List ℕ) (n : ℕ) (kind : StageKind)
    → room_of (NumberedShape part) known image free kept place n ≡ Stage kind
    → IsChainStage (has_interval part image place)
    (areas_short part image (interval_of part place)) free kind
stage-lacks part known image free kept place n kind is =
    chain-stage (numbered_fits part known.tail image place n) (has_interval part image place)
    (areas_short part image (interval_of part place)) free kind is

-- A stage that room answers is one of those that the part may have.
pub room-stage : (shape : Shape) (known : Known) (now : Seen) (image : Image)
    (free : ℕ) (kept : Lengths) (place : List ℕ) (n : ℕ) (kind : StageKind)
    → IsUnderWay shape known now → room_of shape known image free kept place n ≡ Stage kind
    → IsStageOf shape kind
room-stage (KeyedShape part) known now image free kept place n kind way is =
    keyed-stage part known.split known.move now image free kept place n (area_for part image place)
    kind way.0 way.1 is
room-stage (NumberedShape part) known now image free kept place n kind way is =
    (stage-lacks part known image free kept place n kind is).stage

-- A stage of the split of one interval takes no area.
pub interval-owners : (part : PartNo) (kind : StageKind) (old new : List (Option PartNo))
    → IsIntervalStage kind → OwnersAfter part kind old new → new ≡ old
interval-owners part CiCopy old new stage after = after
interval-owners part CiSwitch old new stage after = after
interval-owners part CiClean old new stage after = after
interval-owners part CaClaim old new stage after = absurd stage
interval-owners part CaCopy old new stage after = absurd stage
interval-owners part CaLink old new stage after = absurd stage
interval-owners part CaSwitch old new stage after = absurd stage
interval-owners part Post old new stage after = absurd stage
interval-owners part Extend old new stage after = absurd stage
interval-owners part Undo old new stage after = absurd stage
interval-owners part Force old new stage after = absurd stage

-- Of those of the split of an area the first takes the least free one or none, the others none.
pub area-owners : (part : PartNo) (kind : StageKind) (old new : List (Option PartNo))
    → IsAreaStage kind → OwnersAfter part kind old new → (new ≡ old) ⊎ IsClaimed part old new
area-owners part CaClaim old new stage after = after
area-owners part CaCopy old new stage after = inl after
area-owners part CaLink old new stage after = inl after
area-owners part CaSwitch old new stage after = inl after
area-owners part CiCopy old new stage after = absurd stage
area-owners part CiSwitch old new stage after = absurd stage
area-owners part CiClean old new stage after = absurd stage
area-owners part Post old new stage after = absurd stage
area-owners part Extend old new stage after = absurd stage
area-owners part Undo old new stage after = absurd stage
area-owners part Force old new stage after = absurd stage

-- So what a stage of a part leaves of the owners of areas is what they were, or the part got the
-- least free one.
pub stage-owners : (shape : Shape) (part : PartNo) (kind : StageKind)
    (old new : List (Option PartNo)) → IsStageOf shape kind → OwnersAfter part kind old new
    → (new ≡ old) ⊎ IsClaimed part old new
stage-owners (KeyedShape keyed) part kind old new stage after = ⊎_elim
    (λ interval. inl (interval-owners part kind old new interval after))
    (λ area. area-owners part kind old new area after)
    stage
stage-owners (NumberedShape numbered) part kind old new stage after =
    subst (λ (at : StageKind). OwnersAfter part at old new) stage after
