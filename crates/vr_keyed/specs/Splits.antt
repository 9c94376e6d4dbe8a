-- A split under way, as a part says it, and what it answers to a record that wants room.
use Rattle.std.specs.Prelude.{◌≡◌, ℕ, List, Option, Some, None}
use Rattle.vr_types.specs.Image.{Image}
use Rattle.vr_space.specs.declared.room.Room as answer
use Rattle.vr_space.specs.Keyed.{Keyed}
use Rattle.vr_space.specs.Room.{Lengths}
use Rattle.vr_space.specs.Split.{SplitNow, area_room}
use Rattle.vr_split.specs.Splits.{stage_now}
use Rattle.vr_keyed.specs.declared.room.UnderWay.{UnderWay}

-- it is that one
pub record IsOfSplit (now : SplitNow) (split : UnderWay) : Type 0 where
  pub old : split.old ≡ now.old
  pub into : split.into ≡ now.into
  pub stage : split.stage ≡ now.stage

-- it is the one under way, or there is none
abbrev pub IsSplit : Option SplitNow → Option UnderWay → Type 0
IsSplit None None = Unit {0}
IsSplit (Some now) (Some split) = IsOfSplit now split
IsSplit now split = ⊥

-- what stands in the way of such a record in an area, in which the split of its part is, with no
-- area free
abbrev pub room_here : Keyed → Option SplitNow → Image → Lengths → List ℕ → ℕ → answer.Room
room_here part split image kept place n =
    area_room part split (stage_now split) image 0 kept place n
