-- What a part answers to a record that wants room: the rule by which a control interval is split
-- (DFSMS Using Data Sets, control interval splits). The stages are this project's own.
use Rattle.std.specs.Prelude.{ℕ, zero, suc, ◌&&◌, ◌||◌, Bool, true, false, List, Option, Some}
use Rattle.std.specs.Prelude.{None, if◌then◌else◌, length, nat_eq, nat_le, slice_index}
use Rattle.std.specs.List.{list_any, flat_map}
use Rattle.vr_types.specs.Image.{Block, Image, block_at}
use Rattle.vr_types.specs.declared.unit.StageKind.{StageKind}
use Rattle.vr_types.specs.declared.unit.StageKind.TheVariants.{CaClaim, CiCopy, CiSwitch, CiClean}
use Rattle.vr_seqset.specs.Entry.{Entry}
use Rattle.vr_seqset.specs.Numbers.{intervals_used}
use Rattle.vr_space.specs.declared.room.Room as answer
use Rattle.vr_space.specs.declared.room.Room.TheVariants.{Ready, Stage, NoSpace}
use Rattle.vr_space.specs.Room.{Lengths, Range, with_length, have_room}
use Rattle.vr_space.specs.Keyed.{Keyed, entries_of, entry_block, entry_in, lengths_of}
use Rattle.vr_space.specs.Areas.{KeyedChain, area_for, area_of}

-- A split of a control interval under way: the interval that is cut, the free one that gets the
-- upper records, the greatest place that stays below the cut, and the stage that is next.
pub record SplitNow : Type 0 where
  pub old : ℕ
  pub into : ℕ
  pub cut : List ℕ
  pub stage : StageKind

-- the least of this many numbers from n on that isn't among these
abbrev pub free_from : ℕ → ℕ → List ℕ → Option ℕ
free_from zero n used = None
free_from (suc k) n used = if list_any (nat_eq n) used then free_from k (suc n) used else Some n

-- the least free interval under a head
abbrev pub free_interval : Keyed → Block → Option ℕ
free_interval part top =
    free_from (intervals_used part.area part.size part.key) 0
    (flat_map (λ (entry : Entry). entry.intervals) (entries_of top))

-- the stage that is next for the interval of an entry, where the split is one of it
abbrev pub stage_at : Option SplitNow → Entry → Option StageKind
stage_at None entry = None
stage_at (Some split) entry =
    if nat_eq (slice_index entry.intervals 0) split.old
    || nat_eq (slice_index entry.intervals 0) split.into
    then Some split.stage else None

-- the answer where a record lacks room: the next stage of the split of the part that is under way,
-- wherever it is, else a new split: of the interval where one is free in the area, else of the
-- area, where it can be split
abbrev pub room_by_split : Option StageKind → Option ℕ → Bool → answer.Room
room_by_split (Some stage) free grows = Stage stage
room_by_split None (Some free) grows = Stage CiCopy
room_by_split None None true = Stage CaClaim
room_by_split None None false = NoSpace 1 0

-- an area can be split under this head: one is free on the volume, and it has two entries
abbrev pub can_grow : ℕ → Block → Bool
can_grow free top = nat_le 1 free && nat_le 2 (length (entries_of top))

-- the answer where no split of the interval is under way
abbrev pub room_by : Bool → answer.Room → answer.Room
room_by true other = Ready
room_by false other = other

abbrev pub room_after : Option StageKind → answer.Room → answer.Room
room_after (Some stage) other = Stage stage
room_after None other = other

-- the stage that is next at a place
abbrev pub stage_in : Option SplitNow → Option (Range × Entry) → Option StageKind
stage_in split None = None
stage_in split (Some found) = stage_at split found.1

abbrev pub area_stage : Keyed → Option SplitNow → Image → List ℕ → Option StageKind
area_stage part split image place =
    stage_in split (entry_in (block_at image part.head) place)

-- a record of this length has room in the interval of its place
abbrev pub fits_in : Keyed → Image → Lengths → List ℕ → ℕ → Option (Range × Entry) → Bool
fits_in part image kept place n None = false
fits_in part image kept place n (Some found) =
    have_room part.size
    (with_length (lengths_of part kept found.0 (block_at image (entry_block part found.1)))
    place n)

abbrev pub area_fits : Keyed → Image → Lengths → List ℕ → ℕ → Bool
area_fits part image kept place n =
    fits_in part image kept place n (entry_in (block_at image part.head) place)

-- What stands in the way of a record of this length at this place of an area, with this many areas
-- free on the volume: a stage of a split of its interval; the next stage of the split of the part,
-- where the interval lacks room; or nothing. The split is that of the area, the stage that of the
-- part.
abbrev pub area_room : Keyed → Option SplitNow → Option StageKind → Image → ℕ → Lengths → List ℕ
    → ℕ → answer.Room
area_room part split stage image free kept place n =
    room_after (area_stage part split image place)
    (room_by (area_fits part image kept place n)
    (room_by_split stage (free_interval part (block_at image part.head))
    (can_grow free (block_at image part.head))))

-- ---- the same of a part

-- The split of a part that is under way: the area that it is in, and what is split there.
pub record AreaSplit : Type 0 where
  pub area : ℕ
  pub split : SplitNow

-- The area that is split, how many entries its head has, and how many of its entries stay; the area
-- that gets the others, once it is claimed; how many of these were copied; and the stage that is
-- next.
pub record MoveNow : Type 0 where
  pub area : ℕ
  pub entries : ℕ
  pub stay : ℕ
  pub into : ℕ
  pub copied : ℕ
  pub stage : StageKind

-- its next stage, where it is in this area: each place of the area waits for it
abbrev pub move_stage : Option MoveNow → ℕ → Option StageKind
move_stage None area = None
move_stage (Some move) area = if nat_eq move.area area then Some move.stage else None

abbrev pub first_stage : Option StageKind → Option StageKind → Option StageKind
first_stage None other = other
first_stage (Some stage) other = Some stage

-- the split that is under way in this area
abbrev pub split_in : Option AreaSplit → ℕ → Option SplitNow
split_in None area = None
split_in (Some now) area = if nat_eq now.area area then Some now.split else None

-- the next stage of the split that is under way, of an interval or an area, in whichever area
abbrev pub stage_under : Option AreaSplit → Option MoveNow → Option StageKind
stage_under (Some now) move = Some now.split.stage
stage_under None None = None
stage_under None (Some move) = Some move.stage

abbrev pub stage_by : KeyedChain → Option AreaSplit → Option MoveNow → Image → List ℕ → Option ℕ
    → Option StageKind
stage_by part split move image place None = None
stage_by part split move image place (Some area) = first_stage (move_stage move area)
    (area_stage (area_of part area) (split_in split area) image place)

-- the stage that is next at a place
abbrev pub keyed_stage : KeyedChain → Option AreaSplit → Option MoveNow → Image → List ℕ
    → Option StageKind
keyed_stage part split move image place =
    stage_by part split move image place (area_for part image place)

abbrev pub fits_by : KeyedChain → Image → Lengths → List ℕ → ℕ → Option ℕ → Bool
fits_by part image kept place n None = false
fits_by part image kept place n (Some area) = area_fits (area_of part area) image kept place n

-- a record of this length has room in the interval of its place
abbrev pub keyed_fits : KeyedChain → Image → Lengths → List ℕ → ℕ → Bool
keyed_fits part image kept place n =
    fits_by part image kept place n (area_for part image place)

abbrev pub keyed_room_by : KeyedChain → Option AreaSplit → Option MoveNow → Image → ℕ → Lengths
    → List ℕ → ℕ → Option ℕ → answer.Room
keyed_room_by part split move image free kept place n None = NoSpace 1 0
keyed_room_by part split move image free kept place n (Some area) =
    room_after (move_stage move area)
    (area_room (area_of part area) (split_in split area) (stage_under split move) image free kept
    place n)

-- what stands in the way of a record of this length at this place, in the area that reaches it
abbrev pub keyed_room : KeyedChain → Option AreaSplit → Option MoveNow → Image → ℕ → Lengths
    → List ℕ → ℕ → answer.Room
keyed_room part split move image free kept place n =
    keyed_room_by part split move image free kept place n (area_for part image place)

-- a stage of a split of one interval, which takes no area
abbrev pub IsIntervalStage : StageKind → Type 0
IsIntervalStage CiCopy = Unit {0}
IsIntervalStage CiSwitch = Unit {0}
IsIntervalStage CiClean = Unit {0}
IsIntervalStage stage = ⊥
