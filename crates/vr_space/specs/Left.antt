-- How many stages a part may still do: a number that each stage of it makes less. Other calls may
-- raise it: areas that become free count, and so do the stages of a part that is laid. Each interval
-- that is split uses one of those that the part's areas and the free ones have; each area that is
-- split takes a free one; and a split under way has a limited number of stages.
use Rattle.std.specs.Prelude.{ℕ, ◌+◌, ◌-◌, ◌*◌, length, Option, Some, None}
use Rattle.vr_types.specs.declared.unit.StageKind.{StageKind}
use Rattle.vr_types.specs.declared.unit.StageKind.TheVariants.{CaCopy, CaLink, CaSwitch, CiSwitch}
use Rattle.vr_types.specs.declared.unit.StageKind.TheVariants.{CiClean, Extend}
use Rattle.vr_seqset.specs.Numbers.{intervals_used}
use Rattle.vr_space.specs.Areas.{KeyedChain}
use Rattle.vr_space.specs.Known.{Known, areas_held}
use Rattle.vr_space.specs.Moves.{moving}
use Rattle.vr_space.specs.Rosters.{Numbered}
use Rattle.vr_space.specs.Split.{AreaSplit, MoveNow}

-- how many intervals a stage adds to those that the part uses
abbrev pub added_by : StageKind → ℕ
added_by CiSwitch = 1
added_by Extend = 1
added_by kind = 0

-- The switch of an interval split uses one interval more, which counts three: the stage that comes
-- after it, the next split's first one, and itself.
abbrev pub left_from : StageKind → ℕ
left_from CiSwitch = 0
left_from CiClean = 2
left_from stage = 1

abbrev pub interval_left : Option AreaSplit → ℕ
interval_left None = 1
interval_left (Some now) = left_from now.split.stage

-- the stages of the split of an area, from its next one on
abbrev pub left_at : StageKind → MoveNow → ℕ
left_at CaCopy move = moving move - move.copied + 2
left_at CaLink move = 2
left_at CaSwitch move = 1
left_at stage move = moving move + 3

abbrev pub area_left : Option MoveNow → ℕ
area_left None = 0
area_left (Some move) = left_at move.stage move

-- how many intervals an area of a keyed part has
abbrev pub area_intervals : KeyedChain → ℕ
area_intervals part = intervals_used part.geometry.area part.geometry.size part.key

abbrev pub keyed_left : KeyedChain → Known → ℕ → ℕ
keyed_left part known free =
    3 * ((length (areas_held known) + free) * area_intervals part - known.used)
    + interval_left known.split + area_left known.move + (area_intervals part + 5) * free

abbrev pub numbered_left : Numbered → Known → ℕ → ℕ
numbered_left part known free =
    (length known.areas + free) * part.geometry.area - known.used
