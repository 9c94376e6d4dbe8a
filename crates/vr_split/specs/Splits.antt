-- A split of a control interval as it goes on, stage by stage. The stages are this project's own.
use Rattle.std.specs.Prelude.{◌≡◌, false, ℕ, ◌+◌, ◌<◌, List, Option, Some, None, length}
use Rattle.vr_types.specs.Image.{Image, block_at}
use Rattle.vr_types.specs.declared.unit.StageKind.{StageKind}
use Rattle.vr_types.specs.declared.unit.StageKind.TheVariants.{CiCopy, CiSwitch, CiClean}
use Rattle.vr_ci_match.specs.Fault.{is_busy}
use Rattle.vr_space.specs.Keyed.{Keyed, entries_of}
use Rattle.vr_space.specs.Left.{added_by}
use Rattle.vr_space.specs.Split.{SplitNow}
use Rattle.vr_space.specs.UnderWay.{interval_block}
use Rattle.vr_split.specs.Halves.{halves}
use Rattle.vr_split.specs.declared.steps.Halving.{Halving}

-- the area whose intervals are split, and the split that is under way
pub record Splits : Type 0 where
  pub part : Keyed
  pub split : Option SplitNow

-- of these intervals, at this stage
abbrev pub split_at : ℕ → ℕ → List ℕ → StageKind → SplitNow
split_at old into cut stage = record { old = old; into = into; cut = cut; stage = stage }

abbrev pub split_of : Halving → StageKind → SplitNow
split_of split stage = split_at split.old split.into split.cut.now stage

abbrev pub split_by : Option StageKind → ℕ → ℕ → List ℕ → Option SplitNow
split_by None old into cut = None
split_by (Some stage) old into cut = Some (split_at old into cut stage)

-- the stage that comes after one that is done
abbrev pub stage_after : StageKind → Option StageKind
stage_after CiCopy = Some CiSwitch
stage_after CiSwitch = Some CiClean
stage_after stage = None

-- the stage that is next where one failed: a copy is begun anew, with an interval and a cut of its
-- own
abbrev pub stage_again : StageKind → Option StageKind
stage_again CiCopy = None
stage_again stage = Some stage

-- the stage that is next
abbrev pub stage_now : Option SplitNow → Option StageKind
stage_now None = None
stage_now (Some split) = Some split.stage

-- the split once its next stage is done, and where that failed
abbrev pub after_stage : Option SplitNow → Option SplitNow
after_stage None = None
after_stage (Some split) = split_by (stage_after split.stage) split.old split.into split.cut

abbrev pub after_fault : Option SplitNow → Option SplitNow
after_fault None = None
after_fault (Some split) = split_by (stage_again split.stage) split.old split.into split.cut

-- What a stage that was done made of the blocks, beside what the next one wants: the interval that
-- it wrote is not busy, or the head has both entries.
abbrev pub HasDone : StageKind → Keyed → SplitNow → Image → Image → Type 0
HasDone CiCopy part split old new =
    is_busy (block_at new (interval_block part split.into)) ≡ false
HasDone CiSwitch part split old new = entries_of (block_at new part.head)
    ≡ halves split.old split.into split.cut (entries_of (block_at old part.head))
HasDone CiClean part split old new =
    is_busy (block_at new (interval_block part split.old)) ≡ false
HasDone stage part split old new = Unit {0}

abbrev pub HasDoneStage : Keyed → Option SplitNow → Image → Image → Type 0
HasDoneStage part None old new = Unit {0}
HasDoneStage part (Some split) old new = HasDone split.stage part split old new

-- the head has as many entries more as the stage adds
abbrev pub AddsEntries : Keyed → StageKind → Image → Image → Type 0
AddsEntries part kind old new = length (entries_of (block_at new part.head))
    ≡ length (entries_of (block_at old part.head)) + added_by kind

-- both intervals are in the area
pub record AreInArea (part : Keyed) (old into : ℕ) : Type 0 where
  pub old_in : old < part.area
  pub into_in : into < part.area

-- while a split is under way
abbrev pub AreUnderWay : Option StageKind → Keyed → ℕ → ℕ → Type 0
AreUnderWay None part old into = Unit {0}
AreUnderWay (Some stage) part old into = AreInArea part old into
