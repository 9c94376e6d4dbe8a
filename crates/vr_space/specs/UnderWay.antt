-- What the stages of a split under way left of the blocks of an area of a keyed part: each is a
-- condition of the next. A split of a control interval is DFSMS Using Data Sets; its stages are
-- this project's own.
use Rattle.std.specs.Prelude.{◌≡◌, ℕ, ◌+◌, true, List, length, Option, Some, None, slice_index}
use Rattle.std.specs.Prelude.{Contains}
use Rattle.std.specs.declared.cmp.Ordering.TheVariants.{Less}
use Rattle.vr_types.specs.Content.{place_cmp}
use Rattle.vr_types.specs.Image.{Image, block_at}
use Rattle.vr_types.specs.Seen.{Seen, Only}
use Rattle.vr_types.specs.declared.unit.StageKind.{StageKind}
use Rattle.vr_types.specs.declared.unit.StageKind.TheVariants.{CiCopy, CiSwitch, CiClean}
use Rattle.vr_ci_match.specs.Fault.{is_busy}
use Rattle.vr_seqset.specs.Entry.{Entry}
use Rattle.vr_space.specs.Room.{Range}
use Rattle.vr_space.specs.Keyed.{Keyed, HoldsRange, entry_in, records_in}
use Rattle.vr_space.specs.Split.{AreaSplit, SplitNow, free_interval}
use Rattle.vr_space.specs.Areas.{KeyedChain, area_of, areas_in}

-- the block of an interval
abbrev pub interval_block : Keyed → ℕ → ℕ
interval_block part interval = part.head + 1 + interval

-- a crash leaves the current content of the block alone
abbrev pub IsStable : Seen → ℕ → Type 0
IsStable now n = Only now n (λ block. block ≡ block_at now.cur n)

-- the part of a range above the cut
abbrev pub above_cut : Range → List ℕ → Range
above_cut range cut = record { low = Some cut; high = range.high }

-- The greatest place that stays below the cut is in the range of the old interval's entry, below
-- its end; and the other interval is the least free one.
pub record IsBegun (part : Keyed) (split : SplitNow) (image : Image) : Type 0 where
  pub at : Range × Entry
  pub length : length split.cut ≡ part.key
  pub found : entry_in (block_at image part.head) split.cut ≡ Some at
  pub old : slice_index at.1.intervals 0 ≡ split.old
  pub below : place_cmp split.cut at.0.high ≡ Less
  pub free : free_interval part (block_at image part.head) ≡ Some split.into

-- Both intervals are stable: the old one whole and busy, the free one with the records above the
-- cut.
pub record IsCopied (part : Keyed) (split : SplitNow) (now : Seen) : Type 0 where
  pub begun : IsBegun part split now.cur
  pub old : IsStable now (interval_block part split.old)
  pub busy : is_busy (block_at now.cur (interval_block part split.old)) ≡ true
  pub into : IsStable now (interval_block part split.into)
  pub holds : HoldsRange part (above_cut begun.at.0 split.cut)
      (block_at now.cur (interval_block part split.into))
  pub records : records_in part (above_cut begun.at.0 split.cut)
      (block_at now.cur (interval_block part split.into))
      ≡ records_in part (above_cut begun.at.0 split.cut)
      (block_at now.cur (interval_block part split.old))

-- The head has both entries, the old interval's up to the cut, and the old interval is stable.
pub record IsSwitched (part : Keyed) (split : SplitNow) (now : Seen) : Type 0 where
  pub at : Range × Entry
  pub found : entry_in (block_at now.cur part.head) split.cut ≡ Some at
  pub interval : slice_index at.1.intervals 0 ≡ split.old
  pub high : at.0.high ≡ split.cut
  pub old : IsStable now (interval_block part split.old)

-- what the stages before this one left
abbrev pub IsReadyFor : StageKind → Keyed → SplitNow → Seen → Type 0
IsReadyFor CiCopy part split now = IsBegun part split now.cur
IsReadyFor CiSwitch part split now = IsCopied part split now
IsReadyFor CiClean part split now = IsSwitched part split now
IsReadyFor stage part split now = ⊥

-- the blocks of the area are as the split under way left them
abbrev pub AreaUnderWay : Keyed → Option SplitNow → Seen → Type 0
AreaUnderWay part None now = Unit {0}
AreaUnderWay part (Some split) now = IsReadyFor split.stage part split now

-- the same of a part, in one of whose areas the split is
abbrev pub KeyedUnderWay : KeyedChain → Option AreaSplit → Seen → Type 0
KeyedUnderWay part None now = Unit {0}
KeyedUnderWay part (Some now) seen = Contains (areas_in part seen.cur) now.area
    × IsReadyFor now.split.stage (area_of part now.area) now.split seen
