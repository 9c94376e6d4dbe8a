-- How many intervals a keyed part counts in memory: as many as the heads of its chain lead to,
-- which are fewer than its counter can tell.
use Rattle.std.proofs.Common.{◌≡◌, ◌<◌, ◌≤◌, ◌+◌, ◌-◌, ◌*◌, ◌/◌, ℕ, zero, suc}
use Rattle.std.proofs.Common.{arith, length}
use Rattle.std.specs.Prelude.{◌^◌, Contains, Option, Some, min}
use Rattle.std.proofs.Math.Nat.{div-mul-le_self}
use Rattle.std.proofs.lemmas.Nat.{mul-le}
use Rattle.vr_types.specs.Geometry.{area_count}
use Rattle.vr_types.specs.Image.{Image}
use Rattle.vr_types.specs.Seen.{Left, Seen}
use Rattle.vr_types.specs.declared.unit.StageKind.{StageKind}
use Rattle.vr_types.specs.declared.unit.StageKind.TheVariants.{CiClean, CiSwitch}
use Rattle.vr_space.specs.Areas.{KeyedChain, area_of, areas_in, intervals_in}
use Rattle.vr_space.specs.Left.{added_by, area_intervals}
use Rattle.vr_space.specs.Part.{IsQuiet, KeyedShape, Stands}
use Rattle.vr_space.specs.Room.{Lengths}
use Rattle.vr_space.specs.Split.{SplitNow}
use Rattle.vr_space.proofs.CallerLemmas.{intervals-most}
use Rattle.vr_attach.specs.Areas.{AreWhole, AreasNow}
use Rattle.vr_split.specs.Splits.{AddsEntries, stage_now}
use Rattle.vr_split.specs.Switching.{IsStageDone, KeepsPart}
use Rattle.vr_keyed.specs.Advance.{IsLater, IsLaterStage}
use Rattle.vr_keyed.specs.Owned.{counted_by}
use Rattle.vr_keyed.proofs.Changing.{later-stage}
use Rattle.vr_keyed.proofs.Growing.{areas-most}
use Rattle.vr_keyed.proofs.Lifted.{done-stands, stage-counts}

min-left : (m n : ℕ) → min m n ≤ m
min-left m n = omega arith

-- blocks of some bytes are no more than the bytes
blocks-few : (size blocks : ℕ) → 0 < size → size * blocks ≤ 2 ^ 31 → blocks ≤ 2 ^ 31
blocks-few zero blocks some bytes = absurd (omega (arith, some))
blocks-few (suc size) blocks some bytes = omega (arith, bytes)

-- The heads of a chain lead to fewer intervals than a volume has blocks.
pub intervals-few : (part : KeyedChain) (image : Image) → Stands (KeyedShape part) image
    → intervals_in part image < 2 ^ 32
intervals-few part image stands =
    let geometry = part.geometry in
    let allowed = stands.1.part_is.allowed in
    let most : intervals_in part image ≤ area_count geometry * (geometry.area + 1) = omega (
      arith,
      intervals-most part image stands,
      mul-le (length (areas_in part image)) (area_intervals part) (area_count geometry)
          (geometry.area + 1)
          (areas-most part image (area_count geometry) part.first)
          (omega (
            arith,
            min-left geometry.area ((geometry.size - 32 - part.key) / (4 + part.key)),
          )),
    ) in
    let blocks : area_count geometry * (geometry.area + 1) ≤ geometry.blocks - 1 - geometry.log =
    div-mul-le_self (geometry.blocks - 1 - geometry.log) (geometry.area + 1) in
    omega (
      arith,
      most,
      blocks,
      blocks-few geometry.size geometry.blocks
          allowed.size.some allowed.bytes,
    )

-- So what is counted at a stage of a split whose copy is done is what they lead to then.
pub counts-stage : (part : KeyedChain) (old new : Image) (stage : StageKind) (count : ℕ)
    → IsLaterStage stage → Stands (KeyedShape part) new → count ≡ intervals_in part old
    → intervals_in part new ≡ intervals_in part old + added_by stage
    → counted_by stage count ≡ intervals_in part new
counts-stage part old new CiSwitch count later stands is more =
    omega (arith, is, more, intervals-few part new stands)
counts-stage part old new CiClean count later stands is more = omega (arith, is, more)
counts-stage part old new stage count later stands is more = absurd later

-- The same of a stage that puts into one area of the part, of the split that is under way there.
module _ (part : KeyedChain) (area : ℕ) (old new : Seen) (quiet : IsQuiet (KeyedShape part) old)
    (left : Left old old.cur) (inside : Contains (areas_in part old.cur) area) (kept : Lengths)
    (keeps : KeepsPart (area_of part area) kept old new) where
  pub goes-counted : (split : Option SplitNow) (kind : StageKind) (count : ℕ) → IsLater split
      → stage_now split ≡ Some kind → IsStageDone (area_of part area) old new
      → Left new new.cur → count ≡ intervals_in part old.cur
      → AddsEntries (area_of part area) kind old.cur new.cur
      → counted_by kind count ≡ intervals_in part new.cur
  goes-counted split kind count later is done after counts adds =
      counts-stage part old.cur new.cur kind count (later-stage split kind later is)
      (done-stands part area old new quiet left inside kept keeps done after) counts
      (stage-counts part area old new quiet left inside kept keeps kind adds)

-- Whatever is counted, the areas are a whole chain.
pub whole-counted : (chain : AreasNow) (count : ℕ) → AreWhole chain
    → AreWhole (record chain { intervals = count })
whole-counted chain count whole =
    record { first = whole.first; before = whole.before; last = whole.last }
