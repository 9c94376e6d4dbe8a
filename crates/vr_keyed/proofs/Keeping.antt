-- A split under way after a call that puts nothing, where the blocks stand for a content.
use Rattle.std.proofs.Common.{◌≡◌, ◌<◌, ◌+◌, ℕ, Bool, IsTrue, Option, Some, None, sym, ap, subst}
use Rattle.std.proofs.Common.{◌∙◌, arith}
use Rattle.vr_types.specs.Image.{Block, Image, block_at}
use Rattle.vr_types.specs.Seen.{Seen}
use Rattle.vr_types.specs.Blocks.{Keeps}
use Rattle.vr_types.specs.declared.unit.StageKind.{StageKind}
use Rattle.vr_types.specs.declared.unit.StageKind.TheVariants.{CiCopy, CiSwitch, CiClean}
use Rattle.vr_ci_match.specs.Fault.{is_busy}
use Rattle.vr_space.specs.Room.{Range}
use Rattle.vr_space.specs.Keyed.{Keyed, IsHead, HoldsRange, entry_in, records_in}
use Rattle.vr_space.specs.Split.{SplitNow}
use Rattle.vr_space.specs.UnderWay.{IsStable, IsReadyFor, AreaUnderWay, interval_block}
use Rattle.vr_space.specs.UnderWay.{above_cut}
use Rattle.vr_space.proofs.CallerLemmas.{found-in, free-in, begun-stays}

module _ (part : Keyed) (tells : Bool) (told : IsTrue tells) (a b : Seen) (call : Keeps tells a b)
    (area : part.head + part.area < a.count) (head : IsHead part (block_at a.cur part.head)) where
  still : (n : ℕ) → block_at b.cur n ≡ block_at a.cur n
  still n = ap (λ (image : Image). block_at image n) (call.content told)

  stable : (interval : ℕ) → interval < part.area → IsStable a (interval_block part interval)
      → IsStable b (interval_block part interval)
  stable interval below is block may =
      is block (call.adds_none told (interval_block part interval) block
      (omega (arith, area, below)) may)
      ∙ sym (still (interval_block part interval))

  ready : (split : SplitNow) (stage : StageKind) → IsReadyFor stage part split a
      → IsReadyFor stage part split b
  ready split CiCopy is = begun-stays part split a.cur b.cur (still part.head) is
  ready split CiSwitch is =
      let range : Range = above_cut is.begun.at.0 split.cut in
      let old : split.old < part.area = subst (λ (n : ℕ). n < part.area) is.begun.old
      (found-in part (block_at a.cur part.head) split.cut is.begun.at head is.begun.found) in
      record {
        begun = begun-stays part split a.cur b.cur (still part.head) is.begun;
        old = stable split.old old is.old;
        busy = ap is_busy (still (interval_block part split.old)) ∙ is.busy;
        into = stable split.into
            (free-in part (block_at a.cur part.head) split.into is.begun.free) is.into;
        holds = subst (HoldsRange part range) (sym (still (interval_block part split.into)))
            is.holds;
        records = ap (records_in part range) (still (interval_block part split.into)) ∙ is.records
            ∙ sym (ap (records_in part range) (still (interval_block part split.old)));
      }
  ready split CiClean is = record {
    at = is.at;
    found = ap (λ (top : Block). entry_in top split.cut) (still part.head) ∙ is.found;
    interval = is.interval;
    high = is.high;
    old = stable split.old (subst (λ (n : ℕ). n < part.area) is.interval
        (found-in part (block_at a.cur part.head) split.cut is.at head is.found)) is.old;
  }
  ready split stage is = absurd is

  -- it is under way still
  pub way-still : (split : Option SplitNow) → AreaUnderWay part split a
      → AreaUnderWay part split b
  way-still None is = tt
  way-still (Some split) is = ready split split.stage is
