use Rattle.std.proofs.Common.{◌≡◌, ◌<◌, ℕ, IsTrue}
use Rattle.vr_types.specs.Blocks.{Keeps}
use Rattle.vr_types.specs.Image.{block_at}
use Rattle.vr_space.specs.Rosters.{interval_in}
use Rattle.vr_space.specs.Numbered.{IsFilled}
use Rattle.vr_chained.proofs.walk.damage_under.Given as goal

abbrev pub invariant-loop-i : goal.invariant-loop-i
invariant-loop-i g l =
    let B = g.B.Blocks in
    record {
      keeps : Keeps B.tells (B.seen l.fn.blocks) (B.seen l.blocks);
      faults : B.faults l.blocks ≡ B.faults l.fn.blocks;
      filled : IsTrue B.tells → (i : ℕ) → i < l.i
          → IsFilled l.layout (block_at (B.seen l.fn.blocks).cur (interval_in l.layout l.area i));
    }
