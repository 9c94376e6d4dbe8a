use Rattle.std.proofs.Common.{◌≡◌, ◌-◌, IsTrue}
use Rattle.vr_types.specs.Blocks.{Keeps}
use Rattle.vr_space.specs.Numbered.{AreEmptyFrom}
use Rattle.vr_chained.proofs.tail.find_tail.Given as goal

abbrev pub invariant-loop-past : goal.invariant-loop-past
invariant-loop-past g l =
    let B = g.B.Blocks in
    record {
      keeps : Keeps B.tells (B.seen l.fn.blocks) (B.seen l.blocks);
      faults : B.faults l.blocks ≡ B.faults l.fn.blocks;
      empty : IsTrue B.tells
          → AreEmptyFrom l.chain.part (B.seen l.fn.blocks).cur (l.used - l.past);
    }
