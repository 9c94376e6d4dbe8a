use Rattle.std.proofs.Common.{◌≡◌, IsTrue, Some, length}
use Rattle.vr_types.specs.Blocks.{Keeps}
use Rattle.vr_types.specs.Space.{free_count}
use Rattle.vr_attach.specs.Marked.{IsTakenIn}
use Rattle.vr_attach.specs.Walked.{AreMarkedTo, IsOpen, IsWalkedAt}
use Rattle.vr_attach.proofs.walk.walk_chain.Given as goal

abbrev pub invariant-loop-next : goal.invariant-loop-next
invariant-loop-next g l =
    let B = g.B.Blocks in
    record {
      keeps : Keeps B.tells (B.seen l.fn.blocks) (B.seen l.blocks);
      faults : B.faults l.blocks ≡ B.faults l.fn.blocks;
      is_open : IsOpen l.areas l.area l.taken;
      part : l.areas.part ≡ l.fn.areas.part;
      top : length l.top ≡ length l.fn.top;
      count : length l.taken ≡ length l.fn.taken;
      marked : AreMarkedTo l.fn.taken l.taken l.areas (Some l.area);
      walked : IsTrue B.tells
          → IsWalkedAt (IsTakenIn l.fn.taken) (B.seen l.fn.blocks).cur l.areas l.area;
    }

abbrev pub decreases-loop-next : goal.decreases-loop-next
decreases-loop-next g l = free_count l.taken
