use Rattle.std.proofs.Common.{◌≡◌, ◌-◌, IsTrue, List, Option, length}
use Rattle.vr_types.specs.Blocks.{Keeps}
use Rattle.vr_types.specs.Geometry.{area_count}
use Rattle.vr_types.specs.declared.unit.PartNo.{PartNo}
use Rattle.vr_attach.specs.Marked.{IsTakenIn}
use Rattle.vr_chained.specs.Walked.{AreChainMarked, IsOpen, IsWalkedAt}
use Rattle.vr_chained.proofs.walk.walk.Given as goal

abbrev pub invariant-loop-damage : goal.invariant-loop-damage
invariant-loop-damage g l =
    let B = g.B.Blocks in
    record {
      keeps : Keeps B.tells (B.seen l.fn.blocks) (B.seen l.blocks);
      faults : B.faults l.blocks ≡ B.faults l.fn.blocks;
      is_open : IsOpen l.chain l.taken;
      part : l.chain.part ≡ l.fn.chain.part;
      top : length l.top ≡ length l.fn.top;
      count : length l.taken ≡ length l.fn.taken;
      marked : (before : List (Option PartNo))
          → AreChainMarked l.fn.chain.part l.fn.chain.areas before l.fn.taken
          → AreChainMarked l.fn.chain.part l.chain.areas before l.taken;
      walked : IsTrue B.tells → (before : List (Option PartNo))
          → AreChainMarked l.fn.chain.part l.fn.chain.areas before l.fn.taken
          → IsWalkedAt (IsTakenIn before) (B.seen l.fn.blocks).cur l.fn.chain
          → IsWalkedAt (IsTakenIn before) (B.seen l.fn.blocks).cur l.chain;
    }

abbrev pub decreases-loop-damage : goal.decreases-loop-damage
decreases-loop-damage g l = area_count l.chain.part.geometry - length l.chain.areas
