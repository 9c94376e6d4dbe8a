use Rattle.std.proofs.Common.{◌≡◌, IsTrue}
use Rattle.vr_log.specs.LogNow.{IsOf}
use Rattle.vr_log.specs.Standing.{IsSettled}
use Rattle.vr_log.proofs.Clears.{HasCleared, IsCleanTo}
use Rattle.vr_log.proofs.clearing.clear_past.Given as goal

abbrev pub invariant-loop-index : goal.invariant-loop-index
invariant-loop-index g l = record {
  shape : IsOf l.fn.geometry (g.B.Blocks.seen l.blocks);
  faults : g.B.Blocks.faults l.blocks ≡ g.B.Blocks.faults l.initial.blocks;
  so_far : IsTrue g.B.Blocks.tells → HasCleared g.B.Blocks.tells l.fn.geometry l.fn.content
      (g.B.Blocks.seen l.initial.blocks) (g.B.Blocks.seen l.blocks);
  settled : IsTrue g.B.Blocks.tells → IsSettled l.fn.geometry (g.B.Blocks.seen l.blocks);
  clean : IsTrue g.B.Blocks.tells → IsCleanTo l.fn.geometry l.fn.content l.index
      (g.B.Blocks.seen l.blocks).cur;
}
