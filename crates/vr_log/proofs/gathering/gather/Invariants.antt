use Rattle.std.proofs.Common.{◌≡◌, ◌≤◌, ◌*◌, IsTrue, vec_len}
use Rattle.vr_types.specs.Blocks.{Keeps}
use Rattle.vr_log.specs.LogBlock.{room_of}
use Rattle.vr_log.specs.Reading.{IsGatheredTo}
use Rattle.vr_log.proofs.gathering.gather.Given as goal

abbrev pub invariant-loop-index : goal.invariant-loop-index
invariant-loop-index g l = record {
  keeps : Keeps g.B.Blocks.tells (g.B.Blocks.seen l.initial.blocks) (g.B.Blocks.seen l.blocks);
  faults : g.B.Blocks.faults l.blocks ≡ g.B.Blocks.faults l.initial.blocks;
  so_far : IsTrue g.B.Blocks.tells → IsGatheredTo l.fn.geometry l.generation
      (g.B.Blocks.seen l.initial.blocks).cur l.index l.bytes.items;
  most : vec_len l.bytes ≤ l.index * room_of l.fn.geometry;
}
