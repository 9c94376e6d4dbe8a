use Rattle.std.proofs.Common.{◌≡◌, All, IsTrue, length, take}
use Rattle.vr_types.specs.Blocks.{Keeps}
use Rattle.vr_space.specs.Areas.{area_of}
use Rattle.vr_space.specs.Part.{KeyedShape, part_no}
use Rattle.vr_keyed.specs.Lent.{HasRoomFor}
use Rattle.vr_keyed.proofs.Over.{HasAreaRoom}
use Rattle.vr_keyed.proofs.chain.rooms_over.Given as goal

abbrev pub invariant-loop-i : goal.invariant-loop-i
invariant-loop-i g l =
    let B = g.B.Blocks in
    record {
      keeps : Keeps B.tells (B.seen l.fn.blocks) (B.seen l.blocks);
      faults : B.faults l.blocks ≡ B.faults l.fn.blocks;
      top : length l.top ≡ length l.fn.top;
      weights : HasRoomFor (area_of l.areas.part l.areas.part.first) l.weights;
      rooms : IsTrue B.tells → All (HasAreaRoom l.areas.part (B.seen l.fn.blocks).cur
          (g.K.Kept.kept l.kept (part_no (KeyedShape l.areas.part)))) (take l.i l.areas.areas);
    }
