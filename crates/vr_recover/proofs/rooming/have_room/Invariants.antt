use Rattle.std.proofs.Common.{◌≡◌, IsTrue, take}
use Rattle.std.specs.Prelude.{All}
use Rattle.vr_types.specs.Blocks.{Keeps}
use Rattle.vr_part.specs.Any.{shape_any}
use Rattle.vr_part.specs.declared.any.AnyPart.{AnyPart}
use Rattle.vr_undo.specs.Records.{images_in}
use Rattle.vr_recover.specs.Found.{HasRoomOf}
use Rattle.vr_recover.proofs.rooming.have_room.Given as goal

abbrev pub invariant-loop-part : goal.invariant-loop-part
invariant-loop-part g l =
    let B = g.B.Blocks in
    record {
      keeps : Keeps B.tells (B.seen l.fn.blocks) (B.seen l.blocks);
      faults : B.faults l.blocks ≡ B.faults l.fn.blocks;
      same : l.parts ≡ l.fn.parts;
      rooms : IsTrue B.tells → All (λ (part : AnyPart).
          HasRoomOf (images_in l.undo) (B.seen l.fn.blocks).cur (shape_any part))
          (take l.part-index l.fn.parts);
    }
