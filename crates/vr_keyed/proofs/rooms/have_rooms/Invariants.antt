use Rattle.std.proofs.Common.{◌≡◌, ◌<◌, ℕ, IsTrue}
use Rattle.vr_types.specs.Blocks.{Keeps}
use Rattle.vr_space.specs.AreaCalls.{area_part}
use Rattle.vr_keyed.specs.Lent.{HasRoomFor}
use Rattle.vr_keyed.specs.Rooms.{HasRoomNth}
use Rattle.vr_keyed.proofs.rooms.have_rooms.Given as goal

abbrev pub invariant-loop-i : goal.invariant-loop-i
invariant-loop-i g l =
    let B = g.B.Blocks in
    record {
      keeps : Keeps B.tells (B.seen l.fn.blocks) (B.seen l.blocks);
      faults : B.faults l.blocks ≡ B.faults l.fn.blocks;
      weights : HasRoomFor l.layout l.weights;
      rooms : IsTrue B.tells → (i : ℕ) → i < l.i
          → HasRoomNth l.layout (g.K.Kept.kept l.kept (area_part l.layout)) l.top
          (B.seen l.fn.blocks).cur i;
    }
