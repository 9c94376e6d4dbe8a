use Rattle.std.proofs.Common.{◌≡◌, IsTrue}
use Rattle.vr_types.specs.Blocks.{Keeps}
use Rattle.vr_keyed.specs.Look.{AreaStands}
use Rattle.vr_keyed.specs.Slots.{IsSlotOf}
use Rattle.vr_keyed.proofs.Nexting.{NoneBefore}
use Rattle.vr_keyed.proofs.next.next_in.Given as goal

abbrev pub invariant-loop-number : goal.invariant-loop-number
invariant-loop-number g l =
    let B = g.B.Blocks in
    record {
      keeps : Keeps B.tells (B.seen l.fn.blocks) (B.seen l.blocks);
      faults : B.faults l.blocks ≡ B.faults l.fn.blocks;
      slot : IsSlotOf l.layout l.slot;
      room : l.into.room ≡ l.fn.into.room;
      none : IsTrue B.tells → (stands : AreaStands l.layout (B.seen l.fn.blocks).cur)
          → NoneBefore l.layout (B.seen l.fn.blocks).cur l.from stands l.number;
    }
