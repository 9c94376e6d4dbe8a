use Rattle.std.proofs.Common.{◌≡◌, All, IsTrue, take}
use Rattle.vr_types.specs.Blocks.{Keeps}
use Rattle.vr_space.specs.Areas.{area_of}
use Rattle.vr_space.proofs.CallerLemmas.{HasNoneHere}
use Rattle.vr_keyed.specs.Slots.{IsSlotOf}
use Rattle.vr_keyed.proofs.chain.next_over.Given as goal

abbrev pub invariant-loop-i : goal.invariant-loop-i
invariant-loop-i g l =
    let B = g.B.Blocks in
    record {
      keeps : Keeps B.tells (B.seen l.fn.blocks) (B.seen l.blocks);
      faults : B.faults l.blocks ≡ B.faults l.fn.blocks;
      slot : IsSlotOf (area_of l.areas.part l.areas.part.first) l.slot;
      room : l.into.room ≡ l.fn.into.room;
      none : IsTrue B.tells
          → All (HasNoneHere l.areas.part (B.seen l.fn.blocks).cur l.from) (take l.i l.areas.areas);
    }
