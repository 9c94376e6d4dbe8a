use Rattle.std.proofs.Common.{◌≡◌, IsTrue, map}
use Rattle.vr_types.specs.Blocks.{Keeps}
use Rattle.vr_log.specs.LogNow.{IsOf}
use Rattle.vr_part.specs.Any.{shape_any}
use Rattle.vr_recover.specs.Found.{AllStand, AreAdded, AreKnown, held_entries}
use Rattle.vr_recover.proofs.laid.add_entries.Given as goal

abbrev pub invariant-loop-at : goal.invariant-loop-at
invariant-loop-at g l =
    let B = g.B.Blocks in
    record {
      keeps : Keeps B.tells (B.seen l.fn.blocks) (B.seen l.blocks);
      shape : IsOf l.geometry (B.seen l.blocks);
      faults : B.faults l.blocks ≡ B.faults l.fn.blocks;
      added : AreAdded l.geometry (held_entries l.entries) l.at l.parts.items l.space;
      known : IsTrue B.tells → AreKnown l.parts.items (B.seen l.fn.blocks).cur;
      stand : IsTrue B.tells → AllStand (map shape_any l.parts.items) (B.seen l.fn.blocks).cur;
    }
