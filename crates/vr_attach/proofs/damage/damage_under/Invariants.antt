use Rattle.std.proofs.Common.{◌≡◌, ◌<◌, ℕ, IsTrue}
use Rattle.vr_types.specs.Blocks.{Keeps}
use Rattle.vr_attach.specs.Damage.{HoldsNth}
use Rattle.vr_attach.proofs.damage.damage_under.Given as goal

abbrev pub invariant-loop-i : goal.invariant-loop-i
invariant-loop-i g l =
    let B = g.B.Blocks in
    record {
      keeps : Keeps B.tells (B.seen l.fn.blocks) (B.seen l.blocks);
      faults : B.faults l.blocks ≡ B.faults l.fn.blocks;
      held : IsTrue B.tells → (i : ℕ) → i < l.i
          → HoldsNth l.layout l.top (B.seen l.fn.blocks).cur i;
    }
