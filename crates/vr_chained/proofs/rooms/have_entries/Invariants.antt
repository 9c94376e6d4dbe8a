use Rattle.std.proofs.Common.{◌≡◌, ℕ, List, IsTrue, length}
use Rattle.std.specs.Prelude.{filter}
use Rattle.vr_types.specs.Blocks.{Keeps}
use Rattle.vr_space.specs.Numbered.{HasKeptPlace}
use Rattle.vr_space.specs.Part.{NumberedShape, part_no}
use Rattle.vr_space.specs.Rosters.{IsOf}
use Rattle.vr_space.specs.Whence.{allows, places_kept}
use Rattle.vr_chained.proofs.KeptOrder.{IsLeft}
use Rattle.vr_chained.proofs.rooms.have_entries.Given as goal

abbrev pub invariant-loop-place : goal.invariant-loop-place
invariant-loop-place g l =
    let B = g.B.Blocks in
    record {
      keeps : Keeps B.tells (B.seen l.fn.blocks) (B.seen l.blocks);
      faults : B.faults l.blocks ≡ B.faults l.fn.blocks;
      left : IsLeft (g.K.Kept.kept l.kept (part_no (NumberedShape l.chain.part)))
          (λ (entry : List ℕ × ℕ). IsTrue B.tells
          → HasKeptPlace l.chain.part (IsOf (B.seen l.fn.blocks).cur) entry) (allows l.from);
    }

abbrev pub decreases-loop-place : goal.decreases-loop-place
decreases-loop-place g l = length (filter (allows l.from)
    (places_kept (g.K.Kept.kept l.kept (part_no (NumberedShape l.chain.part)))))
