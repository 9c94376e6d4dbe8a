use Rattle.std.proofs.Common.{◌≡◌, ◌≤◌, ◌<◌, ◌+◌, ◌*◌, IsTrue}
use Rattle.vr_types.specs.Blocks.{Keeps}
use Rattle.vr_space.specs.Numbered.{span_of, start_of}
use Rattle.vr_chained.specs.Searched.{HasNoneRead}
use Rattle.vr_chained.proofs.next.first_from.Given as goal

abbrev pub invariant-loop-interval : goal.invariant-loop-interval
invariant-loop-interval g l =
    let B = g.B.Blocks in
    let next = start_of l.chain.part + l.interval * span_of l.chain.part + l.at in
    record {
      keeps : Keeps B.tells (B.seen l.fn.blocks) (B.seen l.blocks);
      faults : B.faults l.blocks ≡ B.faults l.fn.blocks;
      at : l.at < span_of l.chain.part;
      past : l.number ≤ next;
      none : IsTrue B.tells
          → HasNoneRead l.chain.part (B.seen l.fn.blocks).cur l.number next;
    }
