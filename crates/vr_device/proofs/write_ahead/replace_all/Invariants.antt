use Rattle.std.proofs.Common.{◌≡◌}
use Rattle.vr_device.specs.PastEvent.{blocks_of}
use Rattle.vr_device.proofs.WriteAhead.{AreMade}
use Rattle.vr_device.proofs.write_ahead.replace_all.Given as goal

abbrev pub invariant-loop-content : goal.invariant-loop-content
invariant-loop-content g l =
    let B = g.B.Blocks in
    AreMade B.tells l.fn.log l.fn.home (blocks_of l.fn.contents) l.content-index
    (B.seen l.fn.blocks) (B.seen l.blocks) × (B.faults l.blocks ≡ B.faults l.fn.blocks)
