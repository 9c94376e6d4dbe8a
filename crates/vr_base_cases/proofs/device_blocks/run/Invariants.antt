use Rattle.std.proofs.Common.{◌≡◌}
use Rattle.vr_base_cases.proofs.device_blocks.run.Given as goal

-- the number and the size of the blocks stay
abbrev pub invariant-loop-one : goal.invariant-loop-one
invariant-loop-one g l = (l.shape.count ≡ (g.B.Blocks.seen l.blocks).count)
    × (l.shape.size ≡ (g.B.Blocks.seen l.blocks).size)
