use Rattle.std.proofs.Common.{◌≡◌, replicate}
use Rattle.vr_device.specs.PastEvent.{blocks_of}
use Rattle.vr_device.proofs.choice.zero_blocks.Given as goal

abbrev pub invariant-loop : goal.invariant-loop
invariant-loop l = blocks_of l.blocks.items ≡ replicate l.counter (replicate l.size 0)
