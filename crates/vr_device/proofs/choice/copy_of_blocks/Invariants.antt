use Rattle.std.proofs.Common.{◌≡◌, take}
use Rattle.vr_device.specs.PastEvent.{blocks_of}
use Rattle.vr_device.proofs.choice.copy_of_blocks.Given as goal

abbrev pub invariant-loop-block : goal.invariant-loop-block
invariant-loop-block l = blocks_of l.copy.items ≡ take l.block-index (blocks_of l.blocks)
