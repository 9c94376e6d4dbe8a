use Rattle.std.proofs.Common.{◌≡◌, ap, ◌∙◌, rules}
use Rattle.vr_device.specs.PastEvent.{blocks_of}
use Rattle.vr_device.proofs.Choosing.{taken-copied}
use Rattle.vr_device.proofs.choice.copy_of_blocks.Goals as goal

pub loop-block-preserved : goal.loop-block-preserved
loop-block-preserved c =
    let same : c.in_ok-to_vec.field-0.items ≡ c.block-item.result.items = search rules in
    ap blocks_of c.in_ok-push.ensures.items
    ∙ taken-copied c.args.blocks.now c.loop-block.copy.items c.loop-block.block-index
    c.block-item.result c.in_ok-to_vec.field-0 c.loop-block-test.true c.block-item.is same
    c.loop-block.invariant
