use Rattle.vr_volume.proofs.Recovering.{each_image_is_safe}
use Rattle.vr_volume.proofs.laws.each_image_is_safe.Goals as goal

pub returns : goal.returns
returns g c geometry number owners log committed safe image left =
    each_image_is_safe geometry number owners log committed (g.B.Blocks.seen c.args.blocks.now)
    safe image left
