use Rattle.vr_log.proofs.Ahead.{left_has}
use Rattle.vr_log.proofs.laws.each_image_has_the_log.Goals as goal

pub returns : goal.returns
returns g c told stands image left =
    left_has c.args.log.now (g.B.Blocks.seen c.args.blocks.now) image stands left
