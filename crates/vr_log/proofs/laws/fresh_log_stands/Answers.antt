use Rattle.std.proofs.Common.{◌∙◌, ◌<◌, arith}
use Rattle.vr_log.proofs.Settled.{fresh_stands}
use Rattle.vr_log.proofs.laws.fresh_log_stands.Goals as goal

pub returns : goal.returns
returns g c told allowed shape settled zeros =
    let B = g.B.Blocks in
    let seen = B.seen c.args.blocks.now in
    fresh_stands c.args.geometry.now seen allowed shape settled zeros
    (λ n inside.
    let below : n < seen.count = omega (arith, inside.1, shape.count, allowed.two_areas) in
    g.met.B.Blocks.sized c.args.blocks.now n _ told below
    ((g.met.B.Blocks.cur_may c.args.blocks.now told).each n below) ∙ shape.size)
