use Rattle.std.proofs.Common.{◌∙◌, ◌<◌, arith}
use Rattle.vr_log.proofs.Settled.{made_stands}
use Rattle.vr_log.proofs.laws.made_log_stands.Goals as goal

pub returns : goal.returns
returns g c told allowed shape settled spells ends =
    let B = g.B.Blocks in
    let seen = B.seen c.args.blocks.now in
    made_stands c.args.geometry.now c.args.content.now seen allowed shape spells settled ends
    (λ n inside.
    let below : n < seen.count =
    omega (arith, inside.1, shape.count, allowed.two_areas) in
    g.met.B.Blocks.sized c.args.blocks.now n _ told below
    ((g.met.B.Blocks.cur_may c.args.blocks.now told).each n below) ∙ shape.size)
