use Rattle.vr_volume.proofs.Lasting.{recovers-state}
use Rattle.vr_volume.proofs.durable.state_recovers.Goals as goal

pub returns : goal.returns
returns g c geometry number owners log images state rest image left =
    recovers-state geometry number owners log images state (g.B.Blocks.seen c.args.blocks.now) rest
    image left
