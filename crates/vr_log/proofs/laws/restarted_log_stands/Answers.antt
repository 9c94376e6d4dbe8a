use Rattle.vr_log.proofs.Restarting.{restarted_stands}
use Rattle.vr_log.proofs.laws.restarted_log_stands.Goals as goal

pub returns : goal.returns
returns g c told stands forced dead room =
    restarted_stands c.args.log.now (g.B.Blocks.seen c.args.blocks.now) stands forced dead room
