use Rattle.vr_volume.proofs.ForceCalls.{firm-for}
use Rattle.vr_volume.proofs.forcing.forced_is_firm.Goals as goal

pub returns : goal.returns
returns g c geometry owners log state unit =
    firm-for geometry owners log state unit (g.B.Blocks.seen c.args.blocks.now)
