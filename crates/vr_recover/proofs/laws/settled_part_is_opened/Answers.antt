use Rattle.vr_recover.proofs.Settled.{part-opened}
use Rattle.vr_recover.proofs.laws.settled_part_is_opened.Goals as goal

pub returns : goal.returns
returns g c geometry number recovered is of forced shape laid =
    part-opened geometry number (g.B.Blocks.seen c.args.blocks.now) recovered is of forced
    is.stands.owners is.stands.past is.stands.within shape laid
