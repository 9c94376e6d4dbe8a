use Rattle.vr_recover.proofs.Settled.{settled-undone}
use Rattle.vr_recover.proofs.laws.settled_may_be_undone.Goals as goal

pub returns : goal.returns
returns g c geometry number contents is back ascends others allowed of forced stands shapes laid
    covered =
    settled-undone geometry number (g.B.Blocks.seen c.args.blocks.now) contents is of forced back
    ascends others is.stands.owners is.stands.past is.stands.within allowed stands shapes laid covered
