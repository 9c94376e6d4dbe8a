use Rattle.vr_answer.specs.InHand.{whole}
use Rattle.vr_event.proofs.Weighs.{asks-change, refuse-memory}
use Rattle.vr_event.proofs.weighing.ready.Goals as goal

pub returns-else-is_done-clause-may : goal.returns-else-is_done-clause-may
returns-else-is_done-clause-may c state is at ready =
    let w = whole c.args.case.now state in
    refuse-memory w (asks-change w w.request c.args.place ready.place_is)
