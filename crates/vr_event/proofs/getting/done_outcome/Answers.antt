use Rattle.std.proofs.Common.{ℕ, List, Some, ap}
use Rattle.vr_answer.specs.InHand.{whole}
use Rattle.vr_answer.specs.declared.case.Looked.{Looked}
use Rattle.vr_event.proofs.Ended.{looked-sought, may-point}
use Rattle.vr_event.proofs.getting.done_outcome.Goals as goal

pub returns-in-Point : goal.returns-in-Point
returns-in-Point c = λ state is sought at none no-record read.
    let w = whole c.args.case.now state in
    let looked : Looked = record { place = Some c.as_slice.result; present = c.args.present } in
    may-point w c.in-Point.file c.in-Point.find c.in-Point.is none no-record c.args.at sought
    c.in_ok-reply.reply
    (c.in_ok-reply.ensures.value state is
    (looked-sought looked w (Some c.args.at) sought
    (ap (λ (p : List ℕ). Some p) c.as_slice.ensures) at))
