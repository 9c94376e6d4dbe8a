use Rattle.std.proofs.Common.{ℕ, List, Some, ap}
use Rattle.vr_answer.specs.InHand.{whole}
use Rattle.vr_answer.specs.declared.case.Looked.{Looked}
use Rattle.vr_event.proofs.Ended.{looked-sought, may-got}
use Rattle.vr_event.proofs.getting.got.Goals as goal

pub returns : goal.returns
returns c = λ state is sought at none no-record get reply-is.
    let w = whole c.args.case.now state in
    let looked : Looked = record { place = Some c.as_slice.result; present = c.args.present } in
    may-got w get none no-record c.args.at sought c.args.reply c.in_ok-names.names
    c.in_ok-held.held reply-is
    (c.in_ok-names.ensures.value state is
    (looked-sought looked w (Some c.args.at) sought
    (ap (λ (p : List ℕ). Some p) c.as_slice.ensures) at))
    c.in_ok-held.ensures
