use Rattle.std.proofs.Common.{sym, ◌∙◌}
use Rattle.vr_answer.specs.InHand.{whole}
use Rattle.vr_answer.specs.declared.case.Looked.{Looked}
use Rattle.vr_event.proofs.Ended.{looked-sought, may-refuse}
use Rattle.vr_event.proofs.getting.outcome_of.Goals as goal

pub returns-in-Some : goal.returns-in-Some
returns-in-Some c = λ state is sought at none read.
    let w = whole c.args.case.now state in
    let looked : Looked = record { place = c.place_slice.result; present = c.args.present } in
    may-refuse w read none c.in-Some.refusal
    (sym c.in-Some.is ∙ c.in_ok-refused.ensures.value state is
    (looked-sought looked w c.args.at sought c.place_slice.ensures at))
