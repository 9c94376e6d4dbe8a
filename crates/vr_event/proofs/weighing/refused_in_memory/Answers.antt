use Rattle.std.proofs.Common.{Option, ap, subst, sym, ◌∙◌}
use Rattle.std.specs.Option.{option_and_then}
use Rattle.vr_types.specs.declared.reply.Refusal.{Refusal}
use Rattle.vr_history.specs.RefusedRoom.{log_full}
use Rattle.vr_history.specs.Step.{stand_refused}
use Rattle.vr_answer.specs.InHand.{whole}
use Rattle.vr_event.specs.Lacking.{AreWanting, IsWanting}
use Rattle.vr_event.proofs.Lacks.{are-any, log-else, refused-wanting}
use Rattle.vr_event.proofs.Weighs.{change-direct, refuse-log, refuse-record}
use Rattle.vr_event.proofs.weighing.refused_in_memory.Goals as goal

pub returns-in-Some-clause-value : goal.returns-in-Some-clause-value
returns-in-Some-clause-value c = λ state is at logs lives change.
    refuse-record (whole c.args.case.now state) c.in-Some.refusal
    (sym c.in-Some.is ∙ c.in_ok-refusal.ensures.value state is
    (c.changed_at-looked.ensures.looked state is at change))
    (ap (λ (o : Option Refusal). option_and_then (stand_refused c.args.case.now.request.now) o)
    (sym c.in-Some.is)
    ∙ c.in_ok-refusal.ensures.stays (change-direct c.args.case.now.request.now change))

pub returns-in-Some-clause-stays : goal.returns-in-Some-clause-stays
returns-in-Some-clause-stays c = λ change.
    ap (λ (o : Option Refusal). option_and_then (stand_refused c.args.case.now.request.now) o)
    (sym c.in-Some.is)
    ∙ c.in_ok-refusal.ensures.stays (change-direct c.args.case.now.request.now change)

pub returns-in-None-clause-value : goal.returns-in-None-clause-value
returns-in-None-clause-value c = λ state is at logs lives change.
    let looked = c.changed_at-looked.ensures.looked state is at change in
    refuse-log (whole c.args.case.now state)
    (sym (c.in_ok-refusal.ensures.value state is looked) ∙ c.in-None.is) c.log_full.result
    (c.log_full.ensures.value state is looked logs lives)
    (c.log_full.ensures.stays (change-direct c.args.case.now.request.now change))

pub returns-in-None-clause-stays : goal.returns-in-None-clause-stays
returns-in-None-clause-stays c = λ change.
    c.log_full.ensures.stays (change-direct c.args.case.now.request.now change)

pub returns-in-Some-clause-lacks : goal.returns-in-Some-clause-lacks
returns-in-Some-clause-lacks c = λ state is at logs lives change.
    let w = whole c.args.case.now state in
    subst (AreWanting w)
    (sym (c.in_ok-refusal.ensures.value state is
    (c.changed_at-looked.ensures.looked state is at change)) ∙ c.in-Some.is)
    (refused-wanting w change)

pub returns-in-None-clause-lacks : goal.returns-in-None-clause-lacks
returns-in-None-clause-lacks c = λ state is at logs lives change.
    let w = whole c.args.case.now state in
    subst (AreWanting w) (sym (c.log_full.ensures.value state is
    (c.changed_at-looked.ensures.looked state is at change) logs lives))
    (are-any (IsWanting w) (log_full w) (log-else w))
