use Rattle.std.proofs.Common.{Option, ap, ◌∙◌}
use Rattle.std.specs.Option.{option_and_then, option_copied}
use Rattle.vr_types.specs.declared.reply.Refusal.{Refusal}
use Rattle.vr_history.specs.Step.{stand_refused}
use Rattle.vr_answer.proofs.StayLemmas.{record_stays_here}
use Rattle.vr_answer.proofs.Outcomes.{ok_then}
use Rattle.vr_answer.proofs.RecordLemmas.{record_is}
use Rattle.vr_answer.proofs.by_record.refused_by_record.Goals as goal

pub returns-clause-value : goal.returns-clause-value
returns-clause-value c =
    ok_then c.record_here.result c.record_here.ensures.value
    (λ refusal is state agrees at.
    is
    ∙ record_is c.args.case.now state agrees (option_copied c.args.looked.place) at.place
    (option_copied c.args.looked.present) at.present)

pub returns-clause-stays : goal.returns-clause-stays
returns-clause-stays c =
    ok_then c.record_here.result c.record_here.ensures.value
    (λ refusal is direct.
    ap (λ (o : Option Refusal). option_and_then (stand_refused c.args.case.now.request.now) o) is
    ∙ record_stays_here c.args.case.now direct (option_copied c.args.looked.place)
    (option_copied c.args.looked.present))
