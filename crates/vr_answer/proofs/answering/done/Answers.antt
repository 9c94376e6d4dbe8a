use Rattle.std.proofs.Common.{◌∙◌}
use Rattle.std.specs.Option.{option_copied}
use Rattle.vr_answer.proofs.AnswerLemmas.{done_is}
use Rattle.vr_answer.proofs.Outcomes.{ok_then}
use Rattle.vr_answer.proofs.answering.done.Goals as goal

pub returns-clause-value : goal.returns-clause-value
returns-clause-value c =
    ok_then c.done_here.result c.done_here.ensures.value
    (λ reply is state agrees at.
    is
    ∙ done_is c.args.case.now state agrees (option_copied c.args.looked.place)
    (option_copied c.args.looked.present) at.place at.present)
