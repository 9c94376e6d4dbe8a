use Rattle.std.proofs.Common.{◌∙◌}
use Rattle.std.specs.Option.{option_copied}
use Rattle.vr_answer.proofs.AnswerLemmas.{answer_is, lacks_each}
use Rattle.vr_answer.proofs.Outcomes.{ok_then}
use Rattle.vr_answer.proofs.answering.answer.Goals as goal

pub returns-clause-value : goal.returns-clause-value
returns-clause-value c =
    ok_then c.answer_here.result c.answer_here.ensures.value
    (λ reply is state agrees at logs lives.
    is
    ∙ answer_is c.args.case.now state agrees (option_copied c.args.looked.place)
    (option_copied c.args.looked.present) at.place at.present c.args.logged c.args.live logs lives)

pub returns-clause-memory : goal.returns-clause-memory
returns-clause-memory c =
    lacks_each c.args.case.now c.answer_here.result c.answer_here.ensures.memory
    c.answer_here.ensures.passed
