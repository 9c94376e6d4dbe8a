use Rattle.std.proofs.Common.{List, subst}
use Rattle.std.proofs.lemmas.List.{drop_all}
use Rattle.vr_job_text.specs.declared.reading.StepText.{StepText}
use Rattle.vr_job_text.proofs.StepsRead.{IsReadTo, read_end}
use Rattle.vr_job_text.proofs.steps.take_steps.Goals as goal

-- no text is left
pub returns-clause-steps : goal.returns-clause-steps
returns-clause-steps c =
    read_end c.args.texts.now c.args.last c.loop-text.steps
    (subst (λ (rest : List StepText). IsReadTo c.args.texts.now c.args.last rest c.loop-text.steps)
    (drop_all c.loop-text.text-index c.args.texts.now c.loop-text-test.false) c.loop-text.invariant)
