use Rattle.std.proofs.Common.{rules, List, subst}
use Rattle.vr_job_text.specs.declared.reading.StepText.{StepText}
use Rattle.vr_job_text.specs.Job.{AreSteps, deck_steps}
use Rattle.vr_job_text.specs.Numbers.{AreNumbered}
use Rattle.vr_job_text.proofs.Jobs.{numbers_are}
use Rattle.vr_job_text.proofs.parse.parse_job.Goals as goal

pub returns-in-Ok-clause-numbers : goal.returns-in-Ok-clause-numbers
returns-in-Ok-clause-numbers c =
    let numbers : AreNumbered (deck_steps c.in-Ok.steps) =
    numbers_are c.args.text.now c.in_ok-reading.reading c.in-Ok.steps c.in_ok-reading.ensures
    (subst (λ (texts : List StepText). AreSteps texts c.in-Ok.steps) c.as_slice.ensures
    c.in-Ok.ensures.steps) in
    search rules
