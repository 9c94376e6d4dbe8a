use Rattle.std.proofs.Common.{drop}
use Rattle.vr_job_text.proofs.StepsRead.{IsReadTo}
use Rattle.vr_job_text.proofs.steps.take_steps.Given as goal

-- the steps so far are those of the texts so far
abbrev pub invariant-loop-text : goal.invariant-loop-text
invariant-loop-text l = IsReadTo l.fn.texts l.fn.last (drop l.text-index l.texts) l.steps
