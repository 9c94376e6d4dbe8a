use Rattle.std.proofs.Common.{◌≡◌, drop}
use Rattle.vr_job_text.specs.Job.{unrun}
use Rattle.vr_job_text.proofs.job.unrun.Given as goal

-- what is left comes to the same
abbrev pub invariant-loop-step : goal.invariant-loop-step
invariant-loop-step l = unrun (drop l.step-index l.job.steps) ≡ unrun l.fn.job.steps
