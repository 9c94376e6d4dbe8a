use Rattle.std.proofs.Common.{◌≡◌, drop}
use Rattle.vr_job_text.specs.Job.{unrun_in}
use Rattle.vr_job_text.proofs.job.unrun_in.Given as goal

-- what is left comes to the same
abbrev pub invariant-loop-node : goal.invariant-loop-node
invariant-loop-node l = unrun_in (drop l.node-index l.commands) ≡ unrun_in l.fn.commands
