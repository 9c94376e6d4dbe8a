use Rattle.std.proofs.Common.{◌≡◌, ◌++◌, map, take}
use Rattle.vr_job_ends.specs.Names.{kept_step}
use Rattle.vr_job_ends.proofs.names.add_steps.Given as goal

-- those so far are added
abbrev pub invariant-loop-step : goal.invariant-loop-step
invariant-loop-step l = l.kept ≡ l.fn.kept ++ map kept_step (take l.step-index l.fn.steps)
