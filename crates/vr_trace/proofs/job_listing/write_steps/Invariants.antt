use Rattle.std.proofs.Common.{◌≡◌, ◌++◌, drop}
use Rattle.vr_trace.specs.Listing.{steps_listing}
use Rattle.vr_trace.proofs.job_listing.write_steps.Given as goal

-- what is left is added
abbrev pub invariant-loop-step : goal.invariant-loop-step
invariant-loop-step l =
    l.out ++ steps_listing l.histories (drop l.step-index l.steps) l.left
    ≡ l.fn.out ++ steps_listing l.fn.histories l.fn.steps l.fn.reports
