use Rattle.std.proofs.Common.{take}
use Rattle.vr_worker.proofs.JobRuns.{HaveCome}
use Rattle.vr_worker.proofs.steps.run_steps.Given as goal

-- the decks of the steps so far asked all that they request, and those of IDCAMS have their reports
abbrev pub invariant-loop-step : goal.invariant-loop-step
invariant-loop-step g l = HaveCome g.V.Served.number g.V.ShownVolume.shown g.V.OwnedVolume.geometry
    g.V.OwnedVolume.answers g.V.Served.entries g.V.Served.follows (take l.step-index l.steps)
    l.fn.volumes.items l.volumes.items l.reports
