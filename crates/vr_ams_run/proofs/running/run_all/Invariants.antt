use Rattle.vr_ams_run.proofs.Runs.{HasCome}
use Rattle.vr_ams_run.proofs.running.run_all.Given as goal

-- the commands so far
abbrev pub invariant-loop-node : goal.invariant-loop-node
invariant-loop-node g l = HasCome g.V.ShownVolume.shown g.V.OwnedVolume.geometry
    g.V.OwnedVolume.answers g.V.OwnedVolume.history g.V.OwnedVolume.goes l.commands l.node-index
    (record { volumes = l.fn.volumes; going = l.fn.going })
    (record { volumes = l.volumes; going = l.going })
