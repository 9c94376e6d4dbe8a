use Rattle.std.proofs.Common.{ℕ, List, [], ◌∷◌}
use Rattle.vr_ams_define.specs.Grown.{AreRunOn}
use Rattle.vr_ams_define.proofs.GrownLemmas.{run-nothing}
use Rattle.vr_ams_run.proofs.running.run_define.Given.{Over}
use Rattle.vr_ams_run.proofs.running.run_define.Goals as goal

-- the volumes are as they were
nothing : (g : Over) (line : ℕ) (volumes : List g.row.V.Denot)
    → AreRunOn g.V.OwnedVolume.history g.V.OwnedVolume.goes (line ∷ []) volumes volumes
nothing g line volumes = run-nothing g.V.OwnedVolume.history g.V.OwnedVolume.goes
    g.V.OwnedVolume.goes_nowhere (line ∷ []) volumes

pub returns-in_err-pass-in-Cluster-default-true-default-clause-grew :
    goal.returns-in_err-pass-in-Cluster-default-true-default-clause-grew
returns-in_err-pass-in-Cluster-default-true-default-clause-grew g c =
    nothing g c.args.line c.args.volumes.now

pub returns-in_ok-pass-in-Cluster-default-true-default-clause-grew :
    goal.returns-in_ok-pass-in-Cluster-default-true-default-clause-grew
returns-in_ok-pass-in-Cluster-default-true-default-clause-grew g c =
    nothing g c.args.line c.args.volumes.now
