use Rattle.std.proofs.Common.{[], ◌∷◌}
use Rattle.vr_ams_define.proofs.GrownLemmas.{run-nothing}
use Rattle.vr_ams_define.proofs.cluster.define_cluster.Goals as goal

pub returns-in-Some-clause-ran : goal.returns-in-Some-clause-ran
returns-in-Some-clause-ran g c = run-nothing g.V.OwnedVolume.history g.V.OwnedVolume.goes
    g.V.OwnedVolume.goes_nowhere (c.args.line ∷ []) c.args.volumes.now

pub returns-in-None-clause-ran : goal.returns-in-None-clause-ran
returns-in-None-clause-ran g c = run-nothing g.V.OwnedVolume.history g.V.OwnedVolume.goes
    g.V.OwnedVolume.goes_nowhere (c.args.line ∷ []) c.args.volumes.now
