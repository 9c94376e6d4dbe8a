use Rattle.std.proofs.Common.{[], ◌∷◌}
use Rattle.vr_ams_define.proofs.GrownLemmas.{run-nothing}
use Rattle.vr_ams_repro.proofs.repro.repro_records.Goals as goal

pub returns-in_err-failure-clause-ran : goal.returns-in_err-failure-clause-ran
returns-in_err-failure-clause-ran g c = run-nothing g.V.OwnedVolume.history
    g.V.OwnedVolume.goes g.V.OwnedVolume.goes_nowhere (c.args.line ∷ []) c.args.volumes.now

pub returns-in-Err-clause-ran : goal.returns-in-Err-clause-ran
returns-in-Err-clause-ran g c = run-nothing g.V.OwnedVolume.history g.V.OwnedVolume.goes
    g.V.OwnedVolume.goes_nowhere (c.args.line ∷ []) c.args.volumes.now
