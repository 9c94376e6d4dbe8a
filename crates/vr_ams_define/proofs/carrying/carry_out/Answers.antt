use Rattle.std.proofs.Common.{[], ◌∷◌}
use Rattle.vr_ams_define.proofs.GrownLemmas.{run-nothing}
use Rattle.vr_ams_define.proofs.carrying.carry_out.Goals as goal

pub returns-in-Err-Refused-clause-ran : goal.returns-in-Err-Refused-clause-ran
returns-in-Err-Refused-clause-ran g c = run-nothing g.V.OwnedVolume.history
    g.V.OwnedVolume.goes g.V.OwnedVolume.goes_nowhere (c.args.line ∷ []) c.args.volumes.now

pub returns-in-Err-Ended-clause-ran : goal.returns-in-Err-Ended-clause-ran
returns-in-Err-Ended-clause-ran g c = run-nothing g.V.OwnedVolume.history
    g.V.OwnedVolume.goes g.V.OwnedVolume.goes_nowhere (c.args.line ∷ []) c.args.volumes.now
