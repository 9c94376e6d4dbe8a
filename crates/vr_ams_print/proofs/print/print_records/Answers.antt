use Rattle.std.proofs.Common.{[], ◌∷◌}
use Rattle.vr_ams_define.proofs.GrownLemmas.{run-nothing}
use Rattle.vr_ams_print.proofs.print.print_records.Goals as goal

pub returns-in_err-failure-clause-grew : goal.returns-in_err-failure-clause-grew
returns-in_err-failure-clause-grew g c = run-nothing g.V.OwnedVolume.history
    g.V.OwnedVolume.goes g.V.OwnedVolume.goes_nowhere (c.args.line ∷ []) c.args.volumes.now

pub returns-in-Err-clause-grew : goal.returns-in-Err-clause-grew
returns-in-Err-clause-grew g c = run-nothing g.V.OwnedVolume.history
    g.V.OwnedVolume.goes g.V.OwnedVolume.goes_nowhere (c.args.line ∷ []) c.args.volumes.now
