use Rattle.std.proofs.Common.{[], ◌∷◌}
use Rattle.vr_ams_define.proofs.GrownLemmas.{run-nothing}
use Rattle.vr_ams_run.proofs.Counting.{within}
use Rattle.vr_ams_run.proofs.listed_all.count_one.Goals as goal

pub returns-then-not-is_counted-clause-grew : goal.returns-then-not-is_counted-clause-grew
returns-then-not-is_counted-clause-grew g c = run-nothing g.V.OwnedVolume.history
    g.V.OwnedVolume.goes g.V.OwnedVolume.goes_nowhere (c.args.line ∷ []) c.args.volumes.now

pub ask_count-requires-clause-within : goal.ask_count-requires-clause-within
ask_count-requires-clause-within g c = within g.V.ShownVolume.shown c.args.volumes.now
    c.args.listed.now c.requires.there
