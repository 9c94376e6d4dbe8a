use Rattle.vr_ams_run.proofs.CallerLemmas.{report-few}
use Rattle.vr_ams_run.proofs.laws.code_is_at_most_16.Goals as goal

pub returns : goal.returns
returns g c commands old new report is =
    report-few g.V.ShownVolume.shown g.V.OwnedVolume.geometry g.V.OwnedVolume.answers commands old
    new report is
