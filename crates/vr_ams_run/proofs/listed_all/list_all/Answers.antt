use Rattle.std.proofs.Common.{◌∙◌, ◌∷◌, [], sym, ℕ, List}
use Rattle.vr_ams_define.specs.Grown.{AreRunOn}
use Rattle.vr_ams_define.proofs.GrownLemmas.{run-nothing}
use Rattle.vr_ams_run.proofs.Listings.{ended-so}
use Rattle.vr_ams_run.proofs.listed_all.list_all.Given.{Over}
use Rattle.vr_ams_run.proofs.listed_all.list_all.Goals as goal

-- the volumes are as they were
nothing : (g : Over) (line : ℕ) (volumes : List g.row.V.Denot)
    → AreRunOn g.V.OwnedVolume.history g.V.OwnedVolume.goes (line ∷ []) volumes volumes
nothing g line volumes = run-nothing g.V.OwnedVolume.history g.V.OwnedVolume.goes
    g.V.OwnedVolume.goes_nowhere (line ∷ []) volumes

pub returns-in-Some-clause-grew : goal.returns-in-Some-clause-grew
returns-in-Some-clause-grew g c = nothing g c.args.line c.args.volumes.now

pub returns-in_err-entries-clause-grew : goal.returns-in_err-entries-clause-grew
returns-in_err-entries-clause-grew g c = nothing g c.args.line c.args.volumes.now

pub returns-clause-ran : goal.returns-clause-ran
returns-clause-ran g c = ended-so g.V.ShownVolume.shown g.V.OwnedVolume.answers c.args.line
    c.args.names.now c.as_slice.result.now c.args.volumes.now c.list_these.new.volumes
    c.list_these.result (sym c.list_failure.ensures ∙ c.in_default.is)
    (c.as_slice.ensures.value ∙ c.in_ok-entries.ensures.listed) c.list_these.ensures.ended
