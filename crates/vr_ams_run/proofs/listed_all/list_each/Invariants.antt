use Rattle.vr_ams_run.proofs.Listings.{HasCome}
use Rattle.vr_ams_run.proofs.listed_all.list_each.Given as goal

-- the entries so far
abbrev pub invariant-loop-listed : goal.invariant-loop-listed
invariant-loop-listed g l = HasCome g.V.ShownVolume.shown g.V.OwnedVolume.geometry
    g.V.OwnedVolume.answers g.V.OwnedVolume.history g.V.OwnedVolume.goes l.fn.line l.entries
    l.listed-index l.fn.volumes l.volumes l.fn.out l.out
