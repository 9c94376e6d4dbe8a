use Rattle.vr_ams_repro.proofs.Went.{went-then}
use Rattle.vr_ams_repro.proofs.putting.replace.Goals as goal

pub returns-in-Done-clause-went : goal.returns-in-Done-clause-went
returns-in-Done-clause-went g c = went-then g.V.OwnedVolume.geometry g.V.OwnedVolume.history
    g.V.OwnedVolume.goes g.V.OwnedVolume.goes_further c.args.load.now.line c.args.after
    c.args.volume.now c.get.new.volume c.update.new.volume c.get.ensures.went c.update.ensures.went
