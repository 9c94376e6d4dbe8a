use Rattle.vr_ams_repro.proofs.Went.{went-then}
use Rattle.vr_ams_repro.proofs.putting.put_at.Goals as goal

pub returns-in-Free-clause-went : goal.returns-in-Free-clause-went
returns-in-Free-clause-went g c = went-then g.V.OwnedVolume.geometry g.V.OwnedVolume.history
    g.V.OwnedVolume.goes g.V.OwnedVolume.goes_further c.args.load.now.line c.args.after
    c.args.volume.now c.look_at.new.volume c.add.new.volume c.look_at.ensures.went c.add.ensures.went

pub returns-in-Taken-clause-went : goal.returns-in-Taken-clause-went
returns-in-Taken-clause-went g c = went-then g.V.OwnedVolume.geometry g.V.OwnedVolume.history
    g.V.OwnedVolume.goes g.V.OwnedVolume.goes_further c.args.load.now.line c.args.after
    c.args.volume.now c.look_at.new.volume c.replace.new.volume c.look_at.ensures.went c.replace.ensures.went
