use Rattle.vr_ams_repro.proofs.Still.{one-fed, one-still}
use Rattle.vr_ams_repro.proofs.Went.{went-then}
use Rattle.vr_ams_repro.proofs.feeding.feed_one.Goals as goal

pub returns-clause-fed : goal.returns-clause-fed
returns-clause-fed g c = one-fed g.V.OwnedVolume.answers g.V.FilledVolume.replies
    c.args.load.now (c.args.at.now, c.args.record.now) c.args.progress c.with_read-read.result
    c.in_ok-fed.fed c.is_due-due.result c.args.volume.now c.put_read.new.volume
    c.commit_if.new.volume c.commit_if.result c.with_read-read.ensures c.in_ok-fed.ensures.put
    c.is_due-due.ensures c.commit_if.ensures.committed

pub returns-clause-still : goal.returns-clause-still
returns-clause-still g c = one-still g.V.OwnedVolume.answers g.V.FilledVolume.replies
    c.args.load.now c.is_due-due.result c.in_ok-fed.fed c.put_read.new.volume
    c.commit_if.new.volume _ _ _ c.commit_if.result c.commit_if.ensures.committed
    c.commit_if.ensures.still c.in_ok-fed.ensures.still

pub returns-clause-went : goal.returns-clause-went
returns-clause-went g c = went-then g.V.OwnedVolume.geometry g.V.OwnedVolume.history
    g.V.OwnedVolume.goes g.V.OwnedVolume.goes_further c.args.load.now.line c.args.after
    c.args.volume.now c.put_read.new.volume c.commit_if.new.volume c.put_read.ensures.went c.commit_if.ensures.went
