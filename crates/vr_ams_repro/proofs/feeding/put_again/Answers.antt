use Rattle.std.proofs.Common.{subst, sym}
use Rattle.vr_trace.specs.Shown.{Shown}
use Rattle.vr_ams_repro.specs.Steps.{IsServed}
use Rattle.vr_ams_repro.proofs.Still.{again-still}
use Rattle.vr_ams_repro.proofs.Went.{went-then}
use Rattle.vr_ams_repro.proofs.feeding.put_again.Goals as goal

pub put_unless-requires : goal.put_unless-requires
put_unless-requires g c = record {
  served = λ none. subst (λ (shown : Shown). IsServed shown c.args.load.now.target)
      (sym (c.in_ok-committed.ensures.still none)) c.requires.served;
}

pub returns-clause-still : goal.returns-clause-still
returns-clause-still g c = again-still g.V.OwnedVolume.answers g.V.FilledVolume.replies
    c.args.load.now _ c.args.record.now c.in_ok-committed.committed c.commit.new.volume
    c.put_unless.new.volume _ _ _ c.put_unless.result c.put_unless.ensures.put
    c.put_unless.ensures.still c.in_ok-committed.ensures.still

pub returns-clause-went : goal.returns-clause-went
returns-clause-went g c = went-then g.V.OwnedVolume.geometry g.V.OwnedVolume.history
    g.V.OwnedVolume.goes g.V.OwnedVolume.goes_further c.args.load.now.line c.args.after
    c.args.volume.now c.commit.new.volume c.put_unless.new.volume c.commit.ensures.went c.put_unless.ensures.went
