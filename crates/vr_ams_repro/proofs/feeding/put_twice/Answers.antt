use Rattle.std.proofs.Common.{◌∙◌, subst, sym}
use Rattle.vr_trace.specs.Shown.{Shown}
use Rattle.vr_ams_repro.specs.Steps.{IsServed}
use Rattle.vr_ams_repro.proofs.Still.{full-same, put-twice, twice-still}
use Rattle.vr_ams_repro.proofs.Went.{went-then}
use Rattle.vr_ams_repro.proofs.feeding.put_twice.Goals as goal

pub put_after-requires : goal.put_after-requires
put_after-requires g c = record {
  served = λ full. subst (λ (shown : Shown). IsServed shown c.args.load.now.target)
      (sym (full-same c.in_ok-tried.tried _ _ c.in_ok-tried.ensures.shown
      (sym c.is_full-full.ensures ∙ full))) c.requires.served;
}

pub returns-clause-put : goal.returns-clause-put
returns-clause-put g c = put-twice g.V.OwnedVolume.answers g.V.FilledVolume.replies
    c.args.load.now _ c.args.record.now c.args.progress c.args.volume.now
    c.try_record.new.volume c.put_after.new.volume c.in_ok-tried.tried c.is_full-full.result
    c.put_after.result c.is_full-full.ensures c.in_ok-tried.ensures.tried
    c.put_after.ensures.put

pub returns-clause-still : goal.returns-clause-still
returns-clause-still g c = twice-still g.V.OwnedVolume.answers g.V.FilledVolume.replies
    c.args.load.now _ c.args.record.now c.args.progress c.try_record.new.volume
    c.put_after.new.volume c.in_ok-tried.tried c.is_full-full.result _ _ _ c.put_after.result
    c.is_full-full.ensures c.put_after.ensures.put c.in_ok-tried.ensures.shown
    c.put_after.ensures.still

pub returns-clause-went : goal.returns-clause-went
returns-clause-went g c = went-then g.V.OwnedVolume.geometry g.V.OwnedVolume.history
    g.V.OwnedVolume.goes g.V.OwnedVolume.goes_further c.args.load.now.line c.args.after
    c.args.volume.now c.try_record.new.volume c.put_after.new.volume c.try_record.ensures.went c.put_after.ensures.went
