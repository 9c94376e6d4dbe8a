use Rattle.std.proofs.Common.{refl, subst, sym}
use Rattle.vr_trace.specs.Shown.{Shown}
use Rattle.vr_ams_repro.specs.Fed.AreFed.{NoneFed}
use Rattle.vr_ams_repro.specs.Steps.{IsServed}
use Rattle.vr_ams_repro.proofs.Still.{fed-more, fed-still}
use Rattle.vr_ams_repro.proofs.Went.{went-nothing, went-then}
use Rattle.vr_ams_repro.proofs.feeding.feed_records.Goals as goal

pub loop-one-init : goal.loop-one-init
loop-one-init g c = record {
  fed = NoneFed;
  still = λ none. refl;
  went = went-nothing g.V.OwnedVolume.geometry g.V.OwnedVolume.history g.V.OwnedVolume.goes
      g.V.OwnedVolume.goes_nowhere c.args.load.now.line c.args.after c.args.volume.now;
}

pub feed_unless-requires : goal.feed_unless-requires
feed_unless-requires g c = record {
  served = λ none. subst (λ (shown : Shown). IsServed shown c.args.load.now.target)
      (sym (c.loop-one.invariant.still none)) c.requires.served;
}

pub returns-in_err-progress-clause-went : goal.returns-in_err-progress-clause-went
returns-in_err-progress-clause-went g c = went-then g.V.OwnedVolume.geometry
    g.V.OwnedVolume.history g.V.OwnedVolume.goes g.V.OwnedVolume.goes_further
    c.args.load.now.line c.args.after c.args.volume.now c.loop-one.volume
    c.feed_unless.new.volume c.loop-one.invariant.went c.feed_unless.ensures.went

pub loop-one-preserved : goal.loop-one-preserved
loop-one-preserved g c =
    let next = c.in_ok-progress.field-0 in
    let one = c.one-item.result in
    let new = c.feed_unless.new.volume in record {
      fed = fed-more g.V.OwnedVolume.answers g.V.FilledVolume.replies c.args.load.now
          c.args.records.now c.loop-one.one-index one c.as_slice-at.result.now
          c.as_slice-record.result.now c.args.progress.now c.loop-one.progress next
          c.args.volume.now c.loop-one.volume new c.loop-one-test.true c.one-item.is
          c.as_slice-at.ensures c.as_slice-record.ensures c.in_ok-progress.ensures.fed
          c.loop-one.invariant.fed;
      still = fed-still g.V.OwnedVolume.answers g.V.FilledVolume.replies c.args.load.now
          c.args.records.now c.loop-one.one-index one c.as_slice-at.result.now
          c.as_slice-record.result.now c.args.progress.now c.loop-one.progress next
          c.args.volume.now c.loop-one.volume new c.loop-one-test.true c.one-item.is
          c.as_slice-at.ensures c.as_slice-record.ensures c.in_ok-progress.ensures.fed _ _ _
          c.loop-one.invariant.still c.in_ok-progress.ensures.still;
      went = went-then g.V.OwnedVolume.geometry g.V.OwnedVolume.history g.V.OwnedVolume.goes
          g.V.OwnedVolume.goes_further c.args.load.now.line c.args.after c.args.volume.now
          c.loop-one.volume new c.loop-one.invariant.went c.feed_unless.ensures.went;
    }
