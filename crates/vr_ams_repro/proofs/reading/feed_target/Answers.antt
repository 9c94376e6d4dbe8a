use Rattle.std.proofs.Common.{get_or, subst}
use Rattle.std.proofs.Math.Seq.{map-set_same}
use Rattle.vr_ams_define.specs.Steps.{IsLater}
use Rattle.vr_ams_define.proofs.Later.{run-one}
use Rattle.vr_ams_print.proofs.Sources.{going-there, has-there}
use Rattle.vr_ams_repro.specs.Steps.{IsStill}
use Rattle.vr_ams_repro.proofs.Filling.{fed-at, on-ok}
use Rattle.vr_ams_repro.proofs.reading.feed_target.Goals as goal

pub feed_records-requires : goal.feed_records-requires
feed_records-requires g c =
    let shown = g.V.ShownVolume.shown in
    let spare = c.index-volumes-number.result in record {
      served = record {
        going = going-there shown c.args.volumes.now c.args.load.now.target c.requires.there
            spare;
        has = has-there shown c.args.volumes.now c.args.load.now.target c.requires.there spare;
        cluster = c.requires.there.cluster;
      };
    }

pub returns-clause-fed : goal.returns-clause-fed
returns-clause-fed g c = on-ok c.feed_records.result (fed-at g.V.OwnedVolume.answers
    g.V.FilledVolume.replies c.args.load.now c.args.volumes.now c.index-volumes-number.result
    c.requires.within c.args.records.now c.args.progress.now c.feed_records.new.progress
    c.feed_records.new.volume) c.feed_records.ensures.fed

pub returns-clause-still : goal.returns-clause-still
returns-clause-still g c = on-ok c.feed_records.result (λ still none.
    map-set_same g.V.ShownVolume.shown c.args.volumes.now c.args.load.now.target.place
    c.feed_records.new.volume c.index-volumes-number.result (still none))
    c.feed_records.ensures.still

pub returns-clause-ran : goal.returns-clause-ran
returns-clause-ran g c =
    let history = g.V.OwnedVolume.history in
    let goes = g.V.OwnedVolume.goes in
    let volumes = c.args.volumes.now in
    let place = c.args.load.now.target.place in
    let spare = c.index-volumes-number.result in
    run-one history goes g.V.OwnedVolume.goes_nowhere c.args.load.now.line volumes place spare
    c.feed_records.new.volume c.requires.within (subst (λ after.
    IsLater history goes c.args.load.now.line after (get_or volumes place spare)
    c.feed_records.new.volume) c.last_of-after.ensures c.feed_records.ensures.went.later)

pub returns-clause-geometry : goal.returns-clause-geometry
returns-clause-geometry g c = map-set_same g.V.OwnedVolume.geometry c.args.volumes.now
    c.args.load.now.target.place c.feed_records.new.volume c.index-volumes-number.result
    c.feed_records.ensures.went.shape
