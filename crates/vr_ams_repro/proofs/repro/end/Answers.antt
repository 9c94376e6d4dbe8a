use Rattle.std.proofs.Common.{get_or, subst}
use Rattle.std.proofs.Math.Seq.{map-set_same}
use Rattle.vr_ams_define.specs.Steps.{IsLater}
use Rattle.vr_ams_define.proofs.Later.{run-one}
use Rattle.vr_ams_repro.proofs.Filling.{ended-at}
use Rattle.vr_ams_repro.proofs.repro.end.Goals as goal

pub returns-clause-ended : goal.returns-clause-ended
returns-clause-ended g c = ended-at g.V.OwnedVolume.answers g.V.FilledVolume.replies
    c.args.load.now c.args.volumes.now c.index-volumes-number.result c.requires.within
    g.V.ShownVolume.shown c.args.progress c.is_open-due.result c.commit_if.new.volume
    c.commit_if.result c.is_open-due.ensures c.commit_if.ensures.committed

pub returns-clause-ran : goal.returns-clause-ran
returns-clause-ran g c =
    let history = g.V.OwnedVolume.history in
    let goes = g.V.OwnedVolume.goes in
    let volumes = c.args.volumes.now in
    let place = c.args.load.now.target.place in
    let spare = c.index-volumes-number.result in
    run-one history goes g.V.OwnedVolume.goes_nowhere c.args.load.now.line volumes place spare
    c.commit_if.new.volume c.requires.within (subst (λ after.
    IsLater history goes c.args.load.now.line after (get_or volumes place spare)
    c.commit_if.new.volume) c.last_of-after.ensures c.commit_if.ensures.went.later)

pub returns-clause-geometry : goal.returns-clause-geometry
returns-clause-geometry g c = map-set_same g.V.OwnedVolume.geometry c.args.volumes.now
    c.args.load.now.target.place c.commit_if.new.volume c.index-volumes-number.result
    c.commit_if.ensures.went.shape
