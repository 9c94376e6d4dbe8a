use Rattle.std.proofs.Common.{get_or, subst}
use Rattle.std.proofs.Math.Seq.{map-set_same}
use Rattle.vr_ams_define.specs.Steps.{IsLater}
use Rattle.vr_ams_define.proofs.Later.{run-one}
use Rattle.vr_ams_define.proofs.OnVolume.{defined-at, left-at}
use Rattle.vr_ams_define.proofs.cluster.define_at.Goals as goal

pub returns-clause-defined : goal.returns-clause-defined
returns-clause-defined g c =
    let end = c.define_on-end in
    defined-at g.V.ShownVolume.shown g.V.OwnedVolume.geometry g.V.OwnedVolume.answers
    c.args.volumes.now c.args.number c.index-volumes-number.result end.new.volume c.args.line
    c.args.order.now end.result c.conclude.result c.requires.within end.ensures.entered
    end.ensures.undone c.conclude.ensures.ends

pub returns-clause-unchanged : goal.returns-clause-unchanged
returns-clause-unchanged g c none =
    let end = c.define_on-end in
    left-at g.V.ShownVolume.shown _ c.args.volumes.now c.args.number
    c.index-volumes-number.result end.new.volume end.result c.conclude.result end.ensures.undone
    c.conclude.ensures.ended none

pub returns-clause-ran : goal.returns-clause-ran
returns-clause-ran g c =
    let end = c.define_on-end in
    let history = g.V.OwnedVolume.history in
    let goes = g.V.OwnedVolume.goes in
    let volumes = c.args.volumes.now in
    let spare = c.index-volumes-number.result in
    run-one history goes g.V.OwnedVolume.goes_nowhere c.args.line volumes c.args.number spare
    end.new.volume c.requires.within (subst
    (λ after. IsLater history goes c.args.line after (get_or volumes c.args.number spare)
    end.new.volume) c.last_of-after.ensures end.ensures.later)

pub returns-clause-geometry : goal.returns-clause-geometry
returns-clause-geometry g c =
    map-set_same g.V.OwnedVolume.geometry c.args.volumes.now c.args.number
    c.define_on-end.new.volume c.index-volumes-number.result c.define_on-end.ensures.geometry
