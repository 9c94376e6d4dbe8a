use Rattle.std.proofs.Common.{get_or, subst}
use Rattle.std.proofs.Math.Seq.{map-set_same}
use Rattle.vr_ams_define.specs.Steps.{IsLater}
use Rattle.vr_ams_define.proofs.Later.{run-one}
use Rattle.vr_ams_run.proofs.Counting.{counted-as, going-at, has-at}
use Rattle.vr_ams_run.proofs.listed_all.ask_count.Goals as goal

pub count-requires-clause-going : goal.count-requires-clause-going
count-requires-clause-going g c = going-at g.V.ShownVolume.shown c.args.volumes.now
    c.args.listed.now c.index-volumes-number.result c.requires.there c.requires.going

pub count-requires-clause-entry : goal.count-requires-clause-entry
count-requires-clause-entry g c = has-at g.V.ShownVolume.shown c.args.volumes.now
    c.args.listed.now c.index-volumes-number.result c.requires.there

pub returns-clause-counted : goal.returns-clause-counted
returns-clause-counted g c =
    let shown = g.V.ShownVolume.shown in
    counted-as shown g.V.OwnedVolume.answers c.args.line c.args.listed.now c.args.volumes.now
    c.index-volumes-number.result c.count.new.self
    c.requires.within c.requires.cluster
    c.count.result c.count.ensures.counted c.count.ensures.shown

pub returns-clause-grew : goal.returns-clause-grew
returns-clause-grew g c =
    let history = g.V.OwnedVolume.history in
    let goes = g.V.OwnedVolume.goes in
    let volumes = c.args.volumes.now in
    let spare = c.index-volumes-number.result in
    run-one history goes g.V.OwnedVolume.goes_nowhere c.args.line volumes
    c.args.listed.now.volume spare c.count.new.self
    c.requires.within (subst
    (λ after. IsLater history goes c.args.line after
    (get_or volumes c.args.listed.now.volume spare) c.count.new.self)
    c.last_of-after.ensures
    (record { is_later = c.count.ensures.goes; entered = c.count.ensures.entered }))

pub returns-clause-geometry : goal.returns-clause-geometry
returns-clause-geometry g c =
    map-set_same g.V.OwnedVolume.geometry c.args.volumes.now c.args.listed.now.volume
    c.count.new.self c.index-volumes-number.result c.count.ensures.geometry
