use Rattle.std.proofs.Common.{get_or, subst}
use Rattle.std.proofs.Math.Seq.{map-set_same}
use Rattle.vr_ams_define.specs.Answers.Exchange.{Counting}
use Rattle.vr_ams_define.specs.Steps.{IsLater}
use Rattle.vr_ams_define.proofs.Later.{run-one}
use Rattle.vr_ams_print.proofs.Sources.{asked-so, going-there, has-there, still-counted}
use Rattle.vr_ams_print.proofs.verify.count_source.Goals as goal

pub count-requires-clause-going : goal.count-requires-clause-going
count-requires-clause-going g c = going-there g.V.ShownVolume.shown c.args.volumes.now
    c.args.source.now c.requires.there c.index-volumes-number.result

pub count-requires-clause-entry : goal.count-requires-clause-entry
count-requires-clause-entry g c = has-there g.V.ShownVolume.shown c.args.volumes.now
    c.args.source.now c.requires.there c.index-volumes-number.result

pub returns-clause-counted : goal.returns-clause-counted
returns-clause-counted g c = asked-so g.V.ShownVolume.shown c.args.volumes.now
    c.args.source.now c.requires.there c.index-volumes-number.result g.V.OwnedVolume.answers
    c.args.line (λ answer. Counting c.args.source.now.entry answer) c.count.new.self c.count.result
    c.count.ensures.counted

pub returns-clause-shown : goal.returns-clause-shown
returns-clause-shown g c = still-counted g.V.ShownVolume.shown c.args.volumes.now
    c.args.source.now c.requires.there c.index-volumes-number.result c.count.new.self
    c.count.result c.count.ensures.shown c.count.ensures.refused

pub returns-clause-grew : goal.returns-clause-grew
returns-clause-grew g c =
    let history = g.V.OwnedVolume.history in
    let goes = g.V.OwnedVolume.goes in
    let volumes = c.args.volumes.now in
    let spare = c.index-volumes-number.result in
    run-one history goes g.V.OwnedVolume.goes_nowhere c.args.line volumes
    c.args.source.now.place spare c.count.new.self c.requires.within (subst
    (λ after. IsLater history goes c.args.line after
    (get_or volumes c.args.source.now.place spare) c.count.new.self)
    c.last_of-after.ensures
    (record { is_later = c.count.ensures.goes; entered = c.count.ensures.entered }))

pub returns-clause-geometry : goal.returns-clause-geometry
returns-clause-geometry g c =
    map-set_same g.V.OwnedVolume.geometry c.args.volumes.now c.args.source.now.place
    c.count.new.self c.index-volumes-number.result c.count.ensures.geometry
