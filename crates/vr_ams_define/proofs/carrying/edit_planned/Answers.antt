use Rattle.std.proofs.Common.{get_or, map, subst}
use Rattle.std.proofs.Math.Seq.{map-set_same}
use Rattle.vr_ams_define.specs.Steps.{IsLater}
use Rattle.vr_ams_define.proofs.Plans.{asked-there, going-there, may-there}
use Rattle.vr_ams_define.proofs.Later.{run-one}
use Rattle.vr_ams_define.proofs.carrying.edit_planned.Goals as goal

pub ask_edit-requires-clause-going : goal.ask_edit-requires-clause-going
ask_edit-requires-clause-going g c = going-there g.V.ShownVolume.shown g.V.OwnedVolume.geometry
    c.args.volumes.now c.args.plan.now c.index-volumes-plan.result c.requires.there

pub ask_edit-requires-clause-edit : goal.ask_edit-requires-clause-edit
ask_edit-requires-clause-edit g c = may-there g.V.ShownVolume.shown g.V.OwnedVolume.geometry
    c.args.volumes.now c.args.plan.now c.index-volumes-plan.result c.requires.there

pub returns-clause-asked : goal.returns-clause-asked
returns-clause-asked g c = asked-there g.V.ShownVolume.shown g.V.OwnedVolume.geometry
    c.args.volumes.now c.args.plan.now c.index-volumes-plan.result c.requires.there
    g.V.OwnedVolume.answers c.args.line c.ask_edit.new.volume c.ask_edit.result
    c.ask_edit.ensures.edited

pub returns-clause-unchanged : goal.returns-clause-unchanged
returns-clause-unchanged g c none =
    map-set_same g.V.ShownVolume.shown c.args.volumes.now c.args.plan.now.place
    c.ask_edit.new.volume c.index-volumes-plan.result (c.ask_edit.ensures.refused none)

pub returns-clause-ran : goal.returns-clause-ran
returns-clause-ran g c =
    let history = g.V.OwnedVolume.history in
    let goes = g.V.OwnedVolume.goes in
    let volumes = c.args.volumes.now in
    let spare = c.index-volumes-plan.result in
    run-one history goes g.V.OwnedVolume.goes_nowhere c.args.line volumes
    c.args.plan.now.place spare c.ask_edit.new.volume c.requires.within (subst
    (λ after. IsLater history goes c.args.line after
    (get_or volumes c.args.plan.now.place spare) c.ask_edit.new.volume)
    c.last_of-after.ensures c.ask_edit.ensures.later)

pub returns-clause-geometry : goal.returns-clause-geometry
returns-clause-geometry g c =
    map-set_same g.V.OwnedVolume.geometry c.args.volumes.now c.args.plan.now.place
    c.ask_edit.new.volume c.index-volumes-plan.result c.ask_edit.ensures.geometry
