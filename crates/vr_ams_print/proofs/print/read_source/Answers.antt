use Rattle.std.proofs.Common.{get_or, subst}
use Rattle.std.proofs.Math.Seq.{map-set_same}
use Rattle.vr_ams_define.specs.Steps.{IsLater}
use Rattle.vr_ams_define.proofs.Later.{run-one}
use Rattle.vr_ams_print.proofs.Sources.{going-there, handed-so, has-there, still-read}
use Rattle.vr_ams_print.proofs.print.read_source.Goals as goal

pub read-requires-clause-going : goal.read-requires-clause-going
read-requires-clause-going g c = going-there g.V.ShownVolume.shown c.args.volumes.now
    c.args.source.now c.requires.there c.index-volumes-number.result

pub read-requires-clause-entry : goal.read-requires-clause-entry
read-requires-clause-entry g c = has-there g.V.ShownVolume.shown c.args.volumes.now
    c.args.source.now c.requires.there c.index-volumes-number.result

pub returns-clause-read : goal.returns-clause-read
returns-clause-read g c = handed-so g.V.ShownVolume.shown c.args.volumes.now
    c.args.source.now c.requires.there c.index-volumes-number.result g.V.OwnedVolume.answers
    _ _ c.args.line _ c.args.visitor.now c.read.new.visitor c.read.new.self c.read.result
    c.read.ensures.read

pub returns-clause-shown : goal.returns-clause-shown
returns-clause-shown g c = still-read g.V.ShownVolume.shown c.args.volumes.now
    c.args.source.now c.requires.there c.index-volumes-number.result c.read.new.self
    c.read.result c.read.ensures.shown c.read.ensures.refused

pub returns-clause-grew : goal.returns-clause-grew
returns-clause-grew g c =
    let history = g.V.OwnedVolume.history in
    let goes = g.V.OwnedVolume.goes in
    let volumes = c.args.volumes.now in
    let spare = c.index-volumes-number.result in
    run-one history goes g.V.OwnedVolume.goes_nowhere c.args.line volumes
    c.args.source.now.place spare c.read.new.self c.requires.within (subst
    (λ after. IsLater history goes c.args.line after
    (get_or volumes c.args.source.now.place spare) c.read.new.self)
    c.last_of-after.ensures
    (record { is_later = c.read.ensures.goes; entered = c.read.ensures.entered }))

pub returns-clause-geometry : goal.returns-clause-geometry
returns-clause-geometry g c =
    map-set_same g.V.OwnedVolume.geometry c.args.volumes.now c.args.source.now.place
    c.read.new.self c.index-volumes-number.result c.read.ensures.geometry
