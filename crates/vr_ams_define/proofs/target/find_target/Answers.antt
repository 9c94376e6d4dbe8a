use Rattle.std.proofs.Common.{Some, map, subst, sym}
use Rattle.vr_catalog.specs.Catalog.{entry_named}
use Rattle.vr_ams_define.specs.Altered.{failure_on, name_failure}
use Rattle.vr_ams_define.specs.EditSteps.{IsRefusedBy, IsTargetOn}
use Rattle.vr_ams_define.proofs.Targets.{err-handed, named-at, refused-at}
use Rattle.vr_ams_define.proofs.target.find_target.Goals as goal

pub returns-clause-named : goal.returns-clause-named
returns-clause-named g c = named-at g.V.ShownVolume.shown c.args.volumes.now c.args.name.now
    c.in-Some.place c.index-volumes-place.result c.in-Some.ensures.within
    (sym c.in-Some.ensures.place) c.in_ok-entry.entry (subst
    (λ volume. IsTargetOn (g.V.ShownVolume.shown volume) c.args.name.now c.in_ok-entry.entry)
    c.index-volumes-place.is c.in_ok-entry.ensures.found)

pub returns-in_err-entry-clause-refused : goal.returns-in_err-entry-clause-refused
returns-in_err-entry-clause-refused g c =
    let shown = g.V.ShownVolume.shown in
    let volumes = c.args.volumes.now in
    let name = c.args.name.now in
    let end = c.in_err-entry.field-0.0 in
    err-handed (IsRefusedBy (name_failure (map shown volumes) name)) c.from_residual.result end
    c.from_residual.ensures.1 (refused-at shown volumes name c.in-Some.place
    c.index-volumes-place.result c.in-Some.ensures.within (sym c.in-Some.ensures.place) end
    (subst (λ volume. IsRefusedBy (failure_on (Some (shown volume))
    (entry_named (shown volume).catalog name)) end) c.index-volumes-place.is
    c.in_err-entry.ensures.refused))
