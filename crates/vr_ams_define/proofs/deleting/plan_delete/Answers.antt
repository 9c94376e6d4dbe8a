use Rattle.std.proofs.Common.{◌≡◌, ◌∙◌, ap, false, map, Some, sym, true}
use Rattle.vr_ams_define.specs.Deleted.{allows, delete_failure, may_go}
use Rattle.vr_ams_define.specs.EditSteps.{IsRefusedBy}
use Rattle.vr_ams_define.specs.Steps.{no_by}
use Rattle.vr_ams_define.proofs.GoneEntries.{delete-plan, found-there, kept}
use Rattle.vr_ams_define.proofs.OnVolume.{shown-on}
use Rattle.vr_ams_define.proofs.Targets.{err-handed}
use Rattle.vr_ams_define.proofs.deleting.plan_delete.Goals as goal

pub returns-in_err-gone-clause-refused : goal.returns-in_err-gone-clause-refused
returns-in_err-gone-clause-refused g c =
    let shown = g.V.ShownVolume.shown in
    let volumes = c.args.volumes.now in
    let target = c.in_ok-target.target in
    let one = c.index-volumes-target.result in
    let first = delete_failure (map shown volumes) c.args.kind c.args.name.now in
    let fault = c.in_err-gone.field-0.0 in
    err-handed (IsRefusedBy first) c.from_residual-in_err-gone.result (no_by fault)
    c.from_residual-in_err-gone.ensures.1
    (found-there (map shown volumes) c.args.name.now c.args.kind target
    c.in_ok-target.ensures.named (shown one)
    (shown-on shown volumes target.place one c.in_ok-target.ensures.within
    c.index-volumes-target.is) c.catalog-catalog.result.now c.catalog-catalog.ensures first fault
    c.in_err-gone.ensures.fault)

pub returns-then-not-branch-clause-refused : goal.returns-then-not-branch-clause-refused
returns-then-not-branch-clause-refused g c =
    let shown = g.V.ShownVolume.shown in
    let volumes = c.args.volumes.now in
    let target = c.in_ok-target.target in
    let one = c.index-volumes-target.result in
    kept (map shown volumes) c.args.name.now c.args.kind target c.in_ok-target.ensures.named
    (shown one) (shown-on shown volumes target.place one c.in_ok-target.ensures.within
    c.index-volumes-target.is) c.catalog-catalog.result.now c.catalog-catalog.ensures
    c.in_ok-gone.gone (sym c.allows.ensures ∙ c.if-not-allows.false) c.in_ok-gone.ensures.gone
    (sym c.in_ok-may_go.ensures ∙ c.if-not-branch.true)
    ∙ ap Some (sym c.catalog_failure-then-not-branch.ensures)

pub returns-clause-planned : goal.returns-clause-planned
returns-clause-planned g c =
    let shown = g.V.ShownVolume.shown in
    let volumes = c.args.volumes.now in
    let target = c.in_ok-target.target in
    let one = c.index-volumes-target.result in
    delete-plan (map shown volumes) c.args.name.now c.args.kind target
    c.in_ok-target.ensures.named (shown one)
    (shown-on shown volumes target.place one c.in_ok-target.ensures.within
    c.index-volumes-target.is) c.catalog-catalog.result.now c.catalog-catalog.ensures
    c.in_ok-gone.gone (sym c.allows.ensures ∙ c.if-not-allows.false) c.in_ok-gone.ensures.gone
    (map g.V.OwnedVolume.geometry volumes) (sym c.in_ok-may_go.ensures ∙ c.if-not-branch.false)
