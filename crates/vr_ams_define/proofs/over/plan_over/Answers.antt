use Rattle.std.proofs.Common.{◌≡◌, ◌∙◌, None, Some, ap, map, subst, sym}
use Rattle.vr_ams_define.specs.EditSteps.{IsRefusedBy}
use Rattle.vr_ams_define.specs.Over.{early_failure, over_failure}
use Rattle.vr_ams_define.proofs.OnVolume.{shown-on}
use Rattle.vr_ams_define.proofs.Overs.{over-failure-on, over-plan, refused-on}
use Rattle.vr_ams_define.proofs.Targets.{err-handed}
use Rattle.vr_ams_define.proofs.over.plan_over.Goals as goal

pub returns-in_err-new-clause-refused : goal.returns-in_err-new-clause-refused
returns-in_err-new-clause-refused g c =
    let shown = g.V.ShownVolume.shown in
    let geometry = g.V.OwnedVolume.geometry in
    let volumes = c.args.volumes.now in
    let base = c.in_ok-base.base in
    let one = c.index-volumes-base.result in
    let end = c.in_err-new.field-0.0 in
    err-handed (IsRefusedBy (over_failure (map shown volumes) (map geometry volumes)
    c.args.order.now c.args.volume.now)) c.from_residual-in_err-new.result end c.from_residual-in_err-new.ensures.1
    (refused-on (map shown volumes) (map geometry volumes) c.args.order.now c.args.volume.now base
    c.in_ok-base.ensures.base (shown one) (geometry one)
    (shown-on shown volumes base.place one c.in_ok-base.ensures.within c.index-volumes-base.is)
    (shown-on geometry volumes base.place one c.in_ok-base.ensures.within
    c.index-volumes-base.is) (sym c.early_failure.ensures ∙ c.in_default.is) end
    c.in_err-new.ensures.refused)

pub returns-clause-planned : goal.returns-clause-planned
returns-clause-planned g c =
    let shown = g.V.ShownVolume.shown in
    let geometry = g.V.OwnedVolume.geometry in
    let volumes = c.args.volumes.now in
    let base = c.in_ok-base.base in
    let one = c.index-volumes-base.result in
    over-plan (map shown volumes) (map geometry volumes) c.args.order.now c.args.volume.now base
    c.in_ok-base.ensures.base (shown one) (geometry one)
    (shown-on shown volumes base.place one c.in_ok-base.ensures.within c.index-volumes-base.is)
    (shown-on geometry volumes base.place one c.in_ok-base.ensures.within
    c.index-volumes-base.is) c.in_ok-new.ensures.allowed c.in_ok-new.new c.in_ok-new.ensures.new
    (sym c.early_failure.ensures ∙ c.in_default.is)
