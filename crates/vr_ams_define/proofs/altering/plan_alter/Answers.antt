use Rattle.std.proofs.Common.{map, sym}
use Rattle.vr_ams_define.proofs.Alterations.{alter-plan}
use Rattle.vr_ams_define.proofs.altering.plan_alter.Goals as goal

pub returns-in-Some-clause-planned : goal.returns-in-Some-clause-planned
returns-in-Some-clause-planned g c =
    alter-plan (map g.V.ShownVolume.shown c.args.volumes.now) c.args.order.now
    c.in_ok-target.target c.in_ok-target.ensures.named
    (map g.V.OwnedVolume.geometry c.args.volumes.now) c.in-Some.edit
    c.in_ok-new.ensures.allowed (sym c.in-Some.ensures)
