use Rattle.std.proofs.Common.{map, refl}
use Rattle.vr_ams_define.specs.Altered.{alter_edit, alter_failure, place_of}
use Rattle.vr_ams_define.proofs.Plans.{edited-by, planned-there}
use Rattle.vr_ams_define.proofs.altering.alter_entry.Goals as goal

pub carry_out-requires : goal.carry_out-requires
carry_out-requires g c =
    let volumes = map g.V.ShownVolume.shown c.args.volumes.now in
    let order = c.args.order.now in
    record {
      there = planned-there volumes (map g.V.OwnedVolume.geometry c.args.volumes.now)
          (alter_failure volumes order) (place_of volumes order.name) (alter_edit volumes order)
          c.plan_alter-plan.result c.plan_alter-plan.ensures.planned;
    }

pub returns-clause-altered : goal.returns-clause-altered
returns-clause-altered g c =
    let volumes = map g.V.ShownVolume.shown c.args.volumes.now in
    let order = c.args.order.now in
    record {
      why = c.in_ok-why.why;
      ended = edited-by g.V.ShownVolume.shown (map g.V.OwnedVolume.geometry c.args.volumes.now)
          g.V.OwnedVolume.answers c.args.line (alter_failure volumes order)
          (place_of volumes order.name) (alter_edit volumes order) c.args.volumes.now
          c.carry_out.new.volumes c.in_ok-why.why c.plan_alter-plan.result
          c.plan_alter-plan.ensures.planned c.plan_alter-plan.ensures.refused
          c.in_ok-why.ensures.carried;
      outcome_is = c.outcome_by.ensures;
    }
