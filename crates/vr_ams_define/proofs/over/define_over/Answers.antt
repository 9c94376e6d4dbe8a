use Rattle.std.proofs.Common.{map}
use Rattle.vr_ams_define.specs.Over.{base_place, over_edit, over_failure}
use Rattle.vr_ams_define.proofs.Plans.{edited-by, planned-there}
use Rattle.vr_ams_define.proofs.over.define_over.Goals as goal

pub carry_out-requires : goal.carry_out-requires
carry_out-requires g c =
    let volumes = map g.V.ShownVolume.shown c.args.volumes.now in
    let geometries = map g.V.OwnedVolume.geometry c.args.volumes.now in
    let order = c.args.order.now in
    record {
      there = planned-there volumes geometries (over_failure volumes geometries order c.args.volume.now)
          (base_place volumes order) (over_edit volumes order) c.plan_over-plan.result
          c.plan_over-plan.ensures.planned;
    }

pub returns-clause-defined : goal.returns-clause-defined
returns-clause-defined g c =
    let volumes = map g.V.ShownVolume.shown c.args.volumes.now in
    let geometries = map g.V.OwnedVolume.geometry c.args.volumes.now in
    let order = c.args.order.now in
    record {
      why = c.in_ok-why.why;
      ended = edited-by g.V.ShownVolume.shown geometries g.V.OwnedVolume.answers c.args.line
          (over_failure volumes geometries order c.args.volume.now) (base_place volumes order)
          (over_edit volumes order) c.args.volumes.now c.carry_out.new.volumes c.in_ok-why.why
          c.plan_over-plan.result c.plan_over-plan.ensures.planned
          c.plan_over-plan.ensures.refused c.in_ok-why.ensures.carried;
      outcome_is = c.outcome_by.ensures;
    }
