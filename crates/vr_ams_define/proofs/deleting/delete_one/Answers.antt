use Rattle.std.proofs.Common.{[], ◌∷◌, map}
use Rattle.vr_ams_define.specs.Altered.{place_of}
use Rattle.vr_ams_define.specs.Deleted.{delete_edit, delete_failure}
use Rattle.vr_ams_define.proofs.GoneEntries.{name-ended}
use Rattle.vr_ams_define.proofs.GrownLemmas.{run-nothing}
use Rattle.vr_ams_define.proofs.Plans.{planned-there}
use Rattle.vr_ams_define.proofs.deleting.delete_one.Goals as goal

pub carry_out-requires : goal.carry_out-requires
carry_out-requires g c =
    let volumes = map g.V.ShownVolume.shown c.args.volumes.now in
    let name = c.args.name.now in
    record {
      there = planned-there volumes (map g.V.OwnedVolume.geometry c.args.volumes.now)
          (delete_failure volumes c.args.kind name) (place_of volumes name)
          (delete_edit volumes name) c.plan_delete-plan.result c.plan_delete-plan.ensures.planned;
    }

pub returns-in_err-lines-clause-ran : goal.returns-in_err-lines-clause-ran
returns-in_err-lines-clause-ran g c = run-nothing g.V.OwnedVolume.history g.V.OwnedVolume.goes
    g.V.OwnedVolume.goes_nowhere (c.args.line ∷ []) c.args.volumes.now

pub returns-clause-deleted : goal.returns-clause-deleted
returns-clause-deleted g c = name-ended g.V.ShownVolume.shown
    (map g.V.OwnedVolume.geometry c.args.volumes.now) g.V.OwnedVolume.answers c.args.line
    c.args.kind c.args.name.now c.args.volumes.now c.carry_out.new.volumes
    c.plan_delete-plan.result c.plan_delete-plan.ensures.planned
    c.plan_delete-plan.ensures.refused c.in_ok-why.why c.in_ok-why.ensures.carried
    c.end_by.result.why c.in_ok-lines.lines c.end_by.result.lines c.end_by.ensures.0
    c.in_ok-lines.ensures c.end_by.ensures.1
