use Rattle.std.proofs.Common.{sym, ◌∙◌}
use Rattle.vr_ams_define.specs.Chosen.{may_define_on}
use Rattle.vr_ams_define.proofs.Choosing.{find-next}
use Rattle.vr_ams_define.proofs.chosen.chosen.Goals as goal

pub loop-number-preserved : goal.loop-number-preserved
loop-number-preserved c =
    sym (find-next (may_define_on c.args.volume.now) c.loop-number.number c.args.count
    c.loop-number-test.true (sym c.may_define_on.ensures ∙ c.if-may_define_on.false))
    ∙ c.loop-number.invariant
