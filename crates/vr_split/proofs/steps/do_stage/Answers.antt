use Rattle.std.proofs.Common.{Some, subst}
use Rattle.vr_types.specs.declared.unit.StageKind.{StageKind}
use Rattle.vr_space.specs.UnderWay.{AreaUnderWay}
use Rattle.vr_split.specs.Splits.{split_of}
use Rattle.vr_split.proofs.steps.do_stage.Goals as goal

pub switch-requires-clause-copied : goal.switch-requires-clause-copied
switch-requires-clause-copied g c told =
    subst (λ (stage : StageKind). AreaUnderWay c.args.layout.now
    (Some (split_of c.args.split.now stage)) (g.B.Blocks.seen c.args.blocks.now)) c.in-CiSwitch.is
    (c.requires.way told)
