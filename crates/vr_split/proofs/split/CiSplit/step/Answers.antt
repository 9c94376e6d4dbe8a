use Rattle.std.proofs.Common.{[]}
use Rattle.vr_split.proofs.Going.{none-kept}
use Rattle.vr_split.proofs.split.CiSplit.step.Goals as goal

pub returns-in_err-done-clause-ends : goal.returns-in_err-done-clause-ends
returns-in_err-done-clause-ends g c told =
    (c.run-done.ensures.keeps told []
    (none-kept c.args.self.now.part (g.B.Blocks.seen c.args.blocks.now)
    (c.requires.rests told).sound)).adds.ends

pub returns-clause-ends : goal.returns-clause-ends
returns-clause-ends g c told =
    (c.run-done.ensures.keeps told []
    (none-kept c.args.self.now.part (g.B.Blocks.seen c.args.blocks.now)
    (c.requires.rests told).sound)).adds.ends
