use Rattle.vr_log_cases.specs.Ready.{IsReady}
use Rattle.vr_log_cases.proofs.steps.run.Given as goal

abbrev pub invariant-loop-i : goal.invariant-loop-i
invariant-loop-i g l = IsReady l.log (g.B.Blocks.seen l.blocks)
