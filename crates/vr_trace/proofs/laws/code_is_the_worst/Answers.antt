use Rattle.vr_trace.proofs.Worst.{worst}
use Rattle.vr_trace.proofs.laws.code_is_the_worst.Goals as goal

pub returns : goal.returns
returns c = worst
