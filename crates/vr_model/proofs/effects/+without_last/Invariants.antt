use Rattle.std.proofs.Common.{length}
use Rattle.vr_model.proofs.effects.+without_last.Given as goal

abbrev pub decreases-without_last : goal.decreases-without_last
decreases-without_last l = length l.befores.now
