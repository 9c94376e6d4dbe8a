use Rattle.std.proofs.Common.{length}
use Rattle.vr_model.proofs.effects.+any_own.Given as goal

abbrev pub decreases-any_own : goal.decreases-any_own
decreases-any_own l = length l.held.now
