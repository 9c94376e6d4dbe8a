use Rattle.std.proofs.Common.{length}
use Rattle.vr_model.proofs.effects.+all_raised.Given as goal

abbrev pub decreases-all_raised : goal.decreases-all_raised
decreases-all_raised l = length l.held.now
