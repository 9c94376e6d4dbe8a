use Rattle.std.proofs.Common.{length}
use Rattle.vr_model_change.proofs.names.+conflict_on.Given as goal

abbrev pub decreases-conflict_on : goal.decreases-conflict_on
decreases-conflict_on l = length l.asked.now
