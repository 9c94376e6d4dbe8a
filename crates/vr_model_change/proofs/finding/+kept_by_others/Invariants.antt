use Rattle.std.proofs.Common.{length}
use Rattle.vr_model_change.proofs.finding.+kept_by_others.Given as goal

abbrev pub decreases-kept_by_others : goal.decreases-kept_by_others
decreases-kept_by_others l = length l.befores.now
