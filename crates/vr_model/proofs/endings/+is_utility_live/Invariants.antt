use Rattle.std.proofs.Common.{length}
use Rattle.vr_model.proofs.endings.+is_utility_live.Given as goal

abbrev pub decreases-is_utility_live : goal.decreases-is_utility_live
decreases-is_utility_live l = length l.logged.now
