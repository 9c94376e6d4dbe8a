use Rattle.std.proofs.Common.{length}
use Rattle.vr_model.proofs.endings.+kept_areas.Given as goal

abbrev pub decreases-kept_areas : goal.decreases-kept_areas
decreases-kept_areas l = length l.owned.now
