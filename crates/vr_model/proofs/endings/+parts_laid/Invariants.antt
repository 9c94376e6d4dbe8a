use Rattle.std.proofs.Common.{length}
use Rattle.vr_model.proofs.endings.+parts_laid.Given as goal

abbrev pub decreases-parts_laid : goal.decreases-parts_laid
decreases-parts_laid l = length l.entries.now
