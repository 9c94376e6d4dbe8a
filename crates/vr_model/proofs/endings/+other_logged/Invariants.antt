use Rattle.std.proofs.Common.{length}
use Rattle.vr_model.proofs.endings.+other_logged.Given as goal

abbrev pub decreases-other_logged : goal.decreases-other_logged
decreases-other_logged l = length l.logged.now
