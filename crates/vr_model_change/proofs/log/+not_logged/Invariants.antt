use Rattle.std.proofs.Common.{length}
use Rattle.vr_model_change.proofs.log.+not_logged.Given as goal

abbrev pub decreases-not_logged : goal.decreases-not_logged
decreases-not_logged l = length l.images.now
