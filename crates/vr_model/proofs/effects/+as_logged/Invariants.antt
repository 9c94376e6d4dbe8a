use Rattle.std.proofs.Common.{length}
use Rattle.vr_model.proofs.effects.+as_logged.Given as goal

abbrev pub decreases-as_logged : goal.decreases-as_logged
decreases-as_logged l = length l.images.now
