use Rattle.std.proofs.Common.{length}
use Rattle.vr_model_change.proofs.log.+images_of.Given as goal

abbrev pub decreases-images_of : goal.decreases-images_of
decreases-images_of l = length l.all.now
