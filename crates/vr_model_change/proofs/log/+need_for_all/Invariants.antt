use Rattle.std.proofs.Common.{length}
use Rattle.vr_model_change.proofs.log.+need_for_all.Given as goal

abbrev pub decreases-need_for_all : goal.decreases-need_for_all
decreases-need_for_all l = length l.images.now
