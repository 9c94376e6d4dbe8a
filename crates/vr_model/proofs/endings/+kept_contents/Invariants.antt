use Rattle.std.proofs.Common.{length}
use Rattle.vr_model.proofs.endings.+kept_contents.Given as goal

abbrev pub decreases-kept_contents : goal.decreases-kept_contents
decreases-kept_contents l = length l.contents.now
