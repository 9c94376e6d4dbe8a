use Rattle.std.proofs.Common.{length}
use Rattle.vr_model.proofs.endings.+parts_in.Given as goal

abbrev pub decreases-parts_in : goal.decreases-parts_in
decreases-parts_in l = length l.entries.now
