use Rattle.std.proofs.Common.{length}
use Rattle.vr_model_change.proofs.change.+moves_in.Given as goal

abbrev pub decreases-moves_in : goal.decreases-moves_in
decreases-moves_in l = length l.indexes.now
