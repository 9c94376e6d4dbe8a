use Rattle.std.proofs.Common.{length}
use Rattle.vr_model_change.proofs.names.+keys_of.Given as goal

abbrev pub decreases-keys_of : goal.decreases-keys_of
decreases-keys_of l = length l.all.now
