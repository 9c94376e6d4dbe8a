use Rattle.std.proofs.Common.{length}
use Rattle.vr_model_change.proofs.names.+first_conflict.Given as goal

abbrev pub decreases-first_conflict : goal.decreases-first_conflict
decreases-first_conflict l = length l.held.now
