use Rattle.std.proofs.Common.{length}
use Rattle.vr_model_state.proofs.look.+is_kept.Given as goal

abbrev pub decreases-is_kept : goal.decreases-is_kept
decreases-is_kept l = length l.befores.now
