use Rattle.std.proofs.Common.{length}
use Rattle.vr_model_state.proofs.look.+is_live.Given as goal

abbrev pub decreases-is_live : goal.decreases-is_live
decreases-is_live l = length l.logged.now
