use Rattle.std.proofs.Common.{length}
use Rattle.vr_model_state.proofs.look.+is_logged.Given as goal

abbrev pub decreases-is_logged : goal.decreases-is_logged
decreases-is_logged l = length l.logged.now
