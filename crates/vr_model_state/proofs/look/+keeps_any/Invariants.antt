use Rattle.std.proofs.Common.{length}
use Rattle.vr_model_state.proofs.look.+keeps_any.Given as goal

abbrev pub decreases-keeps_any : goal.decreases-keeps_any
decreases-keeps_any l = length l.befores.now
