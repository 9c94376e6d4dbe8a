use Rattle.std.proofs.Common.{length}
use Rattle.vr_model_state.proofs.copies.+copy_of_befores.Given as goal

abbrev pub decreases-copy_of_befores : goal.decreases-copy_of_befores
decreases-copy_of_befores l = length l.from.now
