use Rattle.std.proofs.Common.{length}
use Rattle.vr_model_state.proofs.contents.+copy_of_parts.Given as goal

abbrev pub decreases-copy_of_parts : goal.decreases-copy_of_parts
decreases-copy_of_parts l = length l.from.now
