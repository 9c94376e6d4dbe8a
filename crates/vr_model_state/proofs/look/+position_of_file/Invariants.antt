use Rattle.std.proofs.Common.{length}
use Rattle.vr_model_state.proofs.look.+position_of_file.Given as goal

abbrev pub decreases-position_of_file : goal.decreases-position_of_file
decreases-position_of_file l = length l.positions.now
