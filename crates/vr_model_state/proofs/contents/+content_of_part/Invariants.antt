use Rattle.std.proofs.Common.{length}
use Rattle.vr_model_state.proofs.contents.+content_of_part.Given as goal

abbrev pub decreases-content_of_part : goal.decreases-content_of_part
decreases-content_of_part l = length l.parts.now
