use Rattle.std.proofs.Common.{length}
use Rattle.vr_model_state.proofs.content.+item_in_slice.Given as goal

abbrev pub decreases-item_in_slice : goal.decreases-item_in_slice
decreases-item_in_slice l = length l.placed.now
