use Rattle.std.proofs.Common.{length}
use Rattle.vr_model_state.proofs.content.+with_item_in_slice.Given as goal

abbrev pub decreases-with_item_in_slice : goal.decreases-with_item_in_slice
decreases-with_item_in_slice l = length l.placed.now
