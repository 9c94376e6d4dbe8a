use Rattle.std.proofs.Common.{length}
use Rattle.vr_model_state.proofs.content.+without_item_in_slice.Given as goal

abbrev pub decreases-without_item_in_slice : goal.decreases-without_item_in_slice
decreases-without_item_in_slice l = length l.placed.now
