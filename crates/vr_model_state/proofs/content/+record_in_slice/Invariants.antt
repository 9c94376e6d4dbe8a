use Rattle.std.proofs.Common.{length}
use Rattle.vr_model_state.proofs.content.+record_in_slice.Given as goal

abbrev pub decreases-record_in_slice : goal.decreases-record_in_slice
decreases-record_in_slice l = length l.placed.now
