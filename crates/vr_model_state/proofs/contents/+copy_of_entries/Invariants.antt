use Rattle.std.proofs.Common.{length}
use Rattle.vr_model_state.proofs.contents.+copy_of_entries.Given as goal

abbrev pub decreases-copy_of_entries : goal.decreases-copy_of_entries
decreases-copy_of_entries l = length l.from.now
