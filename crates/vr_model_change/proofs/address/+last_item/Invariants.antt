use Rattle.std.proofs.Common.{length}
use Rattle.vr_model_change.proofs.address.+last_item.Given as goal

abbrev pub decreases-last_item : goal.decreases-last_item
decreases-last_item l = length l.placed.now
