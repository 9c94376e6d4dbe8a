use Rattle.std.proofs.Common.{length}
use Rattle.vr_model_change.proofs.address.+room_taken.Given as goal

abbrev pub decreases-room_taken : goal.decreases-room_taken
decreases-room_taken l = length l.placed.now
