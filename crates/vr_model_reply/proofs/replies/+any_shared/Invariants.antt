use Rattle.std.proofs.Common.{length}
use Rattle.vr_model_reply.proofs.replies.+any_shared.Given as goal

abbrev pub decreases-any_shared : goal.decreases-any_shared
decreases-any_shared l = length l.all.now
