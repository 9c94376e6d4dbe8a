use Rattle.std.proofs.Common.{length}
use Rattle.vr_model_reply.proofs.replies.+any_later.Given as goal

abbrev pub decreases-any_later : goal.decreases-any_later
decreases-any_later l = length l.others.now
