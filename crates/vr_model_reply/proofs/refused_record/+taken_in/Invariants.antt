use Rattle.std.proofs.Common.{length}
use Rattle.vr_model_reply.proofs.refused_record.+taken_in.Given as goal

abbrev pub decreases-taken_in : goal.decreases-taken_in
decreases-taken_in l = length l.all.now
