use Rattle.std.proofs.Common.{length}
use Rattle.vr_model_reply.proofs.refused_record.+any_has_key.Given as goal

abbrev pub decreases-any_has_key : goal.decreases-any_has_key
decreases-any_has_key l = length l.records.now
