use Rattle.std.proofs.Common.{length}
use Rattle.vr_model_change.proofs.finding.+candidates_in.Given as goal

abbrev pub decreases-candidates_in : goal.decreases-candidates_in
decreases-candidates_in l = length l.records.now
