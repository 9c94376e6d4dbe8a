use Rattle.std.proofs.Common.{length}
use Rattle.vr_model_change.proofs.finding.+records_in.Given as goal

abbrev pub decreases-records_in : goal.decreases-records_in
decreases-records_in l = length l.placed.now
