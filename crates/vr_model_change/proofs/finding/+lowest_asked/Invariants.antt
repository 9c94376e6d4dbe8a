use Rattle.std.proofs.Common.{length}
use Rattle.vr_model_change.proofs.finding.+lowest_asked.Given as goal

abbrev pub decreases-lowest_asked : goal.decreases-lowest_asked
decreases-lowest_asked l = length l.records.now
