use Rattle.std.proofs.Common.{length}
use Rattle.vr_merge.proofs.legal.+stops_at_write_faults.Given as goal

abbrev pub decreases-stops_at_write_faults : goal.decreases-stops_at_write_faults
decreases-stops_at_write_faults l = length l.entries.now
