use Rattle.std.proofs.Common.{length}
use Rattle.vr_merge.proofs.legal.+asks_backout.Given as goal

abbrev pub decreases-asks_backout : goal.decreases-asks_backout
decreases-asks_backout l = length l.entries.now
