use Rattle.std.proofs.Common.{length}
use Rattle.vr_merge.proofs.legal.+backs_out_once_begun.Given as goal

abbrev pub decreases-backs_out_once_begun : goal.decreases-backs_out_once_begun
decreases-backs_out_once_begun l = length l.entries.now
