use Rattle.std.proofs.Common.{length}
use Rattle.vr_answer.proofs.scope.+are_unbuilt.Given as goal

abbrev pub decreases-are_unbuilt : goal.decreases-are_unbuilt
decreases-are_unbuilt l = length l.entries.now
