use Rattle.std.proofs.Common.{length}
use Rattle.vr_model.proofs.endings.+other_befores.Given as goal

abbrev pub decreases-other_befores : goal.decreases-other_befores
decreases-other_befores l = length l.befores.now
