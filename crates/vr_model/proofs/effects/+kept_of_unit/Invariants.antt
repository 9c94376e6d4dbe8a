use Rattle.std.proofs.Common.{length}
use Rattle.vr_model.proofs.effects.+kept_of_unit.Given as goal

abbrev pub decreases-kept_of_unit : goal.decreases-kept_of_unit
decreases-kept_of_unit l = length l.befores.now
