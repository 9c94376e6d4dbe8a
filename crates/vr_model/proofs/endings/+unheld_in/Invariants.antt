use Rattle.std.proofs.Common.{length}
use Rattle.vr_model.proofs.endings.+unheld_in.Given as goal

abbrev pub decreases-unheld_in : goal.decreases-unheld_in
decreases-unheld_in l = length l.positions.now
