use Rattle.vr_scan.proofs.Ends.{commands_are_ended}
use Rattle.vr_scan.proofs.laws.commands_are_ended.Goals as goal

pub returns : goal.returns
returns c = commands_are_ended
