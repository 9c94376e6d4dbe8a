use Rattle.vr_amsparse.proofs.Running.{either_in}
use Rattle.vr_amsparse.proofs.laws.value_or_fault.Goals as goal

pub returns-clause-either : goal.returns-clause-either
returns-clause-either c tokens names = either_in tokens _
