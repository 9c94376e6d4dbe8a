use Rattle.vr_volume.proofs.Unique.{one_recovery}
use Rattle.vr_volume.proofs.laws.one_recovery.Goals as goal

pub returns : goal.returns
returns c geometry number image one other long first second part =
    one_recovery geometry number image one other long first second part
