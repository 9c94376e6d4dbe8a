use Rattle.vr_volume.proofs.Unique.{one_stand}
use Rattle.vr_volume.proofs.laws.one_volume.Goals as goal

pub returns : goal.returns
returns c geometry number image log least one other long first second =
    one_stand geometry number image log least one other long first second
