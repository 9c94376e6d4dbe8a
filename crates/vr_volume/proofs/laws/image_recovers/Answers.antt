use Rattle.vr_volume.proofs.Recovering.{image_recovers}
use Rattle.vr_volume.proofs.laws.image_recovers.Goals as goal

pub returns : goal.returns
returns c geometry number owners log committed image safe =
    image_recovers geometry number owners image log committed safe
