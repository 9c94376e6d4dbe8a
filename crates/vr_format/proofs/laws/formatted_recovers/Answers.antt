use Rattle.vr_format.proofs.Safety.{formatted-recovers}
use Rattle.vr_format.proofs.laws.formatted_recovers.Goals as goal

pub returns : goal.returns
returns c geometry number entries image formatted =
    formatted-recovers geometry number entries image formatted
