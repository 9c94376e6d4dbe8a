use Rattle.vr_format.proofs.Safety.{formatted-safe, owned}
use Rattle.vr_format.proofs.laws.formatted_is_safe.Goals as goal

pub returns : goal.returns
returns c geometry number entries image formatted =
    let owners = owned geometry number entries image formatted in
    (owners.0, owners.1, formatted-safe geometry number entries image formatted)
