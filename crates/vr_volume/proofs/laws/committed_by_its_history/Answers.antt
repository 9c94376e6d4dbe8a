use Rattle.vr_volume.proofs.Histories.{committed-everywhere}
use Rattle.vr_volume.proofs.laws.committed_by_its_history.Goals as goal

pub returns : goal.returns
returns c geometry contents owned entries others records part steps has alike place =
    committed-everywhere geometry contents owned entries others records part steps has alike place
