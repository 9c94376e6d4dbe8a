use Rattle.vr_log.proofs.CallerLemmas.{cleared}
use Rattle.vr_recover.proofs.laws.cleared_log_stays.Goals as goal

pub returns : goal.returns
returns c geometry image content index zeros allowed sized past below are long there spells =
    cleared geometry image content index zeros allowed sized past below are long there spells
