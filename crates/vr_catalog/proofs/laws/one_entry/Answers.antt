use Rattle.vr_catalog.proofs.CallerLemmas.{one_spelled}
use Rattle.vr_catalog.proofs.laws.one_entry.Goals as goal

pub returns : goal.returns
returns c bytes one other first second = one_spelled bytes one other first second
