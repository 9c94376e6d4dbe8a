use Rattle.vr_text.proofs.CallerLemmas.{one_value}
use Rattle.vr_text.proofs.laws.one_value.Goals as goal

pub returns : goal.returns
returns c = one_value
