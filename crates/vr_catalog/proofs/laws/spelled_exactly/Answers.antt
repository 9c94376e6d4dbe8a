use Rattle.vr_catalog.proofs.CallerLemmas.{spelled_by, spells}
use Rattle.vr_catalog.proofs.laws.spelled_exactly.Goals as goal

pub returns : goal.returns
returns c bytes entry = (λ spelled. spelled_by bytes entry spelled, λ is. spells bytes entry is)
