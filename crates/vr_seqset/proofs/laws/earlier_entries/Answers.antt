use Rattle.vr_seqset.proofs.PrefixLemmas.{earlier_keep}
use Rattle.vr_seqset.proofs.laws.earlier_entries.Goals as goal

pub returns : goal.returns
returns c = earlier_keep
