use Rattle.vr_text.proofs.CallerLemmas.{written_is_read}
use Rattle.vr_text.proofs.laws.written_is_read.Goals as goal

pub returns : goal.returns
returns c = written_is_read
