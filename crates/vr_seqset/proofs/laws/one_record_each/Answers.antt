use Rattle.std.proofs.Common.{sym, ◌∙◌}
use Rattle.vr_seqset.proofs.RecordLemmas.{record_is}
use Rattle.vr_seqset.proofs.laws.one_record_each.Goals as goal

pub returns : goal.returns
returns c = λ cis others block s t first second. sym (record_is cis block s first)
    ∙ record_is others block t second
