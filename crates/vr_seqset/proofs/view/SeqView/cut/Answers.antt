use Rattle.vr_seqset.specs.declared.fault.SeqFault.TheVariants as faults
use Rattle.vr_seqset.proofs.RecordLemmas.{record_is}
use Rattle.vr_seqset.proofs.FaultLemmas.{keeps}
use Rattle.vr_seqset.proofs.view.SeqView.cut.Goals as goal

pub returns-in_err-rest_of-clause-only : goal.returns-in_err-rest_of-clause-only
returns-in_err-rest_of-clause-only c = λ cis s is. absurd (c.in_err-rest_of.ensures.none
    (keeps cis c.args.bytes.now s is faults.Lengths))

pub returns-clause-only : goal.returns-clause-only
returns-clause-only c = λ cis s is. record_is cis c.args.bytes.now s is
