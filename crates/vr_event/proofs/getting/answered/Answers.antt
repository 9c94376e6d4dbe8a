use Rattle.vr_answer.specs.InHand.{whole}
use Rattle.vr_store.specs.declared.no.LookNo.TheVariants.{Memory}
use Rattle.vr_event.proofs.Ended.{may-fail}
use Rattle.vr_event.proofs.getting.answered.Goals as goal

pub returns : goal.returns
returns c = λ state is sought at none read.
    may-fail (whole c.args.case.now state) read none Memory
