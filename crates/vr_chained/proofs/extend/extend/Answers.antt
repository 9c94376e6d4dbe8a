use Rattle.vr_chained.proofs.Meeting.{on-ok-more}
use Rattle.vr_chained.proofs.extend.extend.Goals as goal

pub returns-else-is_whole-clause-may : goal.returns-else-is_whole-clause-may
returns-else-is_whole-clause-may g c told kept keeps quiet =
    c.add_interval.ensures.may told c.args.space.now kept keeps quiet

pub returns-else-is_whole-clause-done : goal.returns-else-is_whole-clause-done
returns-else-is_whole-clause-done g c told =
    on-ok-more c.add_interval.result _ _ (λ done quiet. done c.args.space.now quiet)
    (c.add_interval.ensures.done told)
