use Rattle.vr_job_ends.proofs.CallerLemmas.{asks_plan, plan_asked, asks_nothing, nothing_asked}
use Rattle.vr_job_ends.proofs.laws.exact.Goals as goal

pub returns-clause-some : goal.returns-clause-some
returns-clause-some c = λ words asked. (asks_plan words asked, plan_asked words asked)

pub returns-clause-none : goal.returns-clause-none
returns-clause-none c = λ words. (asks_nothing words, nothing_asked words)
