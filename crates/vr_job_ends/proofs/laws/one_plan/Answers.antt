use Rattle.vr_job_ends.proofs.CallerLemmas.{one_asked}
use Rattle.vr_job_ends.proofs.laws.one_plan.Goals as goal

pub returns : goal.returns
returns c = one_asked
