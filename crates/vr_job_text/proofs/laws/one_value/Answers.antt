use Rattle.vr_job_text.proofs.Outcomes.{one_job, one_fault}
use Rattle.vr_job_text.proofs.laws.one_value.Goals as goal

pub returns-clause-job : goal.returns-clause-job
returns-clause-job c text one other h g = one_job text one other h g

pub returns-clause-fault : goal.returns-clause-fault
returns-clause-fault c text one other h g = one_fault text one other h g
