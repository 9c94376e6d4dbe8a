use Rattle.vr_job_text.proofs.Outcomes.{either_in, job_clash}
use Rattle.vr_job_text.proofs.laws.value_or_fault.Goals as goal

pub returns-clause-both : goal.returns-clause-both
returns-clause-both c text job fault h g = job_clash text job fault h g

pub returns-clause-either : goal.returns-clause-either
returns-clause-either c text = either_in text
