use Rattle.vr_scan.proofs.Outcomes.{one_first_fault}
use Rattle.vr_scan.proofs.laws.one_first_fault.Goals as goal

pub returns : goal.returns
returns c = one_first_fault
