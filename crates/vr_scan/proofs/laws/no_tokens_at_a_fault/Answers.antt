use Rattle.vr_scan.proofs.Outcomes.{no_tokens_at_a_fault}
use Rattle.vr_scan.proofs.laws.no_tokens_at_a_fault.Goals as goal

pub returns : goal.returns
returns c = no_tokens_at_a_fault
