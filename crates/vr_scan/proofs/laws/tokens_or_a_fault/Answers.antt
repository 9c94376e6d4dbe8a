use Rattle.vr_scan.proofs.Existing.{tokens_or_a_fault}
use Rattle.vr_scan.proofs.laws.tokens_or_a_fault.Goals as goal

pub returns : goal.returns
returns c = tokens_or_a_fault
