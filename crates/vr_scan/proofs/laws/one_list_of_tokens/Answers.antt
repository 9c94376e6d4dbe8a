use Rattle.vr_scan.proofs.Outcomes.{one_list_of_tokens}
use Rattle.vr_scan.proofs.laws.one_list_of_tokens.Goals as goal

pub returns : goal.returns
returns c = one_list_of_tokens
