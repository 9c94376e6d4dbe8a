use Rattle.vr_log.proofs.Unique.{spelled_one}
use Rattle.vr_log.proofs.laws.one_list_of_records.Goals as goal

pub returns : goal.returns
returns c bytes one other first second = spelled_one bytes one other first second
