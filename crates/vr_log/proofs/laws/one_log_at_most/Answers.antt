use Rattle.vr_log.proofs.Unique.{one_log}
use Rattle.vr_log.proofs.laws.one_log_at_most.Goals as goal

pub returns : goal.returns
returns c geometry image one other long first second =
    one_log geometry image one other long first second
