use Rattle.vr_log.proofs.Damages.{damaged_one}
use Rattle.vr_log.proofs.laws.one_damaged_block.Goals as goal

pub returns : goal.returns
returns c geometry image one other first second =
    damaged_one geometry image one other first second
