use Rattle.std.proofs.Common.{refl}
use Rattle.vr_locks.specs.Listed.{listed}
use Rattle.vr_locks.proofs.table.lock_table.Goals as goal

pub returns : goal.returns
unfolding listed
returns c = refl
