use Rattle.std.proofs.Common.{ℕ, IsTrue}
use Rattle.vr_chained.proofs.Damaged.{damaged-nowhere}
use Rattle.vr_chained.proofs.laws.damaged_chains_stay_nowhere.Goals as goal

pub returns : goal.returns
returns c = λ part taken. damaged-nowhere part (λ (area : ℕ). IsTrue (taken area))
