use Rattle.std.proofs.Common.{ℕ, IsTrue}
use Rattle.vr_attach.proofs.LinkDamage.{damaged-once}
use Rattle.vr_attach.proofs.laws.one_damage.Goals as goal

pub returns : goal.returns
returns c part taken image one other rule rule_of_other =
    damaged-once part image (λ (area : ℕ). IsTrue (taken area)) one other rule rule_of_other
