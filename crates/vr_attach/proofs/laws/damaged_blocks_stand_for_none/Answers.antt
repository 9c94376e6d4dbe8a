use Rattle.std.proofs.Common.{ℕ, IsTrue}
use Rattle.vr_attach.proofs.LinkDamage.{damaged-alone}
use Rattle.vr_attach.proofs.laws.damaged_blocks_stand_for_none.Goals as goal

pub returns : goal.returns
returns c part taken image n rule =
    damaged-alone part image (λ (area : ℕ). IsTrue (taken area)) n rule
