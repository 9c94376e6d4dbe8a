-- An event whose first part entered nothing, and met no fault.
use Rattle.std.proofs.Common.{◌≡◌, ℕ, subst}
use Rattle.vr_types.specs.Faults.{Faults}
use Rattle.vr_types.specs.declared.request.Request.{Request}
use Rattle.vr_types.specs.declared.unit.Unit.{Unit as UnitOfRecovery}
use Rattle.vr_record_file.specs.Now.{FileNow}
use Rattle.vr_event.specs.Acting.{IsActed}
use Rattle.vr_event.specs.declared.act.Act.{Act}

pub acted-earlier : (before mid now : Faults) → mid ≡ before → (after : ℕ)
    (unit : UnitOfRecovery) (line : ℕ) (request : Request) (old new : FileNow) (act : Act)
    → IsActed mid now act after unit line request old new
    → IsActed before now act after unit line request old new
acted-earlier before mid now same after unit line request old new act is =
    subst (λ (f : Faults). IsActed f now act after unit line request old new) same is
