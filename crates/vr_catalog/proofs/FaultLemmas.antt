-- Faults that are tried one after another.
use Rattle.std.proofs.Common.{◌≡◌}
use Rattle.std.specs.Prelude.{Option, Some, None}
use Rattle.std.specs.Option.{option_or}
use Rattle.vr_catalog.specs.declared.fault.CatFault.{CatFault}

-- where no fault has its cause, the last one hasn't
pub last_none : (first last : Option CatFault) → option_or first last ≡ None → last ≡ None
last_none None last none = none
last_none (Some fault) last none = absurd (cc)
