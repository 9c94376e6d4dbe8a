-- The live units of a log, with the number that there is room for.
use Rattle.std.specs.Prelude.{ℕ, List, vec_capacity}
use Rattle.std.specs.Global.{Vec}
use Rattle.vr_types.specs.declared.unit.Unit.{Unit as UnitOfRecovery}

pub record LiveUnits : Type 0 where
  pub units : List UnitOfRecovery
  pub room : ℕ

abbrev pub live_units_of : Vec UnitOfRecovery → LiveUnits
live_units_of units = record { units = units.items; room = vec_capacity units }
