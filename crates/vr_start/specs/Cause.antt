-- When a part may be refused that is made anew. The rules are this project's own.
use Rattle.std.specs.Prelude.{◌≡◌, ◌<◌, ◌≤◌, Result, IsErrOf, OnOk}
use Rattle.vr_types.specs.Faults.{Faults}
use Rattle.vr_types.specs.declared.fault.DeviceFault.TheVariants.{Read, Write}
use Rattle.vr_start.specs.declared.no.StartNo.{StartNo}
use Rattle.vr_start.specs.declared.no.StartNo.TheVariants.{Fault, Memory}

-- Neither count falls, and neither rose where there is no fault; a fault comes only where the count
-- of it rose. A call ends with its first fault: where that is of a read, no write failed.
pub record HasStartCause {T : Type 0} (before now : Faults) (result : Result T StartNo) : Type 0
  where
    pub reads : before.reads ≤ now.reads
    pub writes : before.writes ≤ now.writes
    pub ok : OnOk result (now ≡ before)
    pub memory : IsErrOf result Memory → now ≡ before
    pub read : IsErrOf result (Fault Read) → before.reads < now.reads
    pub write : IsErrOf result (Fault Write) → before.writes < now.writes
    pub unwritten : IsErrOf result (Fault Read) → now.writes ≡ before.writes
