-- When a call that logs and then sets a record may answer what it answers.
use Rattle.std.specs.Prelude.{◌≡◌, ◌<◌, ◌≤◌, Result, IsErrOf, OnOk}
use Rattle.vr_types.specs.Faults.{Faults}
use Rattle.vr_log.specs.declared.no.LogNo.{LogNo}
use Rattle.vr_log.specs.declared.no.LogNo.TheVariants.{Read, Write}

-- Neither count falls; nothing was met where it is done; a fault of a read, or of a write, comes only
-- where the count of it rose. A call ends with its first fault: where that is of a read, no write
-- failed.
pub record HasChangeCause {T : Type 0} (before now : Faults) (result : Result T LogNo) : Type 0
  where
    pub reads : before.reads ≤ now.reads
    pub writes : before.writes ≤ now.writes
    pub ok : OnOk result (now ≡ before)
    pub read : IsErrOf result Read → before.reads < now.reads
    pub write : IsErrOf result Write → before.writes < now.writes
    pub unwritten : IsErrOf result Read → now.writes ≡ before.writes
