-- When a call that copies what a store has or hands it to a visitor, defines a part, or changes an
-- entry of the catalog, may answer what it answers. The rules are this project's own.
use Rattle.std.specs.Prelude.{◌≡◌, ◌<◌, ◌≤◌, Result, IsErrOf, OnOk}
use Rattle.vr_types.specs.Faults.{Faults}
use Rattle.vr_types.specs.declared.fault.DeviceFault.TheVariants.{Read, Write}
use Rattle.vr_start.specs.declared.no.StartNo.{StartNo}
use Rattle.vr_start.specs.declared.no.StartNo.TheVariants as starts
use Rattle.vr_store.specs.declared.no.DefineNo.{DefineNo}
use Rattle.vr_store.specs.declared.no.DefineNo.TheVariants as refusals
use Rattle.vr_store.specs.declared.no.LookNo.{LookNo}
use Rattle.vr_store.specs.declared.no.LookNo.TheVariants.{Fault, Memory}

-- Neither count falls, and neither rose where there is no fault; a fault comes only where the count
-- of it rose. A call ends with its first fault: where that is of a read, no write failed.
pub record HasLookCause {T : Type 0} (before now : Faults) (result : Result T LookNo) : Type 0
  where
    pub reads : before.reads ≤ now.reads
    pub writes : before.writes ≤ now.writes
    pub ok : OnOk result (now ≡ before)
    pub memory : IsErrOf result Memory → now ≡ before
    pub read : IsErrOf result (Fault Read) → before.reads < now.reads
    pub write : IsErrOf result (Fault Write) → before.writes < now.writes
    pub unwritten : IsErrOf result (Fault Read) → now.writes ≡ before.writes

-- why a part is not defined that could not be made
abbrev pub refused_by : StartNo → DefineNo
refused_by (starts.Fault fault) = refusals.Fault fault
refused_by starts.Memory = refusals.Memory

-- The same of a definition, and of a change of an entry: the log that is full is no fault, either.
pub record HasDefineCause {T : Type 0} (before now : Faults) (result : Result T DefineNo) : Type 0
  where
    pub reads : before.reads ≤ now.reads
    pub writes : before.writes ≤ now.writes
    pub ok : OnOk result (now ≡ before)
    pub memory : IsErrOf result refusals.Memory → now ≡ before
    pub full : IsErrOf result refusals.Full → now ≡ before
    pub read : IsErrOf result (refusals.Fault Read) → before.reads < now.reads
    pub write : IsErrOf result (refusals.Fault Write) → before.writes < now.writes
    pub unwritten : IsErrOf result (refusals.Fault Read) → now.writes ≡ before.writes
