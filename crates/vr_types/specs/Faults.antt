-- When an answer may be a fault: where its count rose. The rules are this project's own.
use Rattle.std.specs.Prelude.{◌≡◌, ◌<◌, ◌≤◌, ℕ, Result, Err, OnOk, OnErr, IsErrOf}
use Rattle.vr_types.specs.declared.fault.DeviceFault.{DeviceFault}
use Rattle.vr_types.specs.declared.fault.DeviceFault.TheVariants.{Read, Write}

-- the count rose exactly where the call failed
abbrev pub CountsFault : {T E : Type 0} → ℕ → ℕ → Result T E → Type 0
CountsFault before now result = OnOk result (now ≡ before) × OnErr result (before < now)

-- how often a device failed to read, and to write or sync
pub record Faults : Type 0 where
  pub reads : ℕ
  pub writes : ℕ

-- a read of a device: it fails exactly where the count of reads rises
abbrev pub CountsRead : {T E : Type 0} → Faults → Faults → Result T E → Type 0
CountsRead before now result =
    OnOk result (now ≡ before)
    × OnErr result ((before.reads < now.reads) × (now.writes ≡ before.writes))

-- a write or a sync of a device: it fails exactly where the count of writes rises
abbrev pub CountsWrite : {T E : Type 0} → Faults → Faults → Result T E → Type 0
CountsWrite before now result =
    OnOk result (now ≡ before)
    × OnErr result ((before.writes < now.writes) × (now.reads ≡ before.reads))

-- Neither count falls, each fault is one that its count rose for, and neither rose where there is
-- none. A call ends with its first fault: where that is of a read, no write failed.
pub record HasCause {T : Type 0} (before now : Faults) (result : Result T DeviceFault) : Type 0
  where
    pub reads : before.reads ≤ now.reads
    pub writes : before.writes ≤ now.writes
    pub ok : OnOk result (now ≡ before)
    pub read : IsErrOf result Read → before.reads < now.reads
    pub write : IsErrOf result Write → before.writes < now.writes
    pub unwritten : IsErrOf result Read → now.writes ≡ before.writes

-- the same of a call that reads nothing
pub record HasWriteCause {T : Type 0} (before now : Faults) (result : Result T DeviceFault) : Type 0
  where
    pub cause : HasCause before now result
    pub reads_same : now.reads ≡ before.reads
    pub only_write : result ≡ Err Read → ⊥
