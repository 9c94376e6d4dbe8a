-- What attaching a part answers. The rules are this project's own.
use Rattle.std.specs.Prelude.{◌≡◌, ◌<◌, ◌≤◌, Result, OnOk, IfErr, IsErrOf}
use Rattle.vr_types.specs.Faults.{Faults}
use Rattle.vr_types.specs.declared.fault.DeviceFault.TheVariants.{Read, Write}
use Rattle.vr_attach.specs.declared.part_no.PartNo2.{PartNo2}
use Rattle.vr_attach.specs.declared.part_no.PartNo2.TheVariants.{Damaged, Fault, Memory}

-- an answer that no device is the cause of
abbrev pub IsOwnNo : PartNo2 → Type 0
IsOwnNo (Damaged block number) = Unit {0}
IsOwnNo (Fault fault) = ⊥
IsOwnNo Memory = Unit {0}

-- Neither count falls, each fault is one that its count rose for, and neither rose where there is
-- none.
pub record HasPartCause {T : Type 0} (before now : Faults) (result : Result T PartNo2) : Type 0
  where
    pub reads : before.reads ≤ now.reads
    pub writes : before.writes ≤ now.writes
    pub ok : OnOk result (now ≡ before)
    pub own : IfErr result (λ no. IsOwnNo no → now ≡ before)
    pub read : IsErrOf result (Fault Read) → before.reads < now.reads
    pub write : IsErrOf result (Fault Write) → before.writes < now.writes
