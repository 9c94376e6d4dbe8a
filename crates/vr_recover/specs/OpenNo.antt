-- Which answer a fault of a device gives, and when one may come. The rules are this project's own.
use Rattle.std.specs.Prelude.{◌≡◌, ◌<◌, ◌≤◌, Result, OnOk, IfErr, IsErrOf}
use Rattle.vr_types.specs.Faults.{Faults}
use Rattle.vr_types.specs.declared.fault.DeviceFault.{DeviceFault}
use Rattle.vr_types.specs.declared.fault.DeviceFault.TheVariants as faults
use Rattle.vr_attach.specs.declared.part_no.PartNo2.{PartNo2}
use Rattle.vr_attach.specs.declared.part_no.PartNo2.TheVariants as parts
use Rattle.vr_recover.specs.declared.open_no.OpenNo.{OpenNo}
use Rattle.vr_recover.specs.declared.open_no.OpenNo.TheVariants.{Damaged, Version, Unserved, Read, Write}
use Rattle.vr_recover.specs.declared.open_no.OpenNo.TheVariants.{Memory}

abbrev pub fault_no : DeviceFault → OpenNo
fault_no faults.Read = Read
fault_no faults.Write = Write

-- and why a part could not be attached
abbrev pub part_answer : PartNo2 → OpenNo
part_answer (parts.Damaged block rule) = Damaged block rule
part_answer (parts.Fault fault) = fault_no fault
part_answer parts.Memory = Memory

-- an answer that no device is the cause of
abbrev pub IsOwnNo : OpenNo → Type 0
IsOwnNo (Damaged block rule) = Unit {0}
IsOwnNo (Version found) = Unit {0}
IsOwnNo (Unserved block cause) = Unit {0}
IsOwnNo Read = ⊥
IsOwnNo Write = ⊥
IsOwnNo Memory = Unit {0}

-- an answer that says nothing of the blocks
abbrev pub IsSilentNo : OpenNo → Type 0
IsSilentNo (Damaged block rule) = ⊥
IsSilentNo (Version found) = ⊥
IsSilentNo (Unserved block cause) = ⊥
IsSilentNo Read = Unit {0}
IsSilentNo Write = Unit {0}
IsSilentNo Memory = Unit {0}

-- Neither count falls, each fault is one that its count rose for, and neither rose where there is
-- none.
pub record HasOpenCause {T : Type 0} (before now : Faults) (result : Result T OpenNo) : Type 0 where
  pub reads : before.reads ≤ now.reads
  pub writes : before.writes ≤ now.writes
  pub ok : OnOk result (now ≡ before)
  pub own : IfErr result (λ no. IsOwnNo no → now ≡ before)
  pub read : IsErrOf result Read → before.reads < now.reads
  pub write : IsErrOf result Write → before.writes < now.writes

-- an answer that says something of the blocks
abbrev pub IsToldNo : OpenNo → Type 0
IsToldNo (Damaged block rule) = Unit {0}
IsToldNo (Version found) = Unit {0}
IsToldNo (Unserved block cause) = Unit {0}
IsToldNo Read = ⊥
IsToldNo Write = ⊥
IsToldNo Memory = ⊥
