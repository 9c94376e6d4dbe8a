-- When a DEFINE CLUSTER is refused before a volume is asked, and with what code: the causes in the
-- order in which they are tried. The numbers of faults and their order are this project's own.
use Rattle.std.specs.Prelude.{ℕ, Bool, if◌then◌else◌, List, length, slice_get, Option, Some, None}
use Rattle.std.specs.Option.{option_and_then, option_map, option_or}
use Rattle.vr_types.specs.Refusal.{feedback_code}
use Rattle.vr_types.specs.declared.fault.DeviceFault.{DeviceFault}
use Rattle.vr_types.specs.declared.fault.DeviceFault.TheVariants.{Read, Write}
use Rattle.vr_types.specs.declared.geometry.Geometry.{Geometry}
use Rattle.vr_types.specs.declared.reply.Refusal.{Refusal}
use Rattle.vr_types.specs.declared.reply.Refusal.TheVariants.{Stopped, ReadFault, WriteFault}
use Rattle.vr_catalog.specs.Define.{define_fault, new_entry}
use Rattle.vr_catalog.specs.Entry.{is_entry}
use Rattle.vr_catalog.specs.Fault.{fault_number, fault_code}
use Rattle.vr_catalog.specs.declared.entry.CatEntry.{CatEntry}
use Rattle.vr_catalog.specs.declared.fault.CatFault.{CatFault}
use Rattle.vr_catalog.specs.declared.fault.CatFault.TheVariants.{NameTaken, NoVolume, CatalogFull}
use Rattle.vr_catalog.specs.declared.order.Define.{Define}
use Rattle.vr_trace.specs.Shown.{is_known}
use Rattle.vr_trace.specs.Shown.{Shown}
use Rattle.vr_trace.specs.declared.command.Failure.{Failure}
use Rattle.vr_ams_define.specs.Chosen.{chosen}

-- a fault of the catalog, with its condition code
abbrev pub catalog_failure : CatFault → Failure
catalog_failure fault = record { fault = fault_number fault; code = fault_code fault }

-- a refusal by a volume, which the listing shows as a fault
abbrev pub volume_failure : Refusal → Failure
volume_failure refusal = record { fault = feedback_code refusal; code = 12 }

-- 904 and 905: the device failed
abbrev pub fault_failure : DeviceFault → Failure
fault_failure Read = volume_failure ReadFault
fault_failure Write = volume_failure WriteFault

-- 901: a lock is in the way
abbrev pub held_failure : Failure
held_failure = record { fault = 901; code = 12 }

-- the cause is there
abbrev pub failure_if : Bool → Failure → Option Failure
failure_if cause failure = if cause then Some failure else None

-- 903: the volume has stopped
abbrev pub stopped_failure : Shown → Option Failure
stopped_failure volume = failure_if volume.stopped (volume_failure (Stopped 0))

-- 1: the name is in use on some volume
abbrev pub name_failure : List Shown → List ℕ → Option Failure
name_failure volumes name = failure_if (is_known volumes name) (catalog_failure NameTaken)

-- 14: no record spells the entry, since a name or a number of it isn't one that a parser lets
-- through. The catalog can take it no more than where it is full.
abbrev pub record_failure : CatEntry → Option Failure
record_failure entry = if is_entry entry then None else Some (catalog_failure CatalogFull)

-- 5, 6, 7 and 14: what a catalog refuses
abbrev pub entry_failure : Geometry → List CatEntry → Define → Option Failure
entry_failure geometry entries order =
    option_or (option_map catalog_failure (define_fault entries order geometry))
    (record_failure (new_entry entries order))

-- what the volume refuses; 4: there is no such volume
abbrev pub failure_on : Option Shown → Option Geometry → Define → Option Failure
failure_on (Some volume) (Some geometry) order = entry_failure geometry volume.catalog order
failure_on volume geometry order = Some (catalog_failure NoVolume)

-- the volume of a number, where there is one
abbrev pub volume_at : {T : Type 0} → List T → Option ℕ → Option T
volume_at volumes number = option_and_then (slice_get volumes) number

-- what all volumes are looked at for
abbrev pub early_failure : List Shown → Option ℕ → List ℕ → Option Failure
early_failure volumes number name =
    option_or (option_and_then stopped_failure (volume_at volumes number))
    (name_failure volumes name)

-- in their order: 903, 1, 4, 5, 6, 7 and 14
abbrev pub failure_at : List Shown → List Geometry → Option ℕ → Define → Option Failure
failure_at volumes geometries number order =
    option_or (early_failure volumes number order.name)
    (failure_on (volume_at volumes number) (volume_at geometries number) order)

-- why the command is refused before a volume is asked, if it is
abbrev pub first_failure : List Shown → List Geometry → Define → Option (List ℕ) → Option Failure
first_failure volumes geometries order volume =
    failure_at volumes geometries (chosen (length volumes) volume) order
