-- When LISTCAT is refused, and with what code. The numbers of faults are this project's own.
use Rattle.std.specs.Prelude.{ℕ, Bool, not, ◌==◌, ◌&&◌, ◌||◌, if◌then◌else◌, List, length}
use Rattle.std.specs.Prelude.{Option, Some, None}
use Rattle.std.specs.List.{list_all, list_any}
use Rattle.vr_types.specs.Refusal.{feedback_code}
use Rattle.vr_types.specs.declared.reply.Refusal.TheVariants.{Stopped}
use Rattle.vr_catalog.specs.declared.fault.CatFault.TheVariants.{NotFound}
use Rattle.vr_catalog.specs.Fault.{fault_number, fault_code}
use Rattle.vr_trace.specs.declared.command.Failure.{Failure}
use Rattle.vr_trace.specs.Shown.{Shown, has_name, is_known}

-- a name is on no volume
abbrev pub is_missing : List Shown → List (List ℕ) → Bool
is_missing volumes names = not (list_all (is_known volumes) names)

-- whether it has one of these
abbrev pub has_any : Shown → List (List ℕ) → Bool
has_any volume names = list_any (has_name volume) names

-- a volume has to be there that has one of the names; without names, every volume
abbrev pub is_needed : List (List ℕ) → Shown → Bool
is_needed names volume = length names == 0 || has_any volume names

-- a volume has stopped that has to be there
abbrev pub has_stopped : List Shown → List (List ℕ) → Bool
has_stopped volumes names =
    list_any (λ (volume : Shown). volume.stopped && is_needed names volume) volumes

-- the two ways to be refused
abbrev pub not_found : Failure
not_found = record { fault = fault_number NotFound; code = fault_code NotFound }

abbrev pub stopped : Failure
stopped = record { fault = feedback_code (Stopped 0); code = 12 }

-- a missing name goes before a volume that has stopped
abbrev pub failure_of : List Shown → List (List ℕ) → Option Failure
failure_of volumes names =
    if is_missing volumes names then Some not_found else (if has_stopped volumes names then
    Some stopped else None)
