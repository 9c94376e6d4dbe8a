-- Histories without a fault. That a write that fails is entered as one, and stops its volume, is this
-- project's own rule.
use Rattle.std.specs.Prelude.{◌≡◌, Bool, true, false, List, All}
use Rattle.std.specs.List.{list_any}
use Rattle.vr_types.specs.declared.fault.DeviceFault.{DeviceFault}
use Rattle.vr_history.specs.declared.entry.Entry.{Entry}
use Rattle.vr_history.specs.declared.entry.What.{What}
use Rattle.vr_history.specs.declared.entry.What.TheVariants.{Asked, Undone, Claimed, Split, Faulted}

-- a fault of the device that stopped its volume
abbrev pub IsFaulted : What → Type 0
IsFaulted what = (fault : DeviceFault) × (what ≡ Faulted fault)

-- none of the entries is one
abbrev pub AreFaultless : List Entry → Type 0
AreFaultless entries = All (λ entry. ¬ IsFaulted entry.what) entries

-- an entry that stops its volume, and whether a history has one
abbrev pub is_stop : What → Bool
is_stop (Asked request reply) = false
is_stop (Undone part place) = false
is_stop (Claimed part area) = false
is_stop (Split part) = false
is_stop (Faulted fault) = true

abbrev pub has_stopped : List Entry → Bool
has_stopped entries = list_any (λ (entry : Entry). is_stop entry.what) entries
