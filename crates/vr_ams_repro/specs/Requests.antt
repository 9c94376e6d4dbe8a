-- The requests by which REPRO of Access Method Services Commands puts a record into its target.
use Rattle.std.specs.Prelude.{ℕ, ◌+◌, ◌-◌, ◌^◌, Bool, true, if◌then◌else◌, min, nat_le, List, drop}
use Rattle.std.specs.Prelude.{length, take, Option, Some, None}
use Rattle.std.specs.Int.{w32, to_be_bytes}
use Rattle.vr_types.specs.declared.request.FileRef.{FileRef}
use Rattle.vr_types.specs.declared.request.Find.TheVariants.{Equal}
use Rattle.vr_types.specs.declared.request.Request.{Request}
use Rattle.vr_types.specs.declared.request.Request.TheVariants as requests
use Rattle.vr_types.specs.declared.unit.Integrity.TheVariants.{Nri}
use Rattle.vr_types.specs.declared.unit.Kind.{Kind}
use Rattle.vr_types.specs.declared.unit.Kind.TheVariants.{Keyed, Entry, Relative}
use Rattle.vr_catalog.specs.declared.entry.CatEntry.{CatEntry}
use Rattle.vr_ams_print.specs.declared.source.FoundCluster.{FoundCluster}
use Rattle.vr_trace.specs.Visitors.{Visited}
use Rattle.vr_ams_repro.specs.declared.load.Load.{Load}

-- the file by which the utilities are on the target
abbrev pub target_file : FoundCluster → FileRef
target_file target = record {
  volume = min target.place (2 ^ 32 - 1);
  slot = 0;
  base = target.entry.part;
  path = None;
  kind = target.kind;
  known = true;
}

-- the slot of the n-th record that is read; there is none past the last of four bytes
abbrev pub slot_numbered : ℕ → List ℕ
slot_numbered number = to_be_bytes w32 (min number (2 ^ 32 - 1))

-- a relative record keeps its slot in a relative data set, others go to that of their number
abbrev pub slot_of : Option Kind → ℕ → List ℕ → List ℕ
slot_of (Some Relative) number place = place
slot_of source number place = slot_numbered number

-- the key of a record that is long enough for it
abbrev pub key_in : CatEntry → List ℕ → Option (List ℕ)
key_in entry bytes = if nat_le (entry.key_offset + entry.key_length) (length bytes) then Some
    (take entry.key_length (drop entry.key_offset bytes)) else None

-- where a record goes, the n-th that is read, as far as it says so itself: to its key, which a
-- record that is too short doesn't have, or to its slot
abbrev pub place_in : Load → ℕ → Visited → Kind → Option (List ℕ)
place_in load number one Keyed = key_in load.target.entry one.1
place_in load number one Entry = None
place_in load number one Relative = Some (slot_of load.source number one.0)

abbrev pub place_of : Load → ℕ → Visited → Option (List ℕ)
place_of load number one = place_in load number one load.target.kind

-- of these a PUT that adds names the slot alone
abbrev pub place_named : Kind → Option (List ℕ) → Option (List ℕ)
place_named Keyed place = None
place_named Entry place = None
place_named Relative place = place

abbrev pub add_of : FoundCluster → Option (List ℕ) → List ℕ → Request
add_of target place bytes =
    requests.Add (target_file target) (place_named target.kind place) bytes

-- a GET for update, and the PUT that replaces what it got
abbrev pub get_of : FoundCluster → List ℕ → Request
get_of target place = requests.Get (target_file target) (Equal place) true Nri

abbrev pub update_of : FoundCluster → List ℕ → Request
update_of target bytes = requests.Update (target_file target) bytes

-- where it is looked whether there is a record: nowhere without REPLACE
abbrev pub place_looked : Load → Option (List ℕ) → Option (List ℕ)
place_looked load place = if load.replace then place else None
