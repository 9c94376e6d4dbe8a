-- Refusals of a request by the file that it is on, and by the places and records that it names.
-- Each word answers the refusal exactly where its cause is there. The causes are those of the
-- return codes of DFSMS Using Data Sets; what is this project's own says so.
use Rattle.std.specs.Prelude.{ℕ, ◌-◌, ◌^◌, Bool, true, false, not, min, nat_eq, List, Option, Some}
use Rattle.std.specs.Prelude.{None, ◌==◌, ◌&&◌, ◌||◌, length, is_none, option_map, option_and_then}
use Rattle.std.specs.List.{list_any}
use Rattle.std.specs.Option.{option_map_or}
use Rattle.vr_catalog.specs.Definition.{is_valid_record}
use Rattle.vr_types.specs.declared.reply.Refusal.{Refusal}
use Rattle.vr_types.specs.declared.reply.Refusal.TheVariants.{NoFile, Stopped, NotAllowed, BadSlot}
use Rattle.vr_types.specs.declared.reply.Refusal.TheVariants.{BadLength}
use Rattle.vr_types.specs.declared.request.Find.{Find}
use Rattle.vr_types.specs.declared.request.Find.TheVariants.{Next, Equal, AtLeast}
use Rattle.vr_types.specs.declared.request.Request.{Request}
use Rattle.vr_types.specs.declared.request.Request.TheVariants.{Get, Point, Add, Update, Erase}
use Rattle.vr_types.specs.declared.request.Request.TheVariants.{EndReq, Commit, Backout}
use Rattle.vr_types.specs.declared.unit.Kind.{Kind}
use Rattle.vr_types.specs.declared.unit.Kind.TheVariants.{Keyed, Entry, Relative}
use Rattle.vr_history.specs.Address.{number_of}
use Rattle.vr_history.specs.Case.{Case, file_of}
use Rattle.vr_history.specs.Opened.{Opened, Unknown, Cluster, ByPath, opened}
use Rattle.vr_history.specs.State.{Logged}

-- a refusal where a test holds
abbrev pub refused_if : Bool → Refusal → Option Refusal
refused_if false refusal = None
refused_if true refusal = Some refusal

abbrev pub is_unknown : Opened → Bool
is_unknown Unknown = true
is_unknown (Cluster definition) = false
is_unknown (ByPath definition alternate) = false

-- a unit of the utilities that changed the catalog is still live (this project's own rule: its
-- BACKOUT met a fault)
abbrev pub changed_catalog : Logged → Bool
changed_catalog logged = logged.unit.deck == 0 && logged.part == 0

abbrev pub is_catalog_changing : Case → Bool
is_catalog_changing case = not (case.unit.deck == 0)
    && (is_none case.state.stopped && list_any changed_catalog case.state.logged)

-- the name is in no catalog, or what it names can't be opened
abbrev pub no_file : Case → Option Refusal
no_file case =
    option_and_then (λ file. refused_if (is_unknown (opened case)
    || is_catalog_changing case) NoFile) (file_of case.request)

-- a write or a sync of the volume failed earlier
abbrev pub stopped : Case → Option Refusal
stopped case = option_map Stopped case.state.stopped

-- a place of the kind: a key, or through a path a key of the alternate index; else four bytes
abbrev pub has_form : Kind → List ℕ → Bool
has_form Keyed place = not (nat_eq (length place) 0)
has_form Entry place = nat_eq (length place) 4
has_form Relative place = nat_eq (length place) 4

abbrev pub goes_with : Opened → List ℕ → Bool
goes_with Unknown place = true
goes_with (Cluster definition) place = has_form definition.kind place
goes_with (ByPath definition alternate) place = has_form Keyed place

abbrev pub allows_find : Opened → Find → Bool
allows_find opened Next = true
allows_find opened (Equal place) = goes_with opened place
allows_find opened (AtLeast place) = goes_with opened place

-- POINT names a record
abbrev pub allows_point : Opened → Find → Bool
allows_point opened Next = false
allows_point opened (Equal place) = goes_with opened place
allows_point opened (AtLeast place) = goes_with opened place

-- a slot is named in a relative data set, and nowhere else
abbrev pub allows_slot : Kind → Option (List ℕ) → Bool
allows_slot Keyed named = is_none named
allows_slot Entry named = is_none named
allows_slot Relative named = option_map_or (has_form Relative) named false

abbrev pub kind_allows : (Kind → Bool) → Opened → Bool
kind_allows test Unknown = true
kind_allows test (Cluster definition) = test definition.kind
kind_allows test (ByPath definition alternate) = test definition.kind

abbrev pub can_erase : Kind → Bool
can_erase Keyed = true
can_erase Entry = false
can_erase Relative = true

abbrev pub goes_with_kind : Opened → Request → Bool
goes_with_kind opened (Get file find update integrity) = allows_find opened find
goes_with_kind opened (Point file find) = allows_point opened find
goes_with_kind opened (Add file place bytes) = kind_allows (λ kind. allows_slot kind place) opened
goes_with_kind opened (Update file bytes) = true
goes_with_kind opened (Erase file) = kind_allows can_erase opened
goes_with_kind opened (EndReq file) = true
goes_with_kind opened Commit = true
goes_with_kind opened Backout = true

-- the request doesn't go with the kind of the data set
abbrev pub not_allowed : Case → Option Refusal
not_allowed case = refused_if (not (goes_with_kind (opened case) case.request)) NotAllowed

-- the slot that a request on a relative data set names
abbrev pub slot_sought : Find → Option (List ℕ)
slot_sought Next = None
slot_sought (Equal place) = Some place
slot_sought (AtLeast place) = Some place

abbrev pub slot_named : Request → Option (List ℕ)
slot_named (Get file find update integrity) = slot_sought find
slot_named (Point file find) = slot_sought find
slot_named (Add file place bytes) = place
slot_named (Update file bytes) = None
slot_named (Erase file) = None
slot_named (EndReq file) = None
slot_named Commit = None
slot_named Backout = None

abbrev pub is_slot_zero : Opened → List ℕ → Bool
is_slot_zero Unknown place = false
is_slot_zero (ByPath definition alternate) place = false
is_slot_zero (Cluster definition) place = is_zero_in definition.kind
  where
    is_zero_in : Kind → Bool
    is_zero_in Keyed = false
    is_zero_in Entry = false
    is_zero_in Relative = nat_eq (number_of place) 0

-- slots are numbered from 1
abbrev pub bad_slot : Case → Option Refusal
bad_slot case =
    option_and_then (λ place. refused_if (is_slot_zero (opened case) place) BadSlot)
    (slot_named case.request)

-- the length that a refusal shows
abbrev pub shown_length : List ℕ → ℕ
shown_length bytes = min (length bytes) (2 ^ 32 - 1)

abbrev pub has_length : ℕ → List ℕ → Option Refusal
has_length wanted place =
    refused_if (not (nat_eq (length place) wanted)) (BadLength (shown_length place))

-- this project's own rule: a key that is named has the length of the file's keys
abbrev pub key_length_wrong : Opened → List ℕ → Option Refusal
key_length_wrong Unknown place = None
key_length_wrong (ByPath definition alternate) place = has_length alternate.key_length place
key_length_wrong (Cluster definition) place = has_key_length definition.kind
  where
    has_key_length : Kind → Option Refusal
    has_key_length Keyed = has_length definition.key_length place
    has_key_length Entry = None
    has_key_length Relative = None

abbrev pub find_length_wrong : Opened → Find → Option Refusal
find_length_wrong opened Next = None
find_length_wrong opened (Equal place) = key_length_wrong opened place
find_length_wrong opened (AtLeast place) = key_length_wrong opened place

abbrev pub record_wrong : Opened → List ℕ → Option Refusal
record_wrong Unknown bytes = None
record_wrong (Cluster definition) bytes =
    refused_if (not (is_valid_record definition bytes)) (BadLength (shown_length bytes))
record_wrong (ByPath definition alternate) bytes =
    refused_if (not (is_valid_record definition bytes)) (BadLength (shown_length bytes))

abbrev pub length_wrong : Opened → Request → Option Refusal
length_wrong opened (Get file find update integrity) = find_length_wrong opened find
length_wrong opened (Point file find) = find_length_wrong opened find
length_wrong opened (Add file place bytes) = record_wrong opened bytes
length_wrong opened (Update file bytes) = record_wrong opened bytes
length_wrong opened (Erase file) = None
length_wrong opened (EndReq file) = None
length_wrong opened Commit = None
length_wrong opened Backout = None

-- a record, or a key, of a length that isn't valid
abbrev pub bad_length : Case → Option Refusal
bad_length case = length_wrong (opened case) case.request
