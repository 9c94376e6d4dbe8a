-- What DEFINE of Access Method Services Commands makes of a catalog: each fault that it may meet,
-- and the entry that it adds.
use Rattle.std.specs.Prelude.{ℕ, ◌+◌, ◌-◌, ◌^◌, max, Bool, true, false, ◌==◌, ◌||◌, nat_le, List}
use Rattle.std.specs.Prelude.{[], ◌∷◌, length, Option, Some, None, is_some}
use Rattle.std.specs.List.{count_by, fold}
use Rattle.std.specs.Option.{option_and_then, option_map, option_map_or}
use Rattle.vr_types.specs.declared.geometry.Geometry.{Geometry}
use Rattle.vr_types.specs.declared.unit.Kind.{Kind}
use Rattle.vr_types.specs.declared.unit.Kind.TheVariants.{Keyed, Entry, Relative}
use Rattle.vr_types.specs.declared.unit.PartNo.{PartNo}
use Rattle.vr_catalog.specs.declared.entry.CatEntry.{CatEntry}
use Rattle.vr_catalog.specs.declared.entry.EntryKind.{EntryKind}
use Rattle.vr_catalog.specs.declared.entry.EntryKind.TheVariants as kinds
use Rattle.vr_catalog.specs.declared.entry.SpaceUnit.TheVariants.{Unstated}
use Rattle.vr_catalog.specs.declared.order.Define.{Define}
use Rattle.vr_catalog.specs.declared.order.NewEntry.{NewEntry}
use Rattle.vr_catalog.specs.declared.order.NewEntry.TheVariants.{Cluster, Alternate, Path}
use Rattle.vr_catalog.specs.declared.order.DataOptions.{DataOptions}
use Rattle.vr_catalog.specs.declared.changes.Change.{Change}
use Rattle.vr_catalog.specs.declared.changes.Change.TheVariants.{Add}
use Rattle.vr_catalog.specs.declared.fault.CatFault.{CatFault}
use Rattle.vr_catalog.specs.declared.fault.CatFault.TheVariants.{NameTaken, NotFound, WrongKind}
use Rattle.vr_catalog.specs.declared.fault.CatFault.TheVariants.{KeyPastRecord, RecordSize}
use Rattle.vr_catalog.specs.declared.fault.CatFault.TheVariants.{FewIntervals, WrongBase}
use Rattle.vr_catalog.specs.declared.fault.CatFault.TheVariants.{TooManyAlternates, CatalogFull}
use Rattle.vr_catalog.specs.Catalog.{entry_named, parts_in, alternate_in}
use Rattle.vr_catalog.specs.Definition.{Definition}
use Rattle.vr_catalog.specs.Fault.{first_of}
use Rattle.vr_catalog.specs.Limits.{are_bad_sizes, is_bad_cluster, ends_past, are_few_intervals}

abbrev pub fault_if : Bool → CatFault → Option CatFault
fault_if true fault = Some fault
fault_if false fault = None

-- the name in RELATE or PATHENTRY
abbrev pub related_name : NewEntry → Option (List ℕ)
related_name (Cluster kind spanned options) = None
related_name (Alternate related unique options) = Some related
related_name (Path related) = Some related

-- the entry that the new one stands over
abbrev pub base_of : List CatEntry → Define → Option CatEntry
base_of entries order = option_and_then (λ name. entry_named entries name) (related_name order.what)

-- RELATE or PATHENTRY names no entry
abbrev pub unknown_base : Option (List ℕ) → Option CatEntry → Option CatFault
unknown_base None base = None
unknown_base (Some name) None = Some NotFound
unknown_base (Some name) (Some base) = None

abbrev pub is_path_kind : EntryKind → Bool
is_path_kind kinds.Cluster = false
is_path_kind kinds.Alternate = false
is_path_kind kinds.Path = true

-- nothing stands over a path
abbrev pub path_base : Option CatEntry → Option CatFault
path_base base =
    fault_if (option_map_or (λ entry. is_path_kind entry.entry_kind) base false) WrongKind

abbrev pub name_taken : List CatEntry → List ℕ → Option CatFault
name_taken entries name = fault_if (is_some (entry_named entries name)) NameTaken

abbrev pub is_alternate_kind : EntryKind → Bool
is_alternate_kind kinds.Cluster = false
is_alternate_kind kinds.Alternate = true
is_alternate_kind kinds.Path = false

abbrev pub is_relative : Option Kind → Bool
is_relative None = false
is_relative (Some Keyed) = false
is_relative (Some Entry) = false
is_relative (Some Relative) = true

-- an alternate index stands over a key-sequenced or an entry-sequenced cluster
abbrev pub wrong_base : NewEntry → Option CatEntry → Option CatFault
wrong_base (Cluster kind spanned options) base = None
wrong_base (Alternate related unique options) base =
    fault_if (option_map_or (λ entry. is_alternate_kind entry.entry_kind
    || is_relative entry.kind) base false) WrongBase
wrong_base (Path related) base = None

-- KEYS of a kind without keys counts for nothing
abbrev pub key_of_kind : Kind → ℕ → ℕ
key_of_kind Keyed n = n
key_of_kind Entry n = 0
key_of_kind Relative n = 0

-- what a new cluster states of its records
abbrev pub new_definition : Kind → Bool → DataOptions → Definition
new_definition kind spanned options = record {
  kind = kind;
  spanned = spanned;
  key_length =
      key_of_kind kind options.key_length;
  key_offset =
      key_of_kind kind options.key_offset;
  maximum = options.maximum;
}

-- a cluster's key, or an alternate index's in its base, ends past the longest record
abbrev pub key_past_record : NewEntry → Option CatEntry → Option CatFault
key_past_record (Cluster kind spanned options) base =
    fault_if (ends_past (key_of_kind kind options.key_length)
    (key_of_kind kind options.key_offset) options.maximum) KeyPastRecord
key_past_record (Alternate related unique options) base =
    fault_if (option_map_or (λ entry. ends_past options.key_length options.key_offset
    entry.maximum) base false) KeyPastRecord
key_past_record (Path related) base = None

abbrev pub bad_record_size : Geometry → NewEntry → Option CatFault
bad_record_size geometry (Cluster kind spanned options) =
    fault_if (is_bad_cluster geometry (new_definition kind spanned options) options.average)
    RecordSize
bad_record_size geometry (Alternate related unique options) =
    fault_if (are_bad_sizes options.average options.maximum) RecordSize
bad_record_size geometry (Path related) = None

-- the places of a base: its keys, or four bytes
abbrev pub place_length_of : Option Kind → ℕ → ℕ
place_length_of None key_length = 4
place_length_of (Some Keyed) key_length = key_length
place_length_of (Some Entry) key_length = 4
place_length_of (Some Relative) key_length = 4

-- the places of a keyed part: the keys of a cluster, the pairs of an alternate index
abbrev pub few_intervals : Geometry → NewEntry → Option CatEntry → Option CatFault
few_intervals geometry (Cluster Keyed spanned options) base =
    fault_if (are_few_intervals geometry options.key_length) FewIntervals
few_intervals geometry (Cluster Entry spanned options) base = None
few_intervals geometry (Cluster Relative spanned options) base = None
few_intervals geometry (Alternate related unique options) base =
    fault_if (option_map_or (λ entry. are_few_intervals geometry
    (options.key_length + place_length_of entry.kind entry.key_length)) base false) FewIntervals
few_intervals geometry (Path related) base = None

-- how many alternate indexes stand over a base
abbrev pub alternate_count : List CatEntry → ℕ → ℕ
alternate_count entries base = count_by (λ entry. is_some (alternate_in base entry)) entries

-- a ninth alternate index
abbrev pub too_many_alternates : List CatEntry → NewEntry → Option CatEntry → Option CatFault
too_many_alternates entries (Cluster kind spanned options) base = None
too_many_alternates entries (Alternate related unique options) base =
    fault_if (option_map_or (λ entry. nat_le 8 (alternate_count entries entry.part.0)) base false)
    TooManyAlternates
too_many_alternates entries (Path related) base = None

-- the greatest part number, 0 where there is no part
abbrev pub greatest_part : List CatEntry → ℕ
greatest_part entries = fold max 0 (parts_in entries)

-- 4,096 entries, or no further part number
abbrev pub catalog_full : List CatEntry → Option CatFault
catalog_full entries =
    fault_if (nat_le 4096 (length entries) || greatest_part entries == 2 ^ 32 - 1) CatalogFull

-- the faults of a DEFINE in the order in which they are tried
abbrev pub define_fault : List CatEntry → Define → Geometry → Option CatFault
define_fault entries order geometry = first_of (
    unknown_base (related_name order.what) (base_of entries order)
    ∷ path_base (base_of entries order)
    ∷ name_taken entries order.name
    ∷ wrong_base order.what (base_of entries order)
    ∷ key_past_record order.what (base_of entries order)
    ∷ bad_record_size geometry order.what
    ∷ few_intervals geometry order.what (base_of entries order)
    ∷ too_many_alternates entries order.what (base_of entries order)
    ∷ catalog_full entries ∷ [])

-- a cluster of a name, a part and options, which has no area yet
abbrev pub new_cluster : List ℕ → ℕ → Kind → Bool → DataOptions → CatEntry
new_cluster name part kind spanned options = record {
  name = name;
  entry_kind = kinds.Cluster;
  kind = Some kind;
  spanned = spanned;
  unique = false;
  built = false;
  part = record { 0 = part };
  related = None;
  key_length = key_of_kind kind options.key_length;
  key_offset = key_of_kind kind options.key_offset;
  average = options.average;
  maximum = options.maximum;
  first_area = None;
  free_space = options.free_space;
  share_options = options.share_options;
  space = options.space;
  primary = options.primary;
  secondary = options.secondary;
  interval_size = options.interval_size;
  data_name = options.data_name;
  index_name = options.index_name;
  storage_class = options.storage_class;
  data_class = options.data_class;
  management_class = options.management_class;
}

-- an alternate index is a keyed data set of its own
abbrev pub new_alternate : List ℕ → ℕ → Option PartNo → Bool → DataOptions → CatEntry
new_alternate name part related unique options =
    record (new_cluster name part Keyed false options) {
      entry_kind = kinds.Alternate;
      unique =
          unique;
      related = related;
    }

-- a path has nothing but its name, its part and the part that it stands over
abbrev pub new_path : List ℕ → ℕ → Option PartNo → CatEntry
new_path name part related = record {
  name = name;
  entry_kind = kinds.Path;
  kind = None;
  spanned = false;
  unique = false;
  built = false;
  part = record { 0 = part };
  related = related;
  key_length = 0;
  key_offset = 0;
  average = 0;
  maximum = 0;
  first_area = None;
  free_space = record { interval = 0; area = 0 };
  share_options = record { regions = 0; systems = 0 };
  space = Unstated;
  primary = 0;
  secondary = 0;
  interval_size = 0;
  data_name = None;
  index_name = None;
  storage_class = None;
  data_class = None;
  management_class = None;
}

abbrev pub entry_by : NewEntry → List ℕ → ℕ → Option PartNo → CatEntry
entry_by (Cluster kind spanned options) name part related =
    new_cluster name part kind spanned options
entry_by (Alternate base unique options) name part related =
    new_alternate name part related unique options
entry_by (Path base) name part related = new_path name part related

-- the new entry, whose part number is 1 above the greatest
abbrev pub new_entry : List CatEntry → Define → CatEntry
new_entry entries order = entry_by order.what order.name (greatest_part entries + 1)
    (option_map (λ (base : CatEntry). base.part) (base_of entries order))

-- the changes of a DEFINE that isn't refused
abbrev pub define_changes : List CatEntry → Define → List Change
define_changes entries order = Add (new_entry entries order) ∷ []
