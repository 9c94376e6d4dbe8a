-- Which entries a catalog may have, each by itself, as DEFINE of Access Method Services Commands
-- allows its parameters.
use Rattle.std.specs.Prelude.{ℕ, ◌+◌, ◌^◌, Bool, true, false, not, ◌==◌, ◌&&◌, if◌then◌else◌}
use Rattle.std.specs.Prelude.{nat_lt, nat_le, List, length, Option, Some, None, is_some, is_none}
use Rattle.std.specs.Prelude.{bytes_eq}
use Rattle.std.specs.List.{list_all, list_any, range_with_len}
use Rattle.vr_types.specs.Name.{is_right_at, in_capitals}
use Rattle.vr_types.specs.declared.unit.Kind.{Kind}
use Rattle.vr_types.specs.declared.unit.Kind.TheVariants.{Keyed, Entry, Relative}
use Rattle.vr_types.specs.declared.unit.AreaNo.{AreaNo}
use Rattle.vr_types.specs.declared.unit.PartNo.{PartNo}
use Rattle.vr_catalog.specs.declared.entry.CatEntry.{CatEntry}
use Rattle.vr_catalog.specs.declared.entry.EntryKind.{EntryKind}
use Rattle.vr_catalog.specs.declared.entry.EntryKind.TheVariants.{Cluster, Alternate, Path}
use Rattle.vr_catalog.specs.declared.entry.FreeSpace.{FreeSpace}
use Rattle.vr_catalog.specs.declared.entry.ShareOptions.{ShareOptions}
use Rattle.vr_catalog.specs.declared.entry.SpaceUnit.{SpaceUnit}
use Rattle.vr_catalog.specs.declared.entry.SpaceUnit.TheVariants.{Unstated, Cylinders, Tracks}
use Rattle.vr_catalog.specs.declared.entry.SpaceUnit.TheVariants.{Records}

-- the name of a data set, in capitals
unfoldable pub is_name : List ℕ → Bool
is_name text = nat_lt 0 (length text) && nat_le (length text) 44
    && list_all (is_right_at text) (range_with_len 0 (length text + 1))
    && bytes_eq (in_capitals text) text

abbrev pub is_name_or_none : Option (List ℕ) → Bool
is_name_or_none None = true
is_name_or_none (Some text) = is_name text

abbrev pub are_components : Option (List ℕ) → Option (List ℕ) → Bool
are_components data_name index_name = is_name_or_none data_name && is_name_or_none index_name

abbrev pub are_classes : Option (List ℕ) → Option (List ℕ) → Option (List ℕ) → Bool
are_classes storage data_class management =
    is_name_or_none storage && is_name_or_none data_class && is_name_or_none management

-- the names of the entry, of its components and of its classes
abbrev pub are_names : CatEntry → Bool
are_names entry = is_name entry.name && are_components entry.data_name entry.index_name
    && are_classes entry.storage_class entry.data_class entry.management_class

-- a class is a name of one qualifier
abbrev pub is_class_or_none : Option (List ℕ) → Bool
is_class_or_none None = true
is_class_or_none (Some text) = not (list_any (λ byte. byte == 46) text)

-- KEYS: a length of 1 to 255 at an offset of 0 to 32,759; or no key
abbrev pub are_keys : ℕ → ℕ → Bool
are_keys key_length key_offset = nat_le 1 key_length && nat_le key_length 255
    && nat_le key_offset 32759

abbrev pub are_no_keys : ℕ → ℕ → Bool
are_no_keys key_length key_offset = key_length == 0 && key_offset == 0

-- a key-sequenced cluster has keys, and the other kinds have none
abbrev pub are_keys_of : Option Kind → ℕ → ℕ → Bool
are_keys_of None key_length key_offset = false
are_keys_of (Some Keyed) key_length key_offset = are_keys key_length key_offset
are_keys_of (Some Entry) key_length key_offset = are_no_keys key_length key_offset
are_keys_of (Some Relative) key_length key_offset = are_no_keys key_length key_offset

abbrev pub is_keyed : Option Kind → Bool
is_keyed (Some Keyed) = true
is_keyed _ = false

-- FREESPACE of 0 to 100 each; SHAREOPTIONS of 1 to 4 and of 3 to 4
abbrev pub is_free_space : FreeSpace → Bool
is_free_space free = nat_le free.interval 100 && nat_le free.area 100

abbrev pub are_share_options : ShareOptions → Bool
are_share_options share = nat_le 1 share.regions && nat_le share.regions 4
    && nat_le 3 share.systems && nat_le share.systems 4

-- a number that four bytes hold
abbrev pub fits_four : ℕ → Bool
fits_four n = nat_lt n (2 ^ 32)

-- space that wasn't asked for has no amounts
abbrev pub is_space : SpaceUnit → ℕ → ℕ → Bool
is_space Unstated primary secondary = primary == 0 && secondary == 0
is_space Cylinders primary secondary = fits_four primary && fits_four secondary
is_space Tracks primary secondary = fits_four primary && fits_four secondary
is_space Records primary secondary = fits_four primary && fits_four secondary

abbrev pub is_unstated : SpaceUnit → Bool
is_unstated Unstated = true
is_unstated _ = false

-- a part number that isn't the catalog's
abbrev pub is_part : PartNo → Bool
is_part part = nat_lt 0 part.0 && fits_four part.0

abbrev pub is_related : Option PartNo → Bool
is_related None = false
is_related (Some part) = is_part part

-- an area whose number and 1 four bytes hold
abbrev pub is_area_or_none : Option AreaNo → Bool
is_area_or_none None = true
is_area_or_none (Some area) = fits_four (area.0 + 1)

abbrev pub has_classes : CatEntry → Bool
has_classes entry = is_class_or_none entry.storage_class && is_class_or_none entry.data_class
    && is_class_or_none entry.management_class

abbrev pub has_shares : CatEntry → Bool
has_shares entry = is_free_space entry.free_space && are_share_options entry.share_options
    && is_space entry.space entry.primary entry.secondary

-- what clusters and alternate indexes have in common
abbrev pub has_data : CatEntry → Bool
has_data entry = fits_four entry.average && fits_four entry.maximum
    && fits_four entry.interval_size && has_shares entry && has_classes entry

abbrev pub has_no_names : CatEntry → Bool
has_no_names entry = is_none entry.data_name && is_none entry.index_name
    && is_none entry.storage_class && is_none entry.data_class && is_none entry.management_class

abbrev pub has_no_shares : CatEntry → Bool
has_no_shares entry = entry.free_space.interval == 0 && entry.free_space.area == 0
    && entry.share_options.regions == 0 && entry.share_options.systems == 0

-- a path has nothing beside the part that it stands over
abbrev pub has_no_data : CatEntry → Bool
has_no_data entry = are_no_keys entry.key_length entry.key_offset && entry.average == 0
    && entry.maximum == 0 && entry.interval_size == 0
    && is_unstated entry.space && is_space entry.space entry.primary entry.secondary
    && has_no_shares entry && has_no_names entry

abbrev pub is_cluster : CatEntry → Bool
is_cluster entry = is_none entry.related && not entry.unique && not entry.built
    && are_keys_of entry.kind entry.key_length entry.key_offset && has_data entry

-- an alternate index is a keyed data set over a cluster, and has an area exactly where it has been
-- built
abbrev pub is_alternate : CatEntry → Bool
is_alternate entry = is_keyed entry.kind && is_related entry.related && not entry.spanned
    && (if entry.built then is_some entry.first_area else is_none entry.first_area)
    && are_keys entry.key_length entry.key_offset && has_data entry

abbrev pub is_path : CatEntry → Bool
is_path entry = is_none entry.kind && is_related entry.related && not entry.spanned
    && not entry.unique && not entry.built && is_none entry.first_area && has_no_data entry

abbrev pub is_of_kind : EntryKind → CatEntry → Bool
is_of_kind Cluster entry = is_cluster entry
is_of_kind Alternate entry = is_alternate entry
is_of_kind Path entry = is_path entry

-- whether the entry has what one of its kind may have, its names aside
abbrev pub is_allowed : CatEntry → Bool
is_allowed entry = is_part entry.part && is_area_or_none entry.first_area
    && is_of_kind entry.entry_kind entry

-- whether a catalog may have the entry: exactly these have a record
unfoldable pub is_entry : CatEntry → Bool
is_entry entry = are_names entry && is_allowed entry
