-- The rules that the catalog of a volume keeps, beside those of its blocks: its records spell
-- entries, no part number comes twice, an alternate index or a path stands over what it may, a
-- cluster has a first area, and the sizes are those that DEFINE of Access Method Services Commands
-- allows.
use Rattle.std.specs.Prelude.{ℕ, ◌+◌, Bool, true, false, not, ◌&&◌, ◌||◌, List, ◌∷◌, All, IsTrue}
use Rattle.std.specs.Prelude.{nat_eq}
use Rattle.std.specs.Prelude.{Option, Some, None, is_some, is_none}
use Rattle.std.specs.List.{IsDistinct}
use Rattle.std.specs.Option.{option_and_then, option_map_or}
use Rattle.vr_types.specs.Content.{Content, records_of}
use Rattle.vr_types.specs.declared.geometry.Geometry.{Geometry}
use Rattle.vr_types.specs.declared.unit.Kind.{Kind}
use Rattle.vr_types.specs.declared.unit.Kind.TheVariants.{Keyed, Entry, Relative}
use Rattle.vr_types.specs.declared.unit.PartNo.{PartNo}
use Rattle.vr_catalog.specs.Catalog.{entries_in, entry_with_part, parts_in, definition_in}
use Rattle.vr_catalog.specs.Define.{is_path_kind, is_relative, place_length_of}
use Rattle.vr_catalog.specs.Limits.{are_bad_sizes, are_few_intervals, ends_past, is_bad_cluster}
use Rattle.vr_catalog.specs.Record.{entry_of}
use Rattle.vr_catalog.specs.declared.entry.CatEntry.{CatEntry}
use Rattle.vr_catalog.specs.declared.entry.EntryKind.{EntryKind}
use Rattle.vr_catalog.specs.declared.entry.EntryKind.TheVariants.{Cluster, Alternate, Path}

-- the entry over which another stands
abbrev pub related_in : List CatEntry → CatEntry → Option CatEntry
related_in entries entry =
    option_and_then (λ (part : PartNo). entry_with_part entries part.0) entry.related

abbrev pub is_cluster : EntryKind → Bool
is_cluster Cluster = true
is_cluster Alternate = false
is_cluster Path = false

-- a cluster stands over nothing, an alternate index over a cluster that isn't relative, and a path
-- over a cluster or an alternate index
abbrev pub is_over_by : EntryKind → CatEntry → Option CatEntry → Bool
is_over_by Cluster entry base = is_none entry.related
is_over_by Alternate entry base =
    option_map_or (λ (other : CatEntry). is_cluster other.entry_kind
    && not (is_relative other.kind))
    base false
is_over_by Path entry base =
    option_map_or (λ (other : CatEntry). not (is_path_kind other.entry_kind)) base false

-- a cluster has a first area, from which its blocks are reached
abbrev pub has_area_by : EntryKind → CatEntry → Bool
has_area_by Cluster entry = is_some entry.first_area
has_area_by Alternate entry = true
has_area_by Path entry = true

-- an area has two intervals at least for places of the length, where there is one
abbrev pub has_intervals : Geometry → CatEntry → ℕ → Bool
has_intervals geometry entry length =
    is_none entry.first_area || not (are_few_intervals geometry length)

abbrev pub has_intervals_by : Geometry → CatEntry → Option Kind → Bool
has_intervals_by geometry entry None = true
has_intervals_by geometry entry (Some Keyed) = has_intervals geometry entry entry.key_length
has_intervals_by geometry entry (Some Entry) = true
has_intervals_by geometry entry (Some Relative) = true

-- the sizes of an alternate index over its base
abbrev pub has_sizes_over : Geometry → CatEntry → CatEntry → Bool
has_sizes_over geometry entry base =
    not (ends_past entry.key_length entry.key_offset base.maximum)
    && (not (are_bad_sizes entry.average entry.maximum)
    && has_intervals geometry entry
    (entry.key_length + place_length_of base.kind base.key_length))

abbrev pub has_sizes_by : EntryKind → Geometry → CatEntry → Option CatEntry → Bool
has_sizes_by Cluster geometry entry base =
    not (ends_past entry.key_length entry.key_offset entry.maximum)
    && (not (is_bad_cluster geometry (definition_in entry) entry.average)
    && has_intervals_by geometry entry entry.kind)
has_sizes_by Alternate geometry entry base =
    option_map_or (has_sizes_over geometry entry) base true
has_sizes_by Path geometry entry base = true

-- An entry keeps the rules beside the others.
pub record IsEntryOf (geometry : Geometry) (entries : List CatEntry) (entry : CatEntry) : Type 0
  where
    pub over : IsTrue (is_over_by entry.entry_kind entry (related_in entries entry))
    pub area : IsTrue (has_area_by entry.entry_kind entry)
    pub sizes : IsTrue (has_sizes_by entry.entry_kind geometry entry (related_in entries entry))

-- The content is that of a catalog. Part 0 is the catalog itself.
pub record IsCatalog (geometry : Geometry) (content : Content) : Type 0 where
  pub spelled : All (λ (placed : List ℕ × List ℕ). IsTrue (is_some (entry_of placed.1)))
      (records_of content)
  pub parts : IsDistinct nat_eq (0 ∷ parts_in (entries_in content))
  pub entries : All (IsEntryOf geometry (entries_in content)) (entries_in content)
