-- What an edit makes of a catalog (Access Method Services Commands, ALTER, DELETE, DEFINE
-- ALTERNATEINDEX and DEFINE PATH), and when it may be made. Entries of a catalog are told by their
-- part numbers, of which none comes twice; their order is that of their names.
use Rattle.std.specs.Prelude.{◌≡◌, ◌≢◌, ◌<◌, ◌≤◌, ◌+◌, ◌==◌, ℕ, Bool, true, false, not, List, [], ◌∷◌}
use Rattle.std.specs.Prelude.{All, IsTrue, Option, Some, None, filter, if◌then◌else◌, length, map}
use Rattle.std.specs.Prelude.{nat_eq}
use Rattle.std.specs.List.{IsDistinct, count_by, find, list_any}
use Rattle.std.specs.Option.{option_map, option_map_or}
use Rattle.std.specs.Ordering.{is_lt}
use Rattle.vr_types.specs.Content.{place_cmp}
use Rattle.vr_types.specs.declared.geometry.Geometry.{Geometry}
use Rattle.vr_types.specs.declared.unit.PartNo.{PartNo}
use Rattle.vr_catalog.specs.Catalog.{entry_named, entry_with_part, is_over, parts_in}
use Rattle.vr_catalog.specs.Definition.{catalog_definition, key_of}
use Rattle.vr_catalog.specs.Entry.{is_entry}
use Rattle.vr_catalog.specs.Record.{spelling}
use Rattle.vr_catalog.specs.declared.entry.CatEntry.{CatEntry}
use Rattle.vr_catalog.specs.declared.entry.EntryKind.TheVariants.{Alternate, Cluster}
use Rattle.vr_attach.specs.CatalogRules.{IsEntryOf, is_cluster}
use Rattle.vr_attach.specs.Laid.{shape_in}
use Rattle.vr_edits.specs.declared.edit.CatalogEdit.{CatalogEdit}
use Rattle.vr_edits.specs.declared.edit.CatalogEdit.TheVariants.{Add, Alter, Delete, Rename}

-- ---- which entries are served

-- an alternate index that is built isn't: no request changes it with its base yet
abbrev pub IsUnbuilt : CatEntry → Type 0
IsUnbuilt entry = entry.entry_kind ≡ Alternate → entry.built ≡ false

-- a cluster whose longest record has room in an interval, an alternate index that isn't built, or a
-- path
pub record IsServedEntry (geometry : Geometry) (entry : CatEntry) : Type 0 where
  pub plain : entry.entry_kind ≡ Cluster → entry.maximum + 7 ≤ geometry.size
  pub unbuilt : IsUnbuilt entry

-- ---- the catalog with an edit

-- the place of the record of an entry, which begins with its name
abbrev pub entry_place : CatEntry → List ℕ
entry_place entry = key_of catalog_definition (spelling entry)

-- an entry of the same part
abbrev pub is_of_part : CatEntry → CatEntry → Bool
is_of_part entry other = other.part.0 == entry.part.0

-- the catalog with one entry more, before the first whose place is greater
abbrev pub with_entry : CatEntry → List CatEntry → List CatEntry
with_entry new [] = new ∷ []
with_entry new (entry ∷ entries) =
    if is_lt (place_cmp (entry_place new) (entry_place entry)) then new ∷ entry ∷ entries
    else entry ∷ with_entry new entries

-- without one
abbrev pub without_entry : CatEntry → List CatEntry → List CatEntry
without_entry entry entries = filter (λ (other : CatEntry). not (is_of_part entry other)) entries

-- without several
abbrev pub without_entries : List CatEntry → List CatEntry → List CatEntry
without_entries [] entries = entries
without_entries (gone ∷ rest) entries = without_entries rest (without_entry gone entries)

-- the entry of the same part with this FREESPACE and SHAREOPTIONS
abbrev pub altered_by : CatEntry → CatEntry → CatEntry
altered_by new other = if is_of_part new other then record other {
  free_space = new.free_space;
  share_options = new.share_options;
} else other

abbrev pub with_altered : CatEntry → List CatEntry → List CatEntry
with_altered new entries = map (altered_by new) entries

abbrev pub edited : CatalogEdit → List CatEntry → List CatEntry
edited (Alter entry new) entries = with_altered new entries
edited (Rename entry new) entries = with_entry new (without_entry entry entries)
edited (Delete gone) entries = without_entries gone entries
edited (Add new) entries = with_entry new entries

-- ---- the part that goes

abbrev pub is_cluster_entry : CatEntry → Bool
is_cluster_entry entry = is_cluster entry.entry_kind

-- with a cluster that is deleted goes its part, with its records
abbrev pub part_gone : CatalogEdit → Option PartNo
part_gone (Alter entry new) = None
part_gone (Rename entry new) = None
part_gone (Delete gone) = option_map (λ (entry : CatEntry). entry.part) (find is_cluster_entry gone)
part_gone (Add new) = None

abbrev pub goes : CatalogEdit → ℕ → Bool
goes edit part = option_map_or (λ (gone : PartNo). gone.0 == part) (part_gone edit) false

-- ---- when it may be made

-- The entry is the one of its part and of its name in the catalog, and one that a catalog may have.
pub record IsEntryThere (entries : List CatEntry) (entry : CatEntry) : Type 0 where
  pub there : entry_with_part entries entry.part.0 ≡ Some entry
  pub named : entry_named entries entry.name ≡ Some entry
  pub entry_is : IsTrue (is_entry entry)

-- with another FREESPACE or SHAREOPTIONS alone
pub record MayAlter (entries : List CatEntry) (entry new : CatEntry) : Type 0 where
  pub there : IsEntryThere entries entry
  pub alike : new ≡ record entry {
    free_space = new.free_space;
    share_options = new.share_options;
  }
  pub entry_is : IsTrue (is_entry new)

-- with a name that no entry has, and perhaps another FREESPACE or SHAREOPTIONS
pub record MayRename (entries : List CatEntry) (entry new : CatEntry) : Type 0 where
  pub there : IsEntryThere entries entry
  pub alike : new ≡ record entry {
    name = new.name;
    free_space = new.free_space;
    share_options = new.share_options;
  }
  pub entry_is : IsTrue (is_entry new)
  pub name : entry_named entries new.name ≡ None

-- an entry stands over one of these
abbrev pub is_over_some : List CatEntry → CatEntry → Bool
is_over_some gone other = list_any (λ (entry : CatEntry). is_over other.related entry.part.0) gone

-- an entry is of the part of one of these
abbrev pub is_of_some : List CatEntry → CatEntry → Bool
is_of_some gone other = list_any (λ (entry : CatEntry). is_of_part entry other) gone

-- An entry and what stands over it: what is left stands over nothing that goes. At most 65,535, since
-- one event makes no more changes of the catalog.
pub record MayDelete (entries gone : List CatEntry) : Type 0 where
  pub some : gone ≢ []
  pub few : length gone < 65536
  pub there : All (IsEntryThere entries) gone
  pub apart : IsDistinct nat_eq (parts_in gone)
  pub cluster : count_by is_cluster_entry gone ≤ 1
  pub closed : All (λ (other : CatEntry). is_over_some gone other ≡ true
      → is_of_some gone other ≡ true) entries

-- an alternate index that isn't built, or a path, of a new name and a new part, by the rules of a
-- catalog beside the entries that there are
pub record MayAdd (geometry : Geometry) (entries : List CatEntry) (new : CatEntry) : Type 0 where
  pub entry_is : IsTrue (is_entry new)
  pub no_cluster : new.entry_kind ≢ Cluster
  pub unbuilt : new.built ≡ false
  pub no_area : new.first_area ≡ None
  pub name : entry_named entries new.name ≡ None
  pub part : entry_with_part entries new.part.0 ≡ None
  pub numbered : new.part.0 ≢ 0
  pub rules : IsEntryOf geometry entries new

abbrev pub MayEdit : Geometry → List CatEntry → CatalogEdit → Type 0
MayEdit geometry entries (Alter entry new) = MayAlter entries entry new
MayEdit geometry entries (Rename entry new) = MayRename entries entry new
MayEdit geometry entries (Delete gone) = MayDelete entries gone
MayEdit geometry entries (Add new) = MayAdd geometry entries new

-- ---- the rules of a catalog, by its entries

-- No part number comes twice, and each entry keeps the rules beside the others.
pub record IsInOrder (geometry : Geometry) (entries : List CatEntry) : Type 0 where
  pub parts : IsDistinct nat_eq (0 ∷ parts_in entries)
  pub each : All (IsEntryOf geometry entries) entries

-- the shape of each part once an edit is made
abbrev pub shape_after : Geometry → List CatEntry → CatalogEdit → ℕ → Type 0
shape_after geometry entries edit part = shape_in geometry (edited edit entries) part
    ≡ (if goes edit part then None else shape_in geometry entries part)
