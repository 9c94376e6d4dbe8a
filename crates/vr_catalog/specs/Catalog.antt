-- A catalog: the list of its entries, in the order of their names; what it says of clusters,
-- alternate indexes and paths, as
-- DEFINE of Access Method Services Commands relates them.
use Rattle.std.specs.Prelude.{ℕ, Bool, false, ◌==◌, if◌then◌else◌, List, [], map, Option, Some}
use Rattle.std.specs.Prelude.{None, bytes_eq}
use Rattle.std.specs.List.{find, filter_map, fold}
use Rattle.std.specs.Option.{option_and_then, unwrap_or}
use Rattle.std.specs.Ordering.{nat_cmp}
use Rattle.std.specs.BTreeMap.{insert_entry}
use Rattle.vr_types.specs.Content.{Placed, Content, record_of}
use Rattle.vr_types.specs.declared.unit.Kind.TheVariants.{Keyed}
use Rattle.vr_types.specs.declared.unit.PartNo.{PartNo}
use Rattle.vr_catalog.specs.declared.entry.CatEntry.{CatEntry}
use Rattle.vr_catalog.specs.declared.entry.EntryKind.{EntryKind}
use Rattle.vr_catalog.specs.declared.entry.EntryKind.TheVariants.{Cluster}
use Rattle.vr_catalog.specs.declared.entry.EntryKind.TheVariants.{Alternate as AlternateIndex, Path}
use Rattle.vr_catalog.specs.Definition.{Definition, catalog_definition}
use Rattle.vr_catalog.specs.Record.{entry_of}

-- the entries that the records of part 0 spell, in the order of their places
abbrev pub entries_in : Content → List CatEntry
entries_in content =
    filter_map (λ (placed : Placed). option_and_then entry_of (record_of placed.1)) content

-- the entry with a name, and the one with a part number
abbrev pub entry_named : List CatEntry → List ℕ → Option CatEntry
entry_named entries name = find (λ entry. bytes_eq entry.name name) entries

abbrev pub entry_with_part : List CatEntry → ℕ → Option CatEntry
entry_with_part entries part = find (λ entry. entry.part.0 == part) entries

-- the numbers of the parts, in the order of the entries
abbrev pub parts_in : List CatEntry → List ℕ
parts_in entries = map (λ entry. entry.part.0) entries

-- what an entry states of its records
abbrev pub definition_in : CatEntry → Definition
definition_in entry = record {
  kind = unwrap_or entry.kind Keyed;
  spanned =
      entry.spanned;
  key_length = entry.key_length;
  key_offset = entry.key_offset;
  maximum =
      entry.maximum;
}

abbrev pub cluster_definition : EntryKind → CatEntry → Option Definition
cluster_definition Cluster entry = Some (definition_in entry)
cluster_definition AlternateIndex entry = None
cluster_definition Path entry = None

-- the definition of a part, where it is the catalog itself or a cluster
abbrev pub definition_of : List CatEntry → ℕ → Option Definition
definition_of entries part = if part == 0 then Some catalog_definition else option_and_then
    (λ entry. cluster_definition entry.entry_kind entry) (entry_with_part entries part)

-- an alternate index over a base: KEYS(length offset), UNIQUEKEY, and whether it has been built
pub record Alternate : Type 0 where
  pub part : ℕ
  pub key_length : ℕ
  pub key_offset : ℕ
  pub unique : Bool
  pub built : Bool

abbrev pub is_over : Option PartNo → ℕ → Bool
is_over None base = false
is_over (Some part) base = part.0 == base

abbrev pub alternate_from : EntryKind → CatEntry → Option Alternate
alternate_from Cluster entry = None
alternate_from AlternateIndex entry = Some
    (record {
      part = entry.part.0;
      key_length = entry.key_length;
      key_offset = entry.key_offset;
      unique = entry.unique;
      built = entry.built;
    })
alternate_from Path entry = None

-- the alternate index that an entry is, if it is one over the base
abbrev pub alternate_in : ℕ → CatEntry → Option Alternate
alternate_in base entry =
    if is_over entry.related base then alternate_from entry.entry_kind entry else None

-- in the order of their part numbers
abbrev pub by_part : List Alternate → List (ℕ × Alternate)
by_part alternates =
    fold (λ sorted alternate. insert_entry nat_cmp sorted alternate.part alternate) [] alternates

-- the alternate indexes over a base, in the order of their part numbers
abbrev pub alternates_over : List CatEntry → ℕ → List Alternate
alternates_over entries base = map (λ (pair : ℕ × Alternate). pair.1)
    (by_part (filter_map (alternate_in base) entries))

-- the alternate index with a part number over a base
abbrev pub alternate_of : List CatEntry → ℕ → ℕ → Option Alternate
alternate_of entries base part = find (λ alternate. alternate.part == part)
    (alternates_over entries base)

-- What a file opened by a name reads: the records of a cluster, in their own order or in that of an
-- alternate index.
pub record Opened : Type 0 where
  pub base : ℕ
  pub path : Option ℕ

abbrev pub opened_through : ℕ → Option PartNo → Option Opened
opened_through path None = None
opened_through path (Some base) = Some (record { base = base.0; path = Some path })

-- a cluster is opened as it is, an alternate index through itself
abbrev pub opened_directly : EntryKind → CatEntry → Option Opened
opened_directly Cluster entry = Some (record { base = entry.part.0; path = None })
opened_directly AlternateIndex entry = opened_through entry.part.0 entry.related
opened_directly Path entry = None

-- a path is another name of the cluster or of the alternate index that it stands over
abbrev pub opened_as : List CatEntry → EntryKind → CatEntry → Option Opened
opened_as entries Cluster entry = opened_directly Cluster entry
opened_as entries AlternateIndex entry = opened_directly AlternateIndex entry
opened_as entries Path entry = option_and_then
    (λ related. opened_directly related.entry_kind related)
    (option_and_then (λ (part : PartNo). entry_with_part entries part.0) entry.related)

-- what a file opened by a name reads, where the catalog has the name
abbrev pub opened : List CatEntry → List ℕ → Option Opened
opened entries name = option_and_then (λ entry. opened_as entries entry.entry_kind entry)
    (entry_named entries name)
