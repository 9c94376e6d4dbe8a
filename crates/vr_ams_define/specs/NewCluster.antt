-- The entries that DEFINE CLUSTER of Access Method Services Commands adds to a catalog, and the
-- rules that a catalog keeps. That a cluster gets its first area as its entry is added is this
-- project's own.
use Rattle.std.specs.Prelude.{◌≡◌, ◌+◌, ◌<◌, ◌^◌, ℕ, false, if◌then◌else◌, List, [], ◌∷◌, All}
use Rattle.std.specs.Prelude.{IsTrue, is_some, None, Some, nat_eq}
use Rattle.std.specs.List.{IsDistinct}
use Rattle.std.specs.Ordering.{is_lt}
use Rattle.vr_types.specs.Content.{place_cmp}
use Rattle.vr_types.specs.declared.geometry.Geometry.{Geometry}
use Rattle.vr_types.specs.declared.unit.AreaNo.{AreaNo}
use Rattle.vr_catalog.specs.Catalog.{entry_named, entry_with_part, parts_in}
use Rattle.vr_catalog.specs.Definition.{catalog_definition, key_of}
use Rattle.vr_catalog.specs.Entry.{is_entry}
use Rattle.vr_catalog.specs.Record.{spelling}
use Rattle.vr_catalog.specs.declared.entry.CatEntry.{CatEntry}
use Rattle.vr_catalog.specs.declared.entry.EntryKind.TheVariants.{Cluster}
use Rattle.vr_attach.specs.CatalogRules.{IsEntryOf, has_sizes_by}

-- an entry with its first area
abbrev pub with_area : AreaNo → CatEntry → CatEntry
with_area area entry = record entry { first_area = Some area }

-- the place of its record in the catalog, which begins with its name
abbrev pub entry_place : CatEntry → List ℕ
entry_place entry = key_of catalog_definition (spelling entry)

-- the entries of a catalog with one more, before the first whose place is greater
abbrev pub with_cluster : CatEntry → List CatEntry → List CatEntry
with_cluster new [] = new ∷ []
with_cluster new (entry ∷ entries) =
    if is_lt (place_cmp (entry_place new) (entry_place entry)) then new ∷ entry ∷ entries
    else entry ∷ with_cluster new entries

-- The entries are those of a catalog that keeps the rules: each has a record, no part number comes
-- twice, and part 0 is the catalog itself.
pub record IsRuled (geometry : Geometry) (entries : List CatEntry) : Type 0 where
  pub spelled : All (λ (entry : CatEntry). IsTrue (is_entry entry)) entries
  pub parts : IsDistinct nat_eq (0 ∷ parts_in entries)
  pub kept : All (IsEntryOf geometry entries) entries

-- An entry of a cluster that isn't spanned and has no area yet. Neither its name nor its part is in
-- the catalog. A record spells it, and also with whatever first area: its sizes are allowed then.
pub record IsNewCluster (geometry : Geometry) (entries : List CatEntry) (entry : CatEntry) : Type 0
  where
    pub cluster : entry.entry_kind ≡ Cluster
    pub kind : IsTrue (is_some entry.kind)
    pub plain : entry.spanned ≡ false
    pub no_area : entry.first_area ≡ None
    pub alone : entry.related ≡ None
    pub name : entry_named entries entry.name ≡ None
    pub some_part : 0 < entry.part.0
    pub part : entry_with_part entries entry.part.0 ≡ None
    pub entry_is : IsTrue (is_entry entry)
    pub sizes : (area : AreaNo) → IsTrue (has_sizes_by Cluster geometry (with_area area entry) None)
    pub spelled : (area : AreaNo) → area.0 + 1 < 2 ^ 32 → IsTrue (is_entry (with_area area entry))
