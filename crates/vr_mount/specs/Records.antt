-- The records of a catalog, and the rules of its entries. The rules are those of vr_attach.
use Rattle.std.specs.Prelude.{◌≡◌, ℕ, Bool, true, false, List, [], ◌∷◌, ◌++◌, map, All, IsTrue}
use Rattle.std.specs.Prelude.{nat_eq, Some, None, is_some}
use Rattle.std.specs.List.{IsDistinct, filter_map}
use Rattle.vr_types.specs.Content.{Content, records_of}
use Rattle.vr_types.specs.declared.geometry.Geometry.{Geometry}
use Rattle.vr_catalog.specs.Catalog.{entries_in, parts_in}
use Rattle.vr_catalog.specs.Record.{entry_of}
use Rattle.vr_catalog.specs.declared.entry.CatEntry.{CatEntry}
use Rattle.vr_attach.specs.CatalogRules.{IsCatalog, IsEntryOf}

-- the bytes of the records of a content, in the order of their places
abbrev pub bytes_of : Content → List (List ℕ)
bytes_of content = map (λ (placed : List ℕ × List ℕ). placed.1) (records_of content)

-- bytes spell an entry
abbrev pub SpellsEntry : List ℕ → Type 0
SpellsEntry bytes = IsTrue (is_some (entry_of bytes))

-- the entry that bytes spell was added, if they spell one
abbrev pub IsAdded : List ℕ → List CatEntry → List CatEntry → Bool → Type 0
IsAdded bytes old new true = (entry : CatEntry) × (entry_of bytes ≡ Some entry)
    × (new ≡ old ++ entry ∷ [])
IsAdded bytes old new false = entry_of bytes ≡ None

-- Each of the records spells an entry, and these are the entries.
pub record AreSpelled (records : List (List ℕ)) (entries : List CatEntry) : Type 0 where
  pub each : All SpellsEntry records
  pub entries_are : entries ≡ filter_map entry_of records

-- The entries keep the rules of a catalog beside those of each record.
pub record AreRules (geometry : Geometry) (entries : List CatEntry) : Type 0 where
  pub parts : IsDistinct nat_eq (0 ∷ parts_in entries)
  pub entries_keep : All (IsEntryOf geometry entries) entries

-- These are the entries of the content, which is a catalog's.
pub record IsCatalogOf (geometry : Geometry) (content : Content) (entries : List CatEntry) : Type 0
  where
    pub entries_are : entries ≡ entries_in content
    pub rules : IsCatalog geometry content

-- whether a content of these records is a catalog's, and then its entries
abbrev pub IsDecided : Geometry → List (List ℕ) → List CatEntry → Bool → Type 0
IsDecided geometry records entries true = (content : Content) → bytes_of content ≡ records
    → IsCatalogOf geometry content entries
IsDecided geometry records entries false = (content : Content) → bytes_of content ≡ records
    → IsCatalog geometry content → ⊥
