-- The records of a content say of a catalog what the content says.
use Rattle.std.proofs.Common.{◌≡◌, ℕ, List, ◌∷◌, ap, sym, subst}
use Rattle.std.specs.List.{IsDistinct}
use Rattle.std.specs.Prelude.{All, IsTrue, is_some, nat_eq}
use Rattle.vr_types.specs.Content.{Content, records_of}
use Rattle.vr_types.specs.declared.geometry.Geometry.{Geometry}
use Rattle.vr_catalog.specs.Catalog.{entries_in, parts_in}
use Rattle.vr_catalog.specs.Record.{entry_of}
use Rattle.vr_catalog.specs.declared.entry.CatEntry.{CatEntry}
use Rattle.vr_undo.proofs.CallerLemmas.{stands-entries, stands-records}
use Rattle.vr_volume.specs.CatalogRules.{IsCatalog, IsEntryOf}
use Rattle.vr_volume.specs.Laid.{shape_by, shape_in}
use Rattle.vr_volume.specs.PutBack.{standing}

-- the parts are laid so,
pub shape-stands : (geometry : Geometry) (content : Content) (part : ℕ)
    → shape_by geometry (standing content) part ≡ shape_by geometry content part
shape-stands geometry content part =
    ap (λ (entries : List CatEntry). shape_in geometry entries part) (stands-entries content)

-- the rules of a catalog are of its records and of the entries that they spell
catalog-moves : (geometry : Geometry) (one other : Content) → records_of one ≡ records_of other
    → entries_in one ≡ entries_in other → IsCatalog geometry one → IsCatalog geometry other
catalog-moves geometry one other records same is = record {
  spelled = subst (All (λ (placed : List ℕ × List ℕ). IsTrue (is_some (entry_of placed.1))))
      records is.spelled;
  parts = subst (λ (entries : List CatEntry). IsDistinct nat_eq (0 ∷ parts_in entries)) same
      is.parts;
  entries = subst (λ (entries : List CatEntry). All (IsEntryOf geometry entries) entries) same
      is.entries;
}

-- so the records keep them where the content does, and the other way round
pub catalog-stands : (geometry : Geometry) (content : Content) → IsCatalog geometry content
    → IsCatalog geometry (standing content)
catalog-stands geometry content = catalog-moves geometry content (standing content)
    (sym (stands-records content)) (sym (stands-entries content))

pub catalog-whole : (geometry : Geometry) (content : Content)
    → IsCatalog geometry (standing content) → IsCatalog geometry content
catalog-whole geometry content = catalog-moves geometry (standing content) content
    (stands-records content) (stands-entries content)
