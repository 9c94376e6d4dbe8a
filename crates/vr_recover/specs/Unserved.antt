-- What a volume has for which it is not opened, though it may be one. The limits are this project's
-- own.
use Rattle.std.specs.Prelude.{◌≡◌, ◌≤◌, ◌+◌, ℕ, List, All, IfSome}
use Rattle.vr_types.specs.Content.{Content}
use Rattle.vr_types.specs.Geometry.{head_block}
use Rattle.vr_types.specs.Image.{block_at}
use Rattle.vr_types.specs.Seen.{Seen}
use Rattle.vr_types.specs.declared.geometry.Geometry.{Geometry}
use Rattle.vr_space.specs.Part.{StandsFor}
use Rattle.vr_catalog.specs.Catalog.{cluster_definition, entries_in}
use Rattle.vr_catalog.specs.declared.definition.Definition.{Definition}
use Rattle.vr_catalog.specs.declared.entry.CatEntry.{CatEntry}
use Rattle.vr_attach.specs.CatalogRules.{IsCatalog}
use Rattle.vr_attach.specs.Laid.{catalog_shape}
use Rattle.vr_edits.specs.Edits.{IsUnbuilt}
use Rattle.vr_history.specs.State.{BeforeImage}
use Rattle.vr_log.specs.Content.{Content as LogContent}
use Rattle.vr_log.specs.Spells.{Spells}
use Rattle.vr_mount.specs.Header.{IsHeaderOf}
use Rattle.vr_volume.specs.PutBack.{images_of}
use Rattle.vr_recover.specs.Images.{catalog_by}
use Rattle.vr_recover.specs.declared.open_no.Unserved.{Unserved}
use Rattle.vr_recover.specs.declared.open_no.Unserved.TheVariants.{BuiltIndex, LongRecord}

-- ---- what is served

-- the longest record of a cluster has room in an interval of its own
abbrev pub IsPlain : Geometry → CatEntry → Type 0
IsPlain geometry entry = IfSome (cluster_definition entry.entry_kind entry)
    (λ (definition : Definition). definition.maximum + 7 ≤ geometry.size)

-- ---- what isn't

-- of a catalog by its entries
abbrev pub IsEntryCause : Geometry → List CatEntry → Unserved → Type 0
IsEntryCause geometry entries BuiltIndex = All IsUnbuilt entries → ⊥
IsEntryCause geometry entries LongRecord = All (IsPlain geometry) entries → ⊥

-- The catalog's blocks stand for a catalog with such entries, once these before-images are put back
-- in it, and it is shown at its head.
pub record IsCatalogUnserved (geometry : Geometry) (images : List BeforeImage) (now : Seen)
    (block : ℕ) (cause : Unserved) : Type 0 where
  pub content : Content
  pub stands : StandsFor (catalog_shape geometry) now.cur content
  pub rules : IsCatalog geometry (catalog_by images content)
  pub block_is : block ≡ head_block geometry 0
  pub is : IsEntryCause geometry (entries_in (catalog_by images content)) cause

-- What isn't served of a volume whose header is in order, by the catalog that counts: with the
-- before-images put back that the log has of live units.
pub record IsUnservedOf (geometry : Geometry) (now : Seen) (block : ℕ) (cause : Unserved) : Type 0
  where
    pub log : LogContent
    pub spelled : Spells geometry now.cur log
    pub catalog : IsCatalogUnserved geometry (images_of log.records) now block cause

-- Block 0 is the header of a volume of this number, which has what isn't served.
pub record IsUnserved (number : ℕ) (now : Seen) (block : ℕ) (cause : Unserved) : Type 0 where
  pub geometry : Geometry
  pub header : IsHeaderOf now.count now.size number (block_at now.cur 0) geometry
  pub has : IsUnservedOf geometry now block cause
