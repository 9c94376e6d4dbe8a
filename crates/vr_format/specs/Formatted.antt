-- What formatting leaves of a volume: its header, an empty log, a catalog of some entries, and each
-- cluster of it without records. The rules are this project's own.
use Rattle.std.specs.Prelude.{◌≡◌, ◌⊎◌, ◌+◌, ◌<◌, ◌≤◌, ℕ, List, [], ◌∷◌, length, replicate}
use Rattle.std.specs.Prelude.{Some, None, false, if◌then◌else◌, ◌==◌, codes}
use Rattle.vr_types.specs.Content.{Content, Standing, with_item}
use Rattle.vr_types.specs.Geometry.{head_block}
use Rattle.vr_types.specs.Image.{Image, block_at}
use Rattle.vr_types.specs.Seen.{Seen}
use Rattle.vr_types.specs.declared.geometry.Geometry.{Geometry}
use Rattle.vr_types.specs.declared.unit.Kind.TheVariants.{Keyed}
use Rattle.vr_space.specs.Part.{Shape, StandsFor}
use Rattle.vr_catalog.specs.Definition.{catalog_definition, key_of}
use Rattle.vr_catalog.specs.Record.{spelling}
use Rattle.vr_catalog.specs.declared.entry.CatEntry.{CatEntry}
use Rattle.vr_catalog.specs.declared.entry.EntryKind.TheVariants.{Cluster}
use Rattle.vr_catalog.specs.declared.entry.SpaceUnit.TheVariants.{Unstated}
use Rattle.vr_attach.specs.Laid.{AreApart, ReachesArea}
use Rattle.vr_volume.specs.CatalogRules.{IsCatalog}
use Rattle.vr_volume.specs.Header.{header_block}
use Rattle.vr_volume.specs.Laid.{shape_by}
use Rattle.vr_volume.specs.Volume.{IsInside}
use Rattle.vr_mount.specs.Areas.{BeginsWith}

-- the shape of a volume on blocks that are seen so, with this log and these intervals an area
abbrev pub geometry_of : Seen → ℕ → ℕ → Geometry
geometry_of seen log area =
    record { size = seen.size; blocks = seen.count; log = log; area = area }

-- ---- what is formatted

-- the place of an entry's record in the catalog, which begins with its name
abbrev pub place_of : CatEntry → List ℕ
place_of entry = key_of catalog_definition (spelling entry)

-- a catalog of the records of these entries, in the order of their names
abbrev pub catalog_of : List CatEntry → Content
catalog_of [] = []
catalog_of (entry ∷ entries) =
    with_item (catalog_of entries) (place_of entry) (Standing (spelling entry))

-- part 0 has it, and every other part is empty
abbrev pub contents_of : List CatEntry → ℕ → Content
contents_of entries part = if part == 0 then catalog_of entries else []

-- it reaches no area but its first
abbrev pub HasOneArea : Geometry → Shape → Image → Type 0
HasOneArea geometry shape image = (area : ℕ) → ReachesArea geometry shape image area
    → BeginsWith (head_block geometry area) shape

-- The image is that of a volume which was formatted with these entries and not changed since.
pub record IsFormatted (geometry : Geometry) (number : ℕ) (entries : List CatEntry)
    (image : Image) : Type 0 where
  pub blocks : length image ≡ geometry.blocks
  pub header : block_at image 0 ≡ header_block geometry number
  -- an empty log
  pub log : block_at image 1 ≡ replicate geometry.size 0
  pub catalog : IsCatalog geometry (catalog_of entries)
  pub apart : AreApart (shape_by geometry (catalog_of entries))
  pub inside : (part : ℕ) (shape : Shape)
      → shape_by geometry (catalog_of entries) part ≡ Some shape → IsInside geometry shape
  pub laid : (part : ℕ) (shape : Shape)
      → shape_by geometry (catalog_of entries) part ≡ Some shape
      → StandsFor shape image (contents_of entries part)
  pub alone : (part : ℕ) (shape : Shape)
      → shape_by geometry (catalog_of entries) part ≡ Some shape → HasOneArea geometry shape image

-- ---- what a new volume has

-- DEFINE CLUSTER (NAME(VRM.FIRST) INDEXED KEYS(8 0) RECORDSIZE(80 80)), as part 1, in area 1
abbrev pub first_entry : CatEntry
first_entry = record {
  name = codes "VRM.FIRST";
  entry_kind = Cluster;
  kind = Some Keyed;
  spanned = false;
  unique = false;
  built = false;
  part = record { 0 = 1 };
  related = None;
  key_length = 8;
  key_offset = 0;
  average = 80;
  maximum = 80;
  first_area = Some (record { 0 = 1 });
  free_space = record { interval = 0; area = 0 };
  share_options = record { regions = 1; systems = 3 };
  space = Unstated;
  primary = 0;
  secondary = 0;
  interval_size = 0;
  data_name = None;
  index_name = None;
  storage_class = None;
  data_class = None;
  management_class = None;
}

-- the entries of a new volume: the first one has VRM.FIRST
abbrev pub first_entries : ℕ → List CatEntry
first_entries number = if number == 0 then first_entry ∷ [] else []

-- ---- what is served of it

-- a cluster whose longest record has room in an interval: those are what a volume serves
abbrev pub IsPlainCluster : Geometry → CatEntry → Type 0
IsPlainCluster geometry entry =
    (entry.entry_kind ≡ Cluster) × (entry.maximum + 7 ≤ geometry.size)

-- ---- where formatting writes

-- the header, the first block of the log, the catalog's area and as many areas after it as there
-- are clusters
abbrev pub IsWritten : Geometry → ℕ → ℕ → Type 0
IsWritten geometry clusters n = (n ≤ 1)
    ⊎ ((head_block geometry 0 ≤ n) × (n < head_block geometry (clusters + 1)))
