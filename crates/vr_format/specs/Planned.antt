-- What is to be formatted, for the private functions that write it.
use Rattle.std.specs.Prelude.{◌≡◌, ◌≢◌, ◌+◌, ◌*◌, ◌-◌, ◌^◌, ◌<◌, ◌≤◌, ℕ, true, IsTrue, List, []}
use Rattle.std.specs.Prelude.{◌∷◌}
use Rattle.std.specs.Prelude.{length, replicate, map, All, Option, Some, None, slice_get}
use Rattle.std.specs.List.Sorted.{IsStrictlySortedBy}
use Rattle.std.specs.Ordering.{is_le}
use Rattle.vr_types.specs.BlockSize.{IsBlockSize}
use Rattle.vr_types.specs.Content.{Content, Placed, Standing, place_cmp}
use Rattle.vr_types.specs.Geometry.{head_block, area_count}
use Rattle.vr_types.specs.Image.{Block, Image, block_at}
use Rattle.vr_types.specs.declared.geometry.Geometry.{Geometry}
use Rattle.vr_types.specs.declared.unit.Kind.{Kind}
use Rattle.vr_types.specs.declared.unit.Kind.TheVariants as kinds
use Rattle.vr_ci.specs.Interval as ci
use Rattle.vr_seqset.specs.Entry.{Entry}
use Rattle.vr_seqset.specs.Numbers.{intervals_used}
use Rattle.vr_seqset.specs.Reading.{record_in}
use Rattle.vr_seqset.specs.Roster.{IsRoster, Roster}
use Rattle.vr_seqset.specs.SequenceSet.{SequenceSet}
use Rattle.vr_space.specs.Areas.{KeyedChain, area_of, end_of, head_in}
use Rattle.vr_space.specs.Keyed.{Keyed, KeyedStandsFor, IsValid, key_of, low_of}
use Rattle.vr_space.specs.Part.{Shape, KeyedShape, StandsFor}
use Rattle.vr_space.specs.Rosters.{Numbered, roster_block}
use Rattle.vr_catalog.specs.Catalog.{definition_in}
use Rattle.vr_catalog.specs.Definition.{catalog_definition}
use Rattle.vr_catalog.specs.Record.{spelling}
use Rattle.vr_catalog.specs.declared.entry.CatEntry.{CatEntry}
use Rattle.vr_catalog.specs.declared.entry.EntryKind.TheVariants.{Cluster}
use Rattle.vr_attach.specs.Laid.{AreApart, keyed_part, numbered_part, shape_by_kind}
use Rattle.vr_volume.specs.CatalogRules.{IsCatalog}
use Rattle.vr_volume.specs.Laid.{shape_by}
use Rattle.vr_format.specs.Fit.{AreTaken}
use Rattle.vr_format.specs.Formatted.{catalog_of}

-- ---- an area with one interval in use

-- interval 0 has all places
abbrev pub all_places : ℕ → Entry
all_places key = record { intervals = 0 ∷ []; high = replicate key 255 }

-- the head of a part that has this entry alone
abbrev pub one_head : Keyed → SequenceSet
one_head part = record {
  first = true;
  part = part.part;
  next = None;
  top = 0;
  index_area = None;
  low = replicate part.key 0;
  entries = all_places part.key ∷ [];
}

-- An area of a part may have such a head.
pub record HasHead (part : Keyed) : Type 0 where
  pub size : IsBlockSize part.size
  pub key : 0 < part.key
  pub used : 0 < intervals_used part.area part.size part.key
  pub number : part.part < 2 ^ 32

-- the record of an entry, as an item of an interval
abbrev pub item_of : CatEntry → ci.Item
item_of entry = record { bytes = spelling entry; live = true }

-- the record of an entry at its key
abbrev pub record_of : Keyed → CatEntry → Placed
record_of part entry = (key_of part (spelling entry), Standing (spelling entry))

abbrev pub content_of : Keyed → List CatEntry → Content
content_of part entries = map (record_of part) entries

-- The records of these entries may stand in interval 0 of the part.
pub record MayStand (part : Keyed) (entries : List CatEntry) : Type 0 where
  pub valid : All (λ (entry : CatEntry). IsValid part (spelling entry)) entries
  pub ascends : IsStrictlySortedBy place_cmp
      (map (λ (entry : CatEntry). key_of part (spelling entry)) entries)
  pub within : All (λ (entry : CatEntry).
      IsTrue (is_le (place_cmp (key_of part (spelling entry)) (replicate part.key 255)))) entries
  pub room : 207 * length entries ≤ part.size - 4

-- The head of the one area of a part with keys of this length: no area comes before it and none
-- after it, and its ranges end at the greatest key.
pub record IsOnlyHead (key : ℕ) (top : Block) : Type 0 where
  pub begins : low_of top ≡ None
  pub next : (record_in top).next ≡ None
  pub ends : end_of top ≡ Some (replicate key 255)

-- The blocks of an area stand for the content, under such a head.
pub record StandsAlone (part : Keyed) (image : Image) (content : Content) : Type 0 where
  pub stands : KeyedStandsFor part image content
  pub only : IsOnlyHead part.key (block_at image part.head)

-- ---- a part of one area

abbrev pub first_area : KeyedChain → Keyed
first_area part = area_of part part.first

-- The part stands for the content in its first area, after which none comes.
pub record StandsInFirst (part : KeyedChain) (image : Image) (content : Content) : Type 0 where
  pub stands : StandsFor (KeyedShape part) image content
  pub last : (record_in (head_in part image part.first)).next ≡ None

-- ---- a volume

abbrev pub catalog_keyed : Geometry → KeyedChain
catalog_keyed geometry = keyed_part geometry 0 0 catalog_definition

abbrev pub catalog_area : Geometry → Keyed
catalog_area geometry = first_area (catalog_keyed geometry)

-- the blocks of an area
abbrev pub InAreaAt : Geometry → ℕ → ℕ → Type 0
InAreaAt geometry area n =
    (head_block geometry area ≤ n) × (n ≤ head_block geometry area + geometry.area)

-- a cluster in this area, by its kind
abbrev pub cluster_keyed : Geometry → ℕ → CatEntry → KeyedChain
cluster_keyed geometry area entry = keyed_part geometry entry.part.0 area (definition_in entry)

abbrev pub cluster_numbered : Geometry → ℕ → CatEntry → Numbered
cluster_numbered geometry area entry =
    numbered_part geometry entry.part.0 area (definition_in entry)

abbrev pub cluster_shape : Geometry → ℕ → CatEntry → Option Shape
cluster_shape geometry area entry =
    shape_by_kind geometry entry.part.0 area (definition_in entry) (definition_in entry).kind

-- A key-sequenced one may have a head, and each of its records has room in an interval of its own.
pub record MayBeKeyed (geometry : Geometry) (entry : CatEntry) : Type 0 where
  pub head : HasHead (first_area (cluster_keyed geometry 0 entry))
  pub most : entry.maximum + 7 ≤ geometry.size

-- An entry-sequenced or relative one has records, each with room in an interval.
pub record MayBeNumbered (geometry : Geometry) (entry : CatEntry) : Type 0 where
  pub some : 0 < entry.maximum
  pub most : entry.maximum + 7 ≤ geometry.size

abbrev pub IsClusterOf : Geometry → CatEntry → Kind → Type 0
IsClusterOf geometry entry kinds.Keyed = MayBeKeyed geometry entry
IsClusterOf geometry entry kinds.Entry = MayBeNumbered geometry entry
IsClusterOf geometry entry kinds.Relative = MayBeNumbered geometry entry

pub record IsCluster (geometry : Geometry) (entry : CatEntry) : Type 0 where
  pub kind : entry.entry_kind ≡ Cluster
  pub organised : IsClusterOf geometry entry (definition_in entry).kind

-- the roster of an area that a new part begins with: no interval is used, and no area comes next
abbrev pub first_roster : Numbered → Roster
first_roster part = record { used = 0; part = part.part; next = None }

-- The first area of the part has such a roster.
pub record BeginsEmpty (part : Numbered) (image : Image) : Type 0 where
  pub roster : IsRoster part.geometry.area (block_at image (roster_block part part.first))
      (first_roster part)
  pub size : length (block_at image (roster_block part part.first)) ≡ part.geometry.size

-- the cluster in the area is new
abbrev pub IsNewOf : Geometry → ℕ → CatEntry → Image → Kind → Type 0
IsNewOf geometry area entry image kinds.Keyed =
    StandsInFirst (cluster_keyed geometry area entry) image []
IsNewOf geometry area entry image kinds.Entry =
    BeginsEmpty (cluster_numbered geometry area entry) image
IsNewOf geometry area entry image kinds.Relative =
    BeginsEmpty (cluster_numbered geometry area entry) image

abbrev pub IsNew : Geometry → ℕ → CatEntry → Image → Type 0
IsNew geometry area entry image = IsNewOf geometry area entry image (definition_in entry).kind

-- the first clusters, this many, are new
abbrev pub AreNew : Geometry → List CatEntry → ℕ → Image → Type 0
AreNew geometry clusters n image = (at : ℕ) (entry : CatEntry) → at < n
    → slice_get clusters at ≡ Some entry → IsNew geometry (at + 1) entry image

-- the areas of this many clusters
abbrev pub InClusters : Geometry → ℕ → ℕ → Type 0
InClusters geometry clusters n =
    (head_block geometry 1 ≤ n) × (n < head_block geometry (clusters + 1))

-- a part of the volume is one of these clusters: the first in area 1, and so on
pub record IsOneOf (geometry : Geometry) (clusters : List CatEntry) (shape : Shape) : Type 0 where
  pub at : ℕ
  pub entry : CatEntry
  pub there : slice_get clusters at ≡ Some entry
  pub shape_is : cluster_shape geometry (at + 1) entry ≡ Some shape

-- A volume may be formatted with this catalog and these clusters.
pub record ArePlanned (geometry : Geometry) (entries clusters : List CatEntry) : Type 0 where
  pub catalog : IsCatalog geometry (catalog_of entries)
  pub apart : AreApart (shape_by geometry (catalog_of entries))
  pub content : catalog_of entries ≡ content_of (catalog_area geometry) entries
  pub records : MayStand (catalog_area geometry) entries
  pub served : All (IsCluster geometry) clusters
  pub areas : length clusters < area_count geometry
  pub laid : (part : ℕ) (shape : Shape) → part ≢ 0
      → shape_by geometry (catalog_of entries) part ≡ Some shape → IsOneOf geometry clusters shape

-- A volume may be formatted with these clusters, which the entries are taken as, and with this
-- order of them in its catalog.
pub record ArePlannedFor (geometry : Geometry) (entries clusters ordered : List CatEntry) : Type 0
  where
    pub taken : AreTaken geometry entries clusters
    pub same : catalog_of ordered ≡ catalog_of clusters
    pub planned : ArePlanned geometry ordered clusters
