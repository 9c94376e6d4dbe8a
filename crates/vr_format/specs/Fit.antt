-- Which entries a volume may be formatted with: as clusters without records, the first in area 1 and
-- each other in the next area. The rules are this project's own.
use Rattle.std.specs.Prelude.{◌≡◌, ◌+◌, ◌*◌, ◌<◌, ◌≤◌, ℕ, Bool, true, false, List, [], ◌∷◌}
use Rattle.std.specs.Prelude.{◌++◌, length, take, Some, None, slice_get}
use Rattle.vr_types.specs.Geometry.{area_count}
use Rattle.vr_types.specs.Image.{Image}
use Rattle.vr_types.specs.declared.geometry.Geometry.{Geometry}
use Rattle.vr_catalog.specs.Catalog.{entry_named}
use Rattle.vr_catalog.specs.Record.{entry_of, spelling}
use Rattle.vr_catalog.specs.declared.entry.CatEntry.{CatEntry}
use Rattle.vr_catalog.specs.declared.entry.EntryKind.TheVariants.{Cluster}
use Rattle.vr_volume.specs.CatalogRules.{IsEntryOf}
use Rattle.vr_format.specs.Formatted.{IsFormatted}

-- the entry in this area
abbrev pub in_area : ℕ → CatEntry → CatEntry
in_area area entry = record entry { first_area = Some (record { 0 = area }) }

-- The entry may be formatted after these: it is a cluster, of whichever kind, its part number and
-- its area are its place in the list, counted from 1, none of them has its name, it keeps the rules
-- of a catalog, and a record of it has room in an interval. There is such an area, and the first
-- interval of the catalog has room for its record beside theirs.
pub record IsNext (geometry : Geometry) (before : List CatEntry) (cluster : CatEntry) : Type 0
  where
    pub kind : cluster.entry_kind ≡ Cluster
    pub number : cluster.part.0 ≡ length before + 1
    pub laid : cluster.first_area ≡ Some (record { 0 = length before + 1 })
    pub name : entry_named before cluster.name ≡ None
    pub rules : IsEntryOf geometry before cluster
    pub short : cluster.maximum + 7 ≤ geometry.size
    pub area : length before + 1 < area_count geometry
    pub room : 207 * (length before + 1) + 4 ≤ geometry.size

-- The entry is formatted after these clusters as this one, which its record spells where its area is
-- the next.
pub record IsTaken (geometry : Geometry) (before : List CatEntry) (entry cluster : CatEntry)
    : Type 0 where
  pub spelled : entry_of (spelling (in_area (length before + 1) entry)) ≡ Some cluster
  pub next : IsNext geometry before cluster

-- The entries are formatted as these clusters.
pub record AreTaken (geometry : Geometry) (entries clusters : List CatEntry) : Type 0 where
  pub count : length clusters ≡ length entries
  pub each : (at : ℕ) (entry cluster : CatEntry) → slice_get entries at ≡ Some entry
      → slice_get clusters at ≡ Some cluster → IsTaken geometry (take at clusters) entry cluster

-- The entries can be formatted.
pub record AreFit (geometry : Geometry) (entries : List CatEntry) : Type 0 where
  pub clusters : List CatEntry
  pub taken : AreTaken geometry entries clusters

-- The entry at this place can't be formatted, and those before it can.
pub record IsFirstUnfit (geometry : Geometry) (entries : List CatEntry) (at : ℕ) : Type 0 where
  pub before : List CatEntry
  pub taken : AreTaken geometry (take at entries) before
  pub entry : CatEntry
  pub there : slice_get entries at ≡ Some entry
  pub unfit : (cluster : CatEntry) → IsTaken geometry before entry cluster → ⊥

-- The image is that of a volume which was formatted with the entries.
pub record IsFormattedWith (geometry : Geometry) (number : ℕ) (entries : List CatEntry)
    (image : Image) : Type 0 where
  pub clusters : List CatEntry
  pub taken : AreTaken geometry entries clusters
  pub formatted : IsFormatted geometry number clusters image

-- ---- one entry after the other

-- whether the next entry was taken
abbrev pub TakesNext : Geometry → List CatEntry → CatEntry → List CatEntry → Bool → Type 0
TakesNext geometry old entry new true =
    (cluster : CatEntry) × IsTaken geometry old entry cluster × (new ≡ old ++ cluster ∷ [])
TakesNext geometry old entry new false =
    (cluster : CatEntry) → IsTaken geometry old entry cluster → ⊥
