-- Which requests name the place that they come to, and on which volumes requests are answered here.
-- That limit is this project's own: an alternate index that is built is not answered yet.
use Rattle.std.specs.Prelude.{◌≡◌, List, false}
use Rattle.std.specs.List.{AllByRecursion}
use Rattle.vr_catalog.specs.Catalog.{definition_in}
use Rattle.vr_catalog.specs.declared.entry.CatEntry.{CatEntry}
use Rattle.vr_catalog.specs.declared.entry.EntryKind.TheVariants.{Alternate, Cluster}
use Rattle.vr_types.specs.declared.request.Find.{Find}
use Rattle.vr_types.specs.declared.request.Find.TheVariants.{Next, Equal, AtLeast}
use Rattle.vr_types.specs.declared.request.Request.{Request}
use Rattle.vr_types.specs.declared.request.Request.TheVariants.{Get, Point, Add, Update, Erase}
use Rattle.vr_types.specs.declared.request.Request.TheVariants.{EndReq, Commit, Backout}
use Rattle.vr_types.specs.declared.unit.Kind.TheVariants.{Keyed}
use Rattle.vr_history.specs.Opened.{catalog_of}
use Rattle.vr_history.specs.State.{State}

-- a read that names the place of its record
abbrev pub NamesPlace : Find → Type 0
NamesPlace Next = ⊥
NamesPlace (Equal place) = Unit {0}
NamesPlace (AtLeast place) = ⊥

-- a request that is direct: all but POINT and the reads that search
abbrev pub IsDirect : Request → Type 0
IsDirect (Get file find update integrity) = NamesPlace find
IsDirect (Point file find) = ⊥
IsDirect (Add file place bytes) = Unit {0}
IsDirect (Update file bytes) = Unit {0}
IsDirect (Erase file) = Unit {0}
IsDirect (EndReq file) = Unit {0}
IsDirect Commit = Unit {0}
IsDirect Backout = Unit {0}

-- an entry that isn't of a built alternate index: of a cluster of any of the three kinds, of a path,
-- or of an alternate index that no request changes with its base
abbrev pub IsUnbuilt : CatEntry → Type 0
IsUnbuilt entry = entry.entry_kind ≡ Alternate → entry.built ≡ false

-- the catalog has no alternate index that is built
abbrev pub AreUnbuilt : List CatEntry → Type 0
AreUnbuilt entries = AllByRecursion IsUnbuilt entries

abbrev pub HasNoneBuilt : State → Type 0
HasNoneBuilt state = AreUnbuilt (catalog_of state)

-- it has clusters alone, and all of them are key-sequenced
abbrev pub IsKeyedCluster : CatEntry → Type 0
IsKeyedCluster entry = (entry.entry_kind ≡ Cluster) × ((definition_in entry).kind ≡ Keyed)

abbrev pub AreKeyedClusters : List CatEntry → Type 0
AreKeyedClusters entries = AllByRecursion IsKeyedCluster entries

abbrev pub HasKeyedAlone : State → Type 0
HasKeyedAlone state = AreKeyedClusters (catalog_of state)
