-- Catalogs of entries that are served.
use Rattle.std.proofs.Common.{◌≡◌, List, [], ◌∷◌, subst, sym}
use Rattle.vr_types.specs.declared.geometry.Geometry.{Geometry}
use Rattle.vr_catalog.specs.declared.entry.CatEntry.{CatEntry}
use Rattle.vr_history.specs.Opened.{catalog_of}
use Rattle.vr_history.specs.State.{State}
use Rattle.vr_answer.specs.Scope.{AreUnbuilt}
use Rattle.vr_record_file.specs.Now.{FileNow, IsStateOf, state_now}
use Rattle.vr_event.specs.Volume.{AreServed}

-- none is an alternate index that is built
pub served_are : (geometry : Geometry) (entries : List CatEntry)
    → AreServed geometry entries → AreUnbuilt entries
served_are geometry [] are = tt
served_are geometry (entry ∷ entries) are =
    (are.0.unbuilt, served_are geometry entries are.1)

-- those of the same shape are served, too
pub served_same : (geometry new : Geometry) (entries those : List CatEntry) → new ≡ geometry
    → those ≡ entries → AreServed geometry entries → AreServed new those
served_same geometry new entries those shape same served =
    subst (λ (g : Geometry). AreServed g those) (sym shape)
    (subst (AreServed geometry) (sym same) served)

-- what is in memory of a history's catalog is the state's
pub served_now : (opening : State) (file : FileNow) → IsStateOf opening file
    → AreServed file.geometry file.catalog
    → AreServed file.geometry (catalog_of (state_now opening file))
served_now opening file is served = subst (AreServed file.geometry) is.now.catalog served
