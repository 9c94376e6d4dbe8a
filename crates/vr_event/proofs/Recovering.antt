-- To what the images recover that a change leaves at each moment of it.
use Rattle.std.proofs.Common.{ℕ, Bool, IsTrue, true, false, List, [], Option, subst}
use Rattle.vr_types.specs.Blocks.{Keeps}
use Rattle.vr_types.proofs.CallerLemmas.{guards-weaken}
use Rattle.vr_types.specs.Image.{Image}
use Rattle.vr_types.specs.Moments.{Guards}
use Rattle.vr_types.specs.Seen.{Seen}
use Rattle.vr_types.specs.declared.unit.PartNo.{PartNo}
use Rattle.vr_types.specs.declared.unit.Unit.{Unit as UnitOfRecovery}
use Rattle.vr_space.specs.Owners.{Owners}
use Rattle.vr_log.specs.declared.record.LogRecord.{LogRecord}
use Rattle.vr_log.specs.declared.record.LogRecord.TheVariants.{Before}
use Rattle.vr_history.specs.State.{State}
use Rattle.vr_undo.specs.Records.{images_in}
use Rattle.vr_volume.specs.Committed.{committed_by}
use Rattle.vr_volume.specs.Crashes.{RecoversTo}
use Rattle.vr_volume.specs.Safe.{IsSafeImage}
use Rattle.vr_volume.proofs.CallerLemmas.{before-recovers, rest-recovers, safe-recovers}
use Rattle.vr_store.specs.Change.{IsReadyBy, log_with}
use Rattle.vr_store.specs.Store.{IsStored, StoreNow, owners_of}
use Rattle.vr_store.specs.declared.prepared.Prepared.{Prepared}
use Rattle.vr_store.proofs.CallerLemmas.{moments-keeps}

-- of a store that is a state's, whoever owns the areas meanwhile,
pub owned-recovers : (number : ℕ) (store : StoreNow) (state : State) (a b : Seen)
    (owners : Owners) → IsStored number store state a
    → Guards a b (IsSafeImage store.log.geometry number owners store.log (committed_by state))
    → Guards a b (RecoversTo store.log.geometry number state [])
owned-recovers number store state a b owners stored guards =
    guards-weaken a b (IsSafeImage store.log.geometry number owners store.log
    (committed_by state)) (RecoversTo store.log.geometry number state []) guards
    (safe-recovers store.log.geometry number (owners_of store) store.log (images_in store.undo)
    state a stored.volume owners)

-- and by who owns them before it
pub stored-recovers : (number : ℕ) (store : StoreNow) (state : State) (a b : Seen)
    → IsStored number store state a
    → Guards a b (IsSafeImage store.log.geometry number (owners_of store) store.log
    (committed_by state))
    → Guards a b (RecoversTo store.log.geometry number state [])
stored-recovers number store state a b stored guards =
    owned-recovers number store state a b (owners_of store) stored guards

-- and of one in which a change is made
module _ (number : ℕ) (store : StoreNow) (unit : UnitOfRecovery) (part : PartNo) (place : List ℕ)
    (prepared : Prepared) (was : Option (List ℕ)) (state : State) (a : Seen)
    (ready : IsReadyBy number store unit part place prepared was state a) where
  by_logged : (there : Bool) (image : Image) → IsSafeImage store.log.geometry number
      (owners_of store) (log_with there store.log (Before unit part place was)) (committed_by state)
      image
      → RecoversTo store.log.geometry number state [] image
  by_logged true = rest-recovers store.log.geometry number (owners_of store) store.log
      (images_in ready.kept.old) state a ready.kept.stored.volume
  by_logged false = before-recovers store.log.geometry number (owners_of store) store.log
      (images_in ready.kept.old) state a ready.kept.stored.volume unit part place was
      ready.current ready.stands

  pub made-recovers : (b : Seen) → Guards a b (IsSafeImage store.log.geometry number
      (owners_of store) (log_with prepared.logged store.log prepared.rec) (committed_by state))
      → Guards a b (RecoversTo store.log.geometry number state [])
  made-recovers b guards = guards-weaken a b
      (IsSafeImage store.log.geometry number (owners_of store)
      (log_with prepared.logged store.log prepared.rec) (committed_by state))
      (RecoversTo store.log.geometry number state []) guards
      (λ image safe. by_logged prepared.logged image
      (subst (λ (rec : LogRecord). IsSafeImage store.log.geometry number (owners_of store)
      (log_with prepared.logged store.log rec) (committed_by state) image)
      ready.prepared_is.rec safe))

-- and while nothing is put
pub keeps-recovers : (tells : Bool) → IsTrue tells → (number : ℕ) (store : StoreNow) (state : State)
    (a b : Seen) → Keeps tells a b → IsStored number store state a
    → Guards a b (RecoversTo store.log.geometry number state [])
keeps-recovers tells told number store state a b keeps stored =
    stored-recovers number store state a b stored
    (moments-keeps tells told a b keeps number store state stored)
