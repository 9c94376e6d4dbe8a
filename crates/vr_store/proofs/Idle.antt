-- A volume at rest of which no block is touched.
use Rattle.std.proofs.Common.{ℕ, []}
use Rattle.vr_types.specs.Image.{Image}
use Rattle.vr_types.specs.Moments.{Guards}
use Rattle.vr_types.specs.Seen.{Left, Seen}
use Rattle.vr_types.proofs.CallerLemmas.{guards-start}
use Rattle.vr_history.specs.State.{State}
use Rattle.vr_undo.specs.Records.{images_in}
use Rattle.vr_volume.specs.Committed.{committed_by}
use Rattle.vr_volume.specs.Crashes.{RecoversTo}
use Rattle.vr_volume.proofs.CallerLemmas.{rest-recovers}
use Rattle.vr_volume.proofs.Recovering.{each_image_is_safe}
use Rattle.vr_store.specs.Store.{IsStored, StoreNow, owners_of}

-- Each image that a crash may leave recovers to what is committed in the state,
pub stored-left : (number : ℕ) (store : StoreNow) (state : State) (now : Seen)
    → IsStored number store state now → (image : Image) → Left now image
    → RecoversTo store.log.geometry number state [] image
stored-left number store state now stored image left =
    rest-recovers store.log.geometry number (owners_of store) store.log (images_in store.undo) state
    now stored.volume image
    (each_image_is_safe store.log.geometry number (owners_of store) store.log (committed_by state)
    now stored.volume.safe image left)

-- and so it is while no block is touched.
pub idle-guards : (number : ℕ) (store : StoreNow) (state : State) (now : Seen)
    → IsStored number store state now
    → ((image : Image) → now.images now.moment image → Left now image)
    → Guards now now (RecoversTo store.log.geometry number state [])
idle-guards number store state now stored may =
    guards-start now (RecoversTo store.log.geometry number state []) may
    (stored-left number store state now stored)
