-- To what the images recover of each moment of an event.
use Rattle.std.proofs.Common.{◌≡◌, ℕ, Bool, IsTrue, [], inl, inr, ⊎_elim, sym, ◌∙◌}
use Rattle.vr_types.specs.Blocks.{Keeps}
use Rattle.vr_types.specs.Moments.{Guards}
use Rattle.vr_types.specs.Seen.{Seen}
use Rattle.vr_types.specs.declared.request.Request.{Request}
use Rattle.vr_types.specs.declared.request.Request.TheVariants.{Backout, Commit}
use Rattle.vr_types.specs.declared.unit.Unit.{Unit as UnitOfRecovery}
use Rattle.vr_types.proofs.CallerLemmas.{guards-weaken}
use Rattle.vr_log.specs.LogNow.{with_record}
use Rattle.vr_log.specs.declared.record.EndKind.{EndKind}
use Rattle.vr_log.specs.declared.record.EndKind.TheVariants.{BackedOut, Committed}
use Rattle.vr_log.specs.declared.record.LogRecord.TheVariants.{End}
use Rattle.vr_history.specs.State.{State}
use Rattle.vr_undo.specs.Records.{images_in}
use Rattle.vr_volume.specs.Committed.{committed_by}
use Rattle.vr_volume.specs.Crashes.{RecoversTo}
use Rattle.vr_volume.specs.Safe.{IsSafeImage}
use Rattle.vr_volume.proofs.CallerLemmas.{backed-out-recovers, commit-recovers, rest-recovers}
use Rattle.vr_record_file.specs.Now.{FileNow}
use Rattle.vr_event.specs.Acting.{IsLeftIn}
use Rattle.vr_event.specs.EndedFile.{HasEnded, IsEndBy}
use Rattle.vr_store.specs.Store.{IsStored, StoreNow, owners_of}
use Rattle.vr_store.proofs.CallerLemmas.{moments-keeps}

module _ (number : ℕ) (store : StoreNow) (state : State) (a b : Seen)
    (stored : IsStored number store state a) where
  -- what was committed,
  pub recovers-safe : Guards a b
      (IsSafeImage store.log.geometry number (owners_of store) store.log (committed_by state))
      → Guards a b (RecoversTo store.log.geometry number state [])
  recovers-safe guards = guards-weaken a b _ _ guards
      (rest-recovers store.log.geometry number (owners_of store) store.log (images_in store.undo)
      state a stored.volume)

  -- also where a unit ends that is backed out; or with a unit that is committed
  pub recovers-end : (after : ℕ) (unit : UnitOfRecovery) (line : ℕ) (kind : EndKind)
      (request : Request) (old new : FileNow) → IsEndBy kind request
      → HasEnded after unit line request old new
      → Guards a b (IsSafeImage store.log.geometry number (owners_of store)
      (with_record store.log (End unit kind)) (committed_by state))
      → Guards a b (IsLeftIn store.log.geometry number state after unit line request old new)
  recovers-end after unit line Committed request old new is ended guards =
      guards-weaken a b _ _ guards
      (λ image safe. ⊎_elim (λ one. inl one) (λ counted. inr (is, ended, counted))
      (commit-recovers store.log.geometry number (owners_of store) store.log (images_in store.undo)
      state a stored.volume unit image safe))
  recovers-end after unit line BackedOut request old new is ended guards =
      guards-weaken a b _ _ guards
      (λ image safe. inl
      (backed-out-recovers store.log.geometry number (owners_of store) store.log
      (images_in store.undo) state a stored.volume unit image safe))

  -- where nothing is put
  pub recovers-keeps : (tells : Bool) → IsTrue tells → Keeps tells a b
      → Guards a b (RecoversTo store.log.geometry number state [])
  recovers-keeps tells told keeps =
      recovers-safe (moments-keeps tells told a b keeps number store state stored)

  pub recovers-with : (after : ℕ) (unit : UnitOfRecovery) (line : ℕ) (request : Request)
      (old new : FileNow) → Guards a b (RecoversTo store.log.geometry number state [])
      → Guards a b (IsLeftIn store.log.geometry number state after unit line request old new)
  recovers-with after unit line request old new guards =
      guards-weaken a b _ _ guards (λ image one. inl one)

  -- a BACKOUT commits nothing
  pub recovers-alone : (after : ℕ) (unit : UnitOfRecovery) (line : ℕ) (request : Request)
      (old new : FileNow) → request ≡ Backout
      → Guards a b (IsLeftIn store.log.geometry number state after unit line request old new)
      → Guards a b (RecoversTo store.log.geometry number state [])
  recovers-alone after unit line request old new is guards = guards-weaken a b _ _ guards
      (λ image. ⊎_elim (λ one. one)
      (λ counted. let no : Commit ≡ Backout = sym counted.0 ∙ is in absurd cc))
