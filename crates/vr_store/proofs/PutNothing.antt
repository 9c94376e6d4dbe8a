-- What a call that puts nothing leaves of a store: it is set, and what was a state's stays so.
use Rattle.std.proofs.Common.{◌≡◌, ◌<◌, ℕ, Bool, IsTrue, sym, subst, ◌∙◌}
use Rattle.std.specs.Prelude.{All, Some}
use Rattle.std.proofs.lemmas.List.Elements.{All-weaker}
use Rattle.vr_types.specs.Blocks.{Keeps}
use Rattle.vr_types.specs.Moments.{Guards}
use Rattle.vr_types.specs.Seen.{Left, Seen}
use Rattle.vr_space.specs.Part.{IsAtRest, IsSound, Shape}
use Rattle.vr_space.proofs.CallerLemmas.{on-still, rest-sound}
use Rattle.vr_history.specs.State.{State}
use Rattle.vr_undo.specs.Records.{images_in}
use Rattle.vr_volume.specs.Committed.{committed_by}
use Rattle.vr_volume.specs.Laid.{shape_by}
use Rattle.vr_volume.specs.Safe.{IsSafeImage}
use Rattle.vr_volume.proofs.Calls.{guards-keeps}
use Rattle.vr_volume.proofs.ForceCalls.{due-kept}
use Rattle.vr_volume.proofs.Rested.{part-keeps, volume-keeps}
use Rattle.vr_store.specs.Store.{ChangedBy, IsPartSet, IsRestedPart, IsSet, IsStored}
use Rattle.vr_store.specs.Store.{Stands, StoreNow, blocks_of, owners_of}
use Rattle.vr_store.proofs.Among.{among-all, among-shape}

-- a part that is laid is in order
pub stored-sound : (number : ℕ) (store : StoreNow) (state : State) (now : Seen)
    → IsStored number store state now → (part : ℕ) (shape : Shape)
    → shape_by store.log.geometry (state.contents 0) part ≡ Some shape
    → IsSound shape (owners_of store) now
stored-sound number store state now stored part shape laid =
    let has = among-shape store.parts part shape (stored.whole part shape laid) in
    let rested : IsRestedPart store state now has.part =
    among-all (IsRestedPart store state now) store.parts part has.part stored.parts has.found in
    rest-sound shape (owners_of store) now
    (subst (λ (s : Shape). IsAtRest s (owners_of store) now) has.is rested.rests)

-- a store is set where the device has the blocks that it had
pub set-still : (store : StoreNow) (a b : Seen) → b.count ≡ a.count → b.size ≡ a.size
    → IsSet store a → IsSet store b
set-still store a b count size set = record {
  allowed = set.allowed;
  blocks = record { count = count ∙ set.blocks.count; size = size ∙ set.blocks.size };
  sound = set.sound;
  parts = All-weaker (IsPartSet a) (IsPartSet b)
      (λ part is. record {
        number = is.number;
        on = on-still part.shape a b is.on count size;
      }) store.parts set.parts;
  apart = set.apart;
  changed = subst (λ (count : ℕ). All (λ (by : ChangedBy). All (λ n. n < count) by.blocks)
      store.changed) (sym count) set.changed;
  idle = set.idle;
  kept = set.kept;
  areas = set.areas;
  owns = set.owns;
}

pub set-keeps : (tells : Bool) (store : StoreNow) (a b : Seen) → Keeps tells a b → IsSet store a
    → IsSet store b
set-keeps tells store a b call set = set-still store a b call.count_same call.size_same set

module _ (tells : Bool) (told : IsTrue tells) (a b : Seen) (call : Keeps tells a b) where
  -- what was a state's stays so,
  pub stored-keeps : (number : ℕ) (store : StoreNow) (state : State) → Left a a.cur
      → IsStored number store state a → IsStored number store state b
  stored-keeps number store state left stored = record {
    volume = volume-keeps tells told a b call store.log.geometry number (owners_of store)
        store.log (images_in store.undo) state stored.volume;
    parts = All-weaker (IsRestedPart store state a) (IsRestedPart store state b)
        (λ part. part-keeps tells told a b call store.log.geometry (owners_of store)
        (images_in store.undo) state part.shape part.known left) store.parts stored.parts;
    whole = stored.whole;
    befores = stored.befores;
    logged = stored.logged;
    due = λ unit part place image shape found mine laid.
        due-kept tells told a b call shape (owners_of store) (blocks_of unit store.changed) place
        (stored-sound number store state a stored part shape laid)
        (stored.due unit part place image shape found mine laid);
  }

  pub stands-kept : (store : StoreNow) → Left a a.cur → Stands store a → Stands store b
  stands-kept store left stands = record {
    number = stands.number;
    state = stands.state;
    stored = stored-keeps stands.number store stands.state left stands.stored;
  }

  -- and each image of each moment recovers to what was committed
  pub moments-keeps : (number : ℕ) (store : StoreNow) (state : State)
      → IsStored number store state a
      → Guards a b (IsSafeImage store.log.geometry number (owners_of store) store.log
      (committed_by state))
  moments-keeps number store state stored = guards-keeps tells told store.log.geometry number
      (owners_of store) store.log (committed_by state) a b call stored.volume.safe
