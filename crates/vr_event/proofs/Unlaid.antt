-- The part of a cluster that isn't laid gave back its areas before the cluster is defined. A volume
-- that is held had none of it, so it is as it was, and what a step after it leaves, it leaves of the
-- volume before.
use Rattle.std.proofs.Common.{◌≡◌, ℕ, None, sym, ap, subst}
use Rattle.std.specs.Prelude.{Result}
use Rattle.vr_types.specs.Seen.{Seen}
use Rattle.vr_types.specs.declared.memory.OutOfMemory.{OutOfMemory}
use Rattle.vr_catalog.specs.declared.entry.CatEntry.{CatEntry}
use Rattle.vr_history.specs.State.{State}
use Rattle.vr_space.specs.Part.{owned_count}
use Rattle.vr_store.specs.Store.{StoreNow}
use Rattle.vr_event.specs.DefineSteps.{HasComeHeld, LacksRoomWhere}
use Rattle.vr_event.specs.Defining.{IsNewCluster, utility_unit}
use Rattle.vr_event.specs.Nearer.{LeavesLess}
use Rattle.vr_event.specs.Volume.{Holds, IsHeld, IsWhole, VolumeNow}
use Rattle.vr_event.specs.declared.define.Define.{Define}
use Rattle.vr_event.proofs.DefineWhole.{not-laid}

module _ {B : Type 0} (seen : B → Seen) (entry : CatEntry) (old : VolumeNow B) (store : StoreNow)
    (whole : IsWhole seen old) (going : old.file.stopped ≡ None)
    (is : IsNewCluster old.file.geometry old.file.catalog entry)
    (same : owned_count entry.part old.store.space ≡ 0 → store ≡ old.store) where
  abbrev mid : VolumeNow B
  mid = record old { store = store }

  -- it is as it was
  back-same : (opening : State) → IsHeld seen opening old → mid ≡ old
  back-same opening held = ap (λ (s : StoreNow).
      let v : VolumeNow B = record old { store = s } in v)
      (same (held.unlaid going entry.part (not-laid seen old whole going entry is)))

  pub holds-back : Holds seen old → Holds seen mid
  holds-back holds = record {
    opening = holds.opening;
    held = subst (IsHeld seen holds.opening) (sym (back-same holds.opening holds.held))
        holds.held;
  }

  pub come-back : (after line : ℕ) (final : VolumeNow B) (opening : State)
      → IsHeld seen opening old
      → (IsHeld seen opening mid
      → HasComeHeld seen opening after (utility_unit mid.file) line entry mid final)
      → HasComeHeld seen opening after (utility_unit old.file) line entry old final
  come-back after line final opening held come =
      let same : mid ≡ old = back-same opening held in
      subst (λ (v : VolumeNow B).
      HasComeHeld seen opening after (utility_unit v.file) line entry v final) same
      (come (subst (IsHeld seen opening) (sym same) held))

  pub lacks-back : (result : Result Define OutOfMemory) → Holds seen old
      → LacksRoomWhere seen entry result mid → LacksRoomWhere seen entry result old
  lacks-back result holds = subst (LacksRoomWhere seen entry result)
      (back-same holds.opening holds.held)

  pub less-back : (again : Type 0) (final : VolumeNow B) → Holds seen old
      → LeavesLess again mid final → LeavesLess again old final
  less-back again final holds = subst (λ (v : VolumeNow B). LeavesLess again v final)
      (back-same holds.opening holds.held)
