-- The lock that stands in the way of the name that a request locks is on that name.
use Rattle.std.proofs.Common.{◌≡◌, Bool, true, false, cond, List, [], ◌∷◌, Option, Some, None}
use Rattle.std.proofs.Common.{refl, sym, ap, ◌∙◌, find}
use Rattle.std.proofs.lemmas.Option.{none-some, same_Some, some_pair_parts}
use Rattle.std.specs.Option.{option_map}
use Rattle.vr_types.specs.Locks.{Lock, conflicts, first_conflict}
use Rattle.vr_types.specs.declared.lock_name.LockName.{LockName}
use Rattle.vr_types.specs.declared.reply.Refusal.TheVariants.{Held}
use Rattle.vr_types.specs.declared.unit.Mode.{Mode}
use Rattle.vr_types.specs.declared.unit.Unit.{Unit as UnitOfRecovery}
use Rattle.vr_history.specs.RefusedRecord.{held_by}
use Rattle.vr_locks.specs.Conflict.{holding}
use Rattle.vr_locks.proofs.CallerLemmas.{conflict-from}

first_passes : (test : Lock → Bool) (first : Lock) (others : Option Lock) (shown : Lock)
    → (others ≡ Some shown → test shown ≡ true) → (b : Bool) → test first ≡ b
    → cond b (Some first) others ≡ Some shown → test shown ≡ true
first_passes test first others shown further true passes there =
    ap test (sym (same_Some first shown there)) ∙ passes
first_passes test first others shown further false fails there = further there

find_passes : (test : Lock → Bool) (locks : List Lock) (shown : Lock)
    → find test locks ≡ Some shown → test shown ≡ true
find_passes test [] shown found = absurd (none-some shown found)
find_passes test (first ∷ locks) shown found =
    first_passes test first (find test locks) shown (find_passes test locks shown) (test first) refl
    found

module _ (locks : List Lock) (unit : UnitOfRecovery) (asked : Mode) (name : LockName)
    (holder : UnitOfRecovery) (mode : Mode) where
  shown : (o : Option Lock) → first_conflict locks unit asked name ≡ o
      → Some (holder, mode) ≡ option_map holding o
      → Some (Held holder name mode) ≡ option_map held_by o
  shown None there is = absurd (none-some (holder, mode) (sym is))
  shown (Some lock) there is =
      let parts = some_pair_parts holder lock.unit mode lock.mode is in
      let on = (conflict-from unit asked name lock
      (find_passes (conflicts unit asked name) locks lock there)).name in
      ap (λ (h : UnitOfRecovery). Some (Held h name mode)) parts.0
      ∙ ap (λ (n : LockName). Some (Held lock.unit n mode)) on
      ∙ ap (λ (m : Mode). Some (Held lock.unit lock.name m)) parts.1

  pub held_shown : Some (holder, mode) ≡ option_map holding (first_conflict locks unit asked name)
      → Some (Held holder name mode) ≡ option_map held_by (first_conflict locks unit asked name)
  held_shown is = shown (first_conflict locks unit asked name) refl is
