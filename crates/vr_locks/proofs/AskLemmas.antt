-- What a request leaves of the list of locks.
use Rattle.std.proofs.Common.{◌≡◌, ℕ, ◌≤◌, Bool, cond, nat_eq, List, Option, None, refl, sym, ap}
use Rattle.std.proofs.Common.{◌∙◌, ◌⊎◌, ⊎_elim, inl, inr}
use Rattle.std.specs.HashMap.{get}
use Rattle.std.proofs.lemmas.Bool.{cases_cond, cases_eq, eq-eqb, ne_eqb}
use Rattle.vr_types.specs.Locks.{Lock}
use Rattle.vr_locks.specs.declared.maps.LockMaps.{LockMaps}
use Rattle.vr_locks.specs.Maps.{IsConsistent, lock_at, locks_in}
use Rattle.vr_locks.specs.Listed.{listed}
use Rattle.vr_locks.proofs.ListedLemmas.{listed-later, listed-same}

-- the list is the same where each lock is, even if numbers are set aside
pub locks-same : (old new : LockMaps) → IsConsistent old old.next → old.next ≤ new.next
    → ((n : ℕ) → lock_at new n ≡ lock_at old n) → locks_in new ≡ locks_in old
locks-same old new kept later same =
    listed-same (lock_at old) (lock_at new) new.next (λ n less. same n)
    ∙ listed-later (lock_at old) old.next new.next later kept.below

-- and where nothing but the filing of numbers changed
pub locks-kept : (old new : LockMaps) → new.locks ≡ old.locks → new.next ≡ old.next
    → locks_in new ≡ locks_in old
locks-kept old new locks next = ap (λ map. listed (λ n. get nat_eq map n) new.next) locks
    ∙ ap (listed (lock_at old)) next

-- a number without a lock loses none
pub unused-less : (at : ℕ → Option Lock) (k n : ℕ) → at k ≡ None
    → at n ≡ cond (nat_eq k n) None (at n)
unused-less at k n unused =
    ⊎_elim
    (λ here. ap at (sym here) ∙ unused ∙ sym (rw (eq-eqb k n here) refl))
    (λ apart. sym (rw (ne_eqb k n apart) refl))
    (cases_eq k n)

pub kept-or-cut : (b : Bool) (cut kept new : List ℕ) → new ≡ cond b cut kept
    → (new ≡ kept) ⊎ (new ≡ cut)
kept-or-cut b cut kept new is = ⊎_elim (λ one. inr one) (λ other. inl other)
    (cases_cond b cut kept new is)
