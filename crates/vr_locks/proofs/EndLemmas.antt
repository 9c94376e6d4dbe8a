-- What becomes of the table where a unit of recovery ends.
use Rattle.std.proofs.Common.{◌≡◌, ℕ, ◌<◌, Bool, true, false, cond, not, ◌||◌, nat_eq, List, []}
use Rattle.std.proofs.Common.{Option, None, Some, AllPairs, refl, sym, ap, ◌∙◌, arith, ⊎_elim, inl}
use Rattle.std.proofs.Common.{inr}
use Rattle.std.specs.HashMap.{get}
use Rattle.std.specs.List.{list_any}
use Rattle.std.proofs.lemmas.Bool.{cases_Bool, cases_eq, eq-eqb, ne_eqb, not-true}
use Rattle.std.proofs.lemmas.Map.Entries.{option_filter}
use Rattle.std.proofs.lemmas.Option.{cond_some, none-some}
use Rattle.vr_types.specs.declared.unit.Unit as units
use Rattle.vr_types.specs.LockName.{lock_name_eq}
use Rattle.vr_types.specs.Locks.{Lock, same_unit}
use Rattle.vr_locks.specs.declared.maps.LockMaps.{LockMaps}
use Rattle.vr_locks.specs.Maps.{IsConsistent, lock_at, locks_in, of_name, of_unit}
use Rattle.vr_locks.specs.Filed.{AreUsed}
use Rattle.vr_locks.specs.Listed.{IsFiled, listed}
use Rattle.vr_locks.specs.Locked.{without_unit}
use Rattle.vr_locks.proofs.ListedLemmas.{listed-filter}
use Rattle.vr_locks.proofs.NameLemmas.{unit_equality}

nat-flip : (m n : ℕ) → nat_eq m n ≡ nat_eq n m
nat-flip m n =
    ⊎_elim
    (λ same. eq-eqb m n same ∙ sym (eq-eqb n m (sym same)))
    (λ apart. ne_eqb m n apart ∙ sym (ne_eqb n m (λ same. apart (sym same))))
    (cases_eq m n)

none-or : (a b : Bool) (o : Option Lock) → cond b None (cond a None o) ≡ cond (a || b) None o
none-or true true o = refl
none-or true false o = refl
none-or false true o = refl
none-or false false o = refl

-- one number more
pub dropped-more : (n number : ℕ) (before : Bool) (o : Option Lock)
    → cond (nat_eq number n) None (cond before None o) ≡ cond (before || nat_eq n number) None o
dropped-more n number before o = none-or before (nat_eq number n) o
    ∙ ap (λ (b : Bool). cond (before || b) None o) (nat-flip number n)

module _ (old new : LockMaps) (unit : units.Unit) (numbers : List ℕ)
    (kept : IsConsistent old old.next) (are : numbers ≡ of_unit old unit)
    (locks : (n : ℕ) → lock_at new n ≡ cond (list_any (nat_eq n) numbers) None (lock_at old n))
    (names : IsFiled lock_name_eq (λ (lock : Lock). lock.name) (lock_at new) new.next (of_name new))
    (others : (q : units.Unit) → of_unit new q ≡ cond (same_unit unit q) [] (of_unit old q))
    (next : new.next ≡ old.next) where
  -- a lock of another unit
  abbrev stays : Lock → Bool
  stays lock = not (same_unit unit lock.unit)

  left-of : (n : ℕ) (o : Option Lock) → lock_at old n ≡ o
      → cond (list_any (nat_eq n) numbers) None o ≡ option_filter stays o
  left-of n None there =
      elim (list_any (nat_eq n) numbers) as (λ b. cond {A =
      Option Lock} b None None ≡ None) [ true ↦ refl | false ↦ refl ]
  left-of n (Some lock) there =
      let owned : list_any (nat_eq n) numbers ≡ same_unit unit lock.unit =
      ap (list_any (nat_eq n)) are ∙ kept.units.found unit n lock there in
      rw owned (elim (same_unit unit lock.unit) as
      (λ b. cond b None (Some lock) ≡ cond (not b) (Some lock) None)
      [ true ↦ refl | false ↦ refl ])

  -- each lock stays where it is another unit's
  left : (n : ℕ) → lock_at new n ≡ option_filter stays (lock_at old n)
  left n = locks n ∙ left-of n (lock_at old n) refl

  filtered : (o : Option Lock) (lock : Lock) → option_filter stays o ≡ Some lock → (o ≡ Some lock)
      × (same_unit unit lock.unit ≡ false)
  filtered None lock is = absurd (none-some lock is)
  filtered (Some was) lock is =
      let parts = cond_some (stays was) was lock is in (
        ap (λ (l : Lock). Some l) parts.1,
        ap (λ (l : Lock). same_unit unit l.unit) (sym parts.1)
            ∙ not-true (same_unit unit was.unit) parts.0,
      )

  was : (n : ℕ) (lock : Lock) → lock_at new n ≡ Some lock → (lock_at old n ≡ Some lock)
      × (same_unit unit lock.unit ≡ false)
  was n lock there = filtered (lock_at old n) lock (sym (left n) ∙ there)

  units-left : IsFiled same_unit (λ (lock : Lock). lock.unit) (lock_at new) new.next (of_unit new)
  units-left = record {
    found = λ q n lock there.
        let before = was n lock there in
        ap (list_any (nat_eq n)) (others q)
        ∙ elim (cases_Bool (same_unit unit q)) [
          | inl ended ↦ rw ended
              (sym (ap (λ (u : units.Unit). same_unit u lock.unit)
              (sym (unit_equality.exact unit q ended)) ∙ before.1))
          | inr another ↦ rw another (kept.units.found q n lock before.0)
        ];
    below = λ q n past.
        ap (list_any (nat_eq n)) (others q)
        ∙ elim (same_unit unit q) as (λ b. list_any (nat_eq n) (cond b [] (of_unit old q)) ≡ false)
        [ true ↦ refl | false ↦ kept.units.below q n (omega arith) ];
    rising = λ q. rw (others q)
        (elim (same_unit unit q) as (λ b. AllPairs (λ (m n : ℕ). m < n) (cond b [] (of_unit old q)))
        [ true ↦ λ i j d less within. elim within [ ] | false ↦ kept.units.rising q ]);
  }

  pub ended-kept : AreUsed (get lock_name_eq new.names) → AreUsed (get same_unit new.units)
      → IsConsistent new new.next
  ended-kept names_used units_used = record {
    names = names;
    units = units-left;
    below = λ n above. left n ∙ ap (option_filter stays) (kept.below n (omega arith));
    sound = λ m n a b less there_a there_b. kept.sound m n a b less (was m a there_a).0
        (was n b there_b).0;
    room = omega arith;
    used_names = names_used;
    used_units = units_used;
  }

  pub ended-locks : locks_in new ≡ without_unit unit (locks_in old)
  ended-locks =
      let same : listed (lock_at new) new.next ≡ listed (lock_at new) old.next =
      ap (listed (lock_at new)) next in
      same ∙ listed-filter stays (lock_at old) (lock_at new) old.next left
