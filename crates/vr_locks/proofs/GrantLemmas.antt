-- What becomes of the table where a name is granted.
use Rattle.std.proofs.Common.{◌≡◌, ◌≢◌, ℕ, ◌<◌, true, false, cond, not, ◌||◌, nat_eq, Option, None}
use Rattle.std.proofs.Common.{Some, refl, sym, ap, subst, ◌∙◌, ◌⊎◌, arith, ⊎_elim, inl, inr}
use Rattle.std.specs.HashMap.{get}
use Rattle.std.specs.List.{list_any}
use Rattle.std.specs.Option.{option_map}
use Rattle.std.proofs.lemmas.Bool.{and_left, and_parts, and_right, cases_Bool, cases_eq, cases_lt}
use Rattle.std.proofs.lemmas.Bool.{eq-eqb, false_from_ne_true, ne_eqb, or_parts, true≢false}
use Rattle.std.proofs.lemmas.Option.{none-some, same_Some}
use Rattle.vr_types.specs.declared.lock_name.LockName.{LockName}
use Rattle.vr_types.specs.declared.unit.Mode.{Mode}
use Rattle.vr_types.specs.declared.unit.Mode.TheVariants.{Shared, Exclusive}
use Rattle.vr_types.specs.declared.unit.Unit as units
use Rattle.vr_types.specs.LockName.{lock_name_eq}
use Rattle.vr_types.specs.Locks.{Lock, conflicts, is_exclusive, same_unit, stands_against}
use Rattle.vr_locks.specs.declared.maps.LockMaps.{LockMaps}
use Rattle.vr_locks.specs.Filed.{AreUsed, numbers_in}
use Rattle.vr_locks.specs.Maps.{IsConsistent, KeepsFiled, lock_at, locks_in, of_name, of_unit}
use Rattle.vr_locks.specs.Listed.{AreBelow, AreSound, listed}
use Rattle.vr_locks.specs.Locked.{is_own, raise, with_lock}
use Rattle.vr_locks.specs.Plan.{Grants, IsFiledFor, IsOwnAt, NoneAgainst}
use Rattle.vr_locks.specs.Sound.{GoTogether}
use Rattle.vr_locks.proofs.FilingLemmas.{filed-over}
use Rattle.vr_locks.proofs.ListedLemmas.{any-listed_some, listed-add, listed-map}
use Rattle.vr_locks.proofs.NameLemmas.{name_equality, same-flip, unit_equality}

-- two locks of one unit on one name don't stand side by side
own_once : (at : ℕ → Option Lock) (unit : units.Unit) (name : LockName) (m n : ℕ) (a b : Lock)
    → AreSound at
    → at m ≡ Some a → at n ≡ Some b → is_own unit name a ≡ true → is_own unit name b ≡ true → m ≡ n
own_once at unit name m n a b sound there_a there_b own_a own_b =
    let parts_a = and_parts (lock_name_eq name a.name) (same_unit unit a.unit) own_a in
    let parts_b = and_parts (lock_name_eq name b.name) (same_unit unit b.unit) own_b in
    let name_a : name ≡ a.name = name_equality.exact name a.name parts_a.0 in
    let name_b : name ≡ b.name = name_equality.exact name b.name parts_b.0 in
    let unit_a : unit ≡ a.unit = unit_equality.exact unit a.unit parts_a.1 in
    let unit_b : unit ≡ b.unit = unit_equality.exact unit b.unit parts_b.1 in
    ⊎_elim
    (λ before. absurd ((sound m n a b before there_a there_b (sym name_a ∙ name_b)).0 (sym unit_a
    ∙ unit_b)))
    (λ not_before. ⊎_elim
    (λ after. absurd ((sound n m b a after there_b there_a (sym name_b ∙ name_a)).0 (sym unit_b
    ∙ unit_a)))
    (λ not_after. omega arith)
    (cases_lt n m))
    (cases_lt m n)

-- the number of a lock is in use
pub live-below : {maps : LockMaps} {bound : ℕ} → IsConsistent maps bound → (n : ℕ) (lock : Lock)
    → lock_at maps n ≡ Some lock → n < bound
live-below {maps} {bound} kept n lock there =
    ⊎_elim (λ less. less) (λ past. absurd (none-some lock (sym (kept.below n past)
    ∙ there))) (cases_lt n bound)

-- a lock of the unit's own is never in its way
own_passes : (unit : units.Unit) (mode : Mode) (name : LockName) (lock : Lock)
    → same_unit unit lock.unit ≡ true → conflicts unit mode name lock ≡ false
unfolding stands_against
own_passes unit mode name lock own =
    and_right (lock_name_eq name lock.name) (stands_against unit mode lock)
    (and_left (not (same_unit unit lock.unit)) (is_exclusive mode
    || is_exclusive lock.mode) (rw own refl))

shared : (mode : Mode) → is_exclusive mode ≡ false → mode ≡ Shared
shared Shared plain = refl
shared Exclusive plain = absurd (true≢false plain)

-- what another unit's lock on the name says where it isn't in the way
both_shared : (unit : units.Unit) (mode : Mode) (name : LockName) (lock : Lock)
    → conflicts unit mode name lock ≡ false
    → lock_name_eq name lock.name ≡ true → same_unit unit lock.unit ≡ false → (mode ≡ Shared)
    × (lock.mode ≡ Shared)
unfolding stands_against
both_shared unit mode name lock passes named other =
    let neither : (is_exclusive mode || is_exclusive lock.mode) ≡ false =
    rw (named, other) at passes in
    let parts = or_parts (is_exclusive mode) (is_exclusive lock.mode) neither in
    (shared mode parts.0, shared lock.mode parts.1)

module _ (unit : units.Unit) (mode : Mode) (name : LockName) where
  -- what becomes of each lock where the unit's own is raised
  abbrev pub change : Lock → Lock
  change lock = cond (is_own unit name lock) (raise mode lock) lock

  raise-name : (m : Mode) (lock : Lock) → (raise m lock).name ≡ lock.name
  raise-name Shared lock = refl
  raise-name Exclusive lock = refl

  raise-unit : (m : Mode) (lock : Lock) → (raise m lock).unit ≡ lock.unit
  raise-unit Shared lock = refl
  raise-unit Exclusive lock = refl

  change-name : (lock : Lock) → (change lock).name ≡ lock.name
  change-name lock =
      elim (is_own unit name lock) as (λ b. (cond b (raise mode lock) lock).name ≡ lock.name)
      [ true ↦ raise-name mode lock | false ↦ refl ]

  change-unit : (lock : Lock) → (change lock).unit ≡ lock.unit
  change-unit lock =
      elim (is_own unit name lock) as (λ b. (cond b (raise mode lock) lock).unit ≡ lock.unit)
      [ true ↦ raise-unit mode lock | false ↦ refl ]

  changed : (o : Option Lock) (lock : Lock) → option_map change o ≡ Some lock → (was : Lock)
      × (o ≡ Some was) × (change was ≡ lock)
  changed None lock is = absurd (none-some lock is)
  changed (Some was) lock is = (was, refl, same_Some (change was) lock is)

  change-other : (lock : Lock) → is_own unit name lock ≡ false → change lock ≡ lock
  change-other lock other = rw other refl

  -- a lock that goes with another unit's lock stays shared
  change-shared : (a b : Lock) → a.name ≡ b.name → a.unit ≢ b.unit → a.mode ≡ Shared
      → conflicts unit mode name b ≡ false → (change a).mode ≡ Shared
  change-shared a b names apart was free =
      elim (cases_Bool (is_own unit name a)) [
        | inl own ↦
            let parts = and_parts (lock_name_eq name a.name) (same_unit unit a.unit) own in
            let named : lock_name_eq name b.name ≡ true = rw (sym names) parts.0 in
            let other : same_unit unit b.unit ≡ false =
            false_from_ne_true (same_unit unit b.unit)
            (λ same. apart (sym (unit_equality.exact unit a.unit parts.1)
            ∙ unit_equality.exact unit b.unit same)) in
            let plain : mode ≡ Shared = (both_shared unit mode name b free named other).0 in
            rw (own, plain) was
        | inr other ↦ rw other was
      ]

  module _ (old new : LockMaps) (kept : IsConsistent old old.next)
      (free : NoneAgainst old unit mode name) where
    module _ (own : ℕ) (is : IsOwnAt old unit name own) (filed : KeepsFiled old new)
        (locks : (n : ℕ)
        → lock_at new n ≡ cond (nat_eq own n) (option_map (raise mode) (lock_at old n))
        (lock_at old n)) where
      same-elsewhere : (n : ℕ) (o : Option Lock) → lock_at old n ≡ o → own ≢ n
          → o ≡ option_map change o
      same-elsewhere n None there apart = refl
      same-elsewhere n (Some lock) there apart =
          ap (λ (one : Lock). Some one)
          (sym (change-other lock (false_from_ne_true (is_own unit name lock)
          (λ owned. apart
          (own_once (lock_at old) unit name own n is.0 lock kept.sound is.1 there is.2
          owned)))))

      -- each lock is changed where it is the unit's own, and kept elsewhere
      changes : (n : ℕ) → lock_at new n ≡ option_map change (lock_at old n)
      changes n =
          ⊎_elim
          (λ here.
          let there : lock_at old n ≡ Some is.0 = ap (lock_at old) (sym here) ∙ is.1 in
          let raised : change is.0 ≡ raise mode is.0 = rw is.2 refl in
          locks n ∙ rw (eq-eqb own n here, there) (ap (λ (one : Lock). Some one) (sym raised)))
          (λ apart. locks n ∙ rw (ne_eqb own n apart) (same-elsewhere n (lock_at old n) refl apart))
          (cases_eq own n)

      was : (n : ℕ) (lock : Lock) → lock_at new n ≡ Some lock → (before : Lock)
          × (lock_at old n ≡ Some before) × (change before ≡ lock)
      was n lock there = changed (lock_at old n) lock (sym (changes n) ∙ there)

      raised-sound : AreSound (lock_at new)
      raised-sound m n a b less there_a there_b names =
          let was_a = was m a there_a in
          let was_b = was n b there_b in
          let named : was_a.0.name ≡ was_b.0.name = sym (change-name was_a.0)
          ∙ ap (λ (l : Lock). l.name) was_a.2 ∙ names ∙ sym (ap (λ (l : Lock). l.name) was_b.2)
          ∙ change-name was_b.0 in
          let together = kept.sound m n was_a.0 was_b.0 less was_a.1 was_b.1 named in (
            λ units. together.0 (sym (change-unit was_a.0) ∙ ap (λ (l : Lock). l.unit) was_a.2
                ∙ units ∙ sym (ap (λ (l : Lock). l.unit) was_b.2) ∙ change-unit was_b.0),
            sym (ap (λ (l : Lock). l.mode) was_a.2)
                ∙ change-shared was_a.0 was_b.0 named together.0 together.1
                (free n was_b.0 was_b.1),
            sym (ap (λ (l : Lock). l.mode) was_b.2)
                ∙ change-shared was_b.0 was_a.0 (sym named) (λ units. together.0 (sym units))
                together.2 (free m was_a.0 was_a.1),
          )

      raised-kept : IsConsistent new new.next
      raised-kept = record {
        names = filed-over kept.names (of_name new) (lock_at new) new.next
            (omega (arith, filed.next))
            (λ q. ap (λ map. numbers_in (get lock_name_eq map q)) filed.names)
            (λ q n lock there. let before = was n lock there in
            kept.names.found q n before.0 before.1
            ∙ ap (lock_name_eq q) (sym (change-name before.0)
            ∙ ap (λ (l : Lock). l.name) before.2));
        units = filed-over kept.units (of_unit new) (lock_at new) new.next
            (omega (arith, filed.next))
            (λ q. ap (λ map. numbers_in (get same_unit map q)) filed.units)
            (λ q n lock there. let before = was n lock there in
            kept.units.found q n before.0 before.1
            ∙ ap (same_unit q) (sym (change-unit before.0)
            ∙ ap (λ (l : Lock). l.unit) before.2));
        below = λ n above. changes n
            ∙ ap (option_map change) (kept.below n (omega (arith, filed.next)));
        sound = raised-sound;
        room = omega arith;
        used_names = subst (λ map. AreUsed (get lock_name_eq map)) (sym filed.names)
            kept.used_names;
        used_units = subst (λ map. AreUsed (get same_unit map)) (sym filed.units) kept.used_units;
      }

      raised-free : (other : LockName) → NoneAgainst old unit mode other
          → NoneAgainst new unit mode other
      raised-free other none n lock there =
          let before = was n lock there in
          elim (cases_Bool (is_own unit name before.0)) [
            | inl owned ↦
                let same = (and_parts (lock_name_eq name before.0.name)
                (same_unit unit before.0.unit) owned).1 in
                own_passes unit mode other lock
                (ap (same_unit unit) (sym (ap (λ (l : Lock). l.unit) before.2)
                ∙ change-unit before.0) ∙ same)
            | inr differs ↦
                ap (conflicts unit mode other) (sym before.2 ∙ change-other before.0 differs)
                ∙ none n before.0 before.1
          ]

      raised-owned : (other : LockName) (n : ℕ) → IsOwnAt old unit other n
          → IsOwnAt new unit other n
      raised-owned other n owned = (
        change owned.0,
        changes n ∙ ap (option_map change) owned.1,
        rw (change-name owned.0, change-unit owned.0) owned.2,
      )

      raised-locks : locks_in new ≡ with_lock unit mode (locks_in old) name
      raised-locks =
          let held : list_any (is_own unit name) (locks_in old) ≡ true =
          any-listed_some (is_own unit name) (lock_at old) own old.next is.0
          (live-below kept own is.0 is.1) is.1 is.2 in
          let same : listed (lock_at new) new.next ≡ listed (lock_at new) old.next =
          ap (listed (lock_at new)) filed.next in
          same ∙ listed-map change (lock_at old) (lock_at new) old.next changes ∙ rw held refl

      pub raised-grants : Grants unit mode name old new
      raised-grants =
          record {
            locks = raised-locks;
            kept = raised-kept;
            next = filed.next;
            owned =
                raised-owned;
            free = raised-free;
          }

    module _ (k : ℕ) (within : k < old.next) (last : AreBelow (lock_at old) k)
        (alone : IsFiledFor old unit name k)
        (not_held : list_any (is_own unit name) (locks_in old) ≡ false) (filed : KeepsFiled old new)
        (locks : (n : ℕ)
        → lock_at new n ≡ cond (nat_eq k n) (Some (record {
          name = name;
          unit = unit;
          mode =
              mode;
        })) (lock_at old n)) where
      abbrev taken : Lock
      taken = record { name = name; unit = unit; mode = mode }

      elsewhere : (n : ℕ) → k ≢ n → lock_at new n ≡ lock_at old n
      elsewhere n apart = locks n ∙ rw (ne_eqb k n apart) refl

      -- a lock is the new one or an old one
      new_or_old : (n : ℕ) (lock : Lock) → lock_at new n ≡ Some lock → ((k ≡ n) × (taken ≡ lock))
          ⊎ (lock_at old n ≡ Some lock)
      new_or_old n lock there =
          ⊎_elim
          (λ here. inl (
            here,
            same_Some taken lock (sym (locks n ∙ rw (eq-eqb k n here) refl)
                ∙ there),
          ))
          (λ apart. inr (sym (elsewhere n apart) ∙ there))
          (cases_eq k n)

      goes : (n : ℕ) (lock : Lock) → lock_at old n ≡ Some lock → GoTogether lock taken
      goes n lock there = λ names.
          let differs : is_own unit name lock ≡ false =
          false_from_ne_true (is_own unit name lock)
          (λ owned. true≢false
          (sym (any-listed_some (is_own unit name) (lock_at old) n old.next lock
          (live-below kept n lock there) there owned) ∙ not_held)) in
          let named : lock_name_eq name lock.name ≡ true = ap (lock_name_eq name) names
          ∙ name_equality.itself name in
          let other : same_unit unit lock.unit ≡ false = rw named at differs in
          let both = both_shared unit mode name lock (free n lock there) named other in (
            λ units. true≢false (sym (ap (same_unit unit) units ∙ unit_equality.itself unit)
                ∙ other),
            both.1,
            both.0,
          )

      put-sound : AreSound (lock_at new)
      put-sound m n a b less there_a there_b =
          ⊎_elim
          (λ (last_b : (k ≡ n) × (taken ≡ b)). ⊎_elim
          (λ (last_a : (k ≡ m) × (taken ≡ a)). absurd (omega (arith, last_a.0, last_b.0)))
          (λ old_a. let P : Lock → Type 0 = λ lock. GoTogether a lock in
          subst P last_b.1 (goes m a old_a))
          (new_or_old m a there_a))
          (λ old_b. ⊎_elim
          (λ (last_a : (k ≡ m)
          × (taken ≡ a)). absurd (none-some b (sym (last n (omega (arith, last_a.0))) ∙ old_b)))
          (λ old_a. kept.sound m n a b less old_a old_b)
          (new_or_old m a there_a))
          (new_or_old n b there_b)

      put-kept : IsConsistent new new.next
      put-kept = record {
        names = filed-over kept.names (of_name new) (lock_at new) new.next
            (omega (arith, filed.next))
            (λ q. ap (λ map. numbers_in (get lock_name_eq map q)) filed.names)
            (λ q n lock there. ⊎_elim
            (λ (here : (k ≡ n) × (taken ≡ lock)).
            ap (λ (j : ℕ). list_any (nat_eq j) (of_name old q)) (sym here.0) ∙ alone.name_alone q
            ∙ same-flip name_equality name q
            ∙ ap (λ (l : Lock). lock_name_eq q l.name) here.1)
            (λ before. kept.names.found q n lock before)
            (new_or_old n lock there));
        units = filed-over kept.units (of_unit new) (lock_at new) new.next
            (omega (arith, filed.next))
            (λ q. ap (λ map. numbers_in (get same_unit map q)) filed.units)
            (λ q n lock there. ⊎_elim
            (λ (here : (k ≡ n) × (taken ≡ lock)).
            ap (λ (j : ℕ). list_any (nat_eq j) (of_unit old q)) (sym here.0) ∙ alone.unit_alone q
            ∙ same-flip unit_equality unit q
            ∙ ap (λ (l : Lock). same_unit q l.unit) here.1)
            (λ before. kept.units.found q n lock before)
            (new_or_old n lock there));
        below = λ n above. elsewhere n (λ here. omega (arith, filed.next))
            ∙ kept.below n (omega (arith, filed.next));
        sound = put-sound;
        room = omega arith;
        used_names = subst (λ map. AreUsed (get lock_name_eq map)) (sym filed.names)
            kept.used_names;
        used_units = subst (λ map. AreUsed (get same_unit map)) (sym filed.units) kept.used_units;
      }

      put-free : (other : LockName) → NoneAgainst old unit mode other
          → NoneAgainst new unit mode other
      put-free other none n lock there =
          ⊎_elim
          (λ (here : (k ≡ n) × (taken ≡ lock)).
          own_passes unit mode other lock (ap (λ (l : Lock). same_unit unit l.unit) (sym here.1)
          ∙ unit_equality.itself unit))
          (λ before. none n lock before)
          (new_or_old n lock there)

      put-owned : (other : LockName) (n : ℕ) → IsOwnAt old unit other n → IsOwnAt new unit other n
      put-owned other n owned = (
        owned.0,
        elsewhere n (λ here. none-some owned.0 (sym (last n (omega (arith, here)))
            ∙ owned.1)) ∙ owned.1,
        owned.2,
      )

      put-locks : locks_in new ≡ with_lock unit mode (locks_in old) name
      put-locks =
          let same : listed (lock_at new) new.next ≡ listed (lock_at new) old.next =
          ap (listed (lock_at new)) filed.next in
          same ∙ listed-add (lock_at old) (lock_at new) k old.next taken within last locks
          ∙ rw not_held refl

      pub put-grants : Grants unit mode name old new
      put-grants = record {
        locks = put-locks;
        kept = put-kept;
        next = filed.next;
        owned =
            put-owned;
        free = put-free;
      }
