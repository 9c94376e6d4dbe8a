-- A unit that keeps a before-image holds its place exclusively.
use Rattle.std.proofs.Common.{◌≡◌, Bool, true, false, cond, not, ◌&&◌, ◌||◌, List, [], ◌∷◌, ◌++◌}
use Rattle.std.proofs.Common.{map, filter, refl, sym, ap, ◌∙◌, subst}
use Rattle.std.specs.List.{list_any}
use Rattle.std.proofs.lemmas.Bool.{true≢false, false≢true}
use Rattle.vr_types.specs.LockName.{lock_name_eq}
use Rattle.vr_types.specs.Locks.{Lock, conflicts, is_exclusive, same_unit, stands_against}
use Rattle.vr_types.specs.declared.lock_name.LockName.{LockName}
use Rattle.vr_types.specs.declared.unit.Mode.{Mode}
use Rattle.vr_types.specs.declared.unit.Mode.TheVariants.{Shared, Exclusive}
use Rattle.vr_types.specs.declared.unit.Unit.{Unit as UnitOfRecovery}
use Rattle.vr_history.specs.Effects.{is_other}
use Rattle.vr_history.specs.Names.{is_own, raised, raises, with_lock, with_locks}
use Rattle.vr_history.proofs.LockLemmas.{FreeIn}
use Rattle.vr_history.proofs.Same.{first_holds, name_self, second_holds, unit_same, unit_self}

-- the lock is the unit's on the name, and exclusive
abbrev pub is_held : UnitOfRecovery → LockName → Lock → Bool
is_held unit name lock = is_own unit name lock && is_exclusive lock.mode

abbrev pub Holds : UnitOfRecovery → LockName → List Lock → Type 0
Holds unit name locks = list_any (is_held unit name) locks ≡ true

or_left : (a b : Bool) → a ≡ true → (a || b) ≡ true
or_left a b is = ap (λ (x : Bool). x || b) is

or_right : (a b : Bool) → b ≡ true → (a || b) ≡ true
or_right true b is = refl
or_right false b is = is

-- a raised lock stays exclusive
raised_loudly : (mode wanted : Mode) → is_exclusive mode ≡ true
    → is_exclusive (raised mode wanted) ≡ true
raised_loudly Shared wanted loudly = absurd (false≢true loudly)
raised_loudly Exclusive Shared loudly = refl
raised_loudly Exclusive Exclusive loudly = refl

raised_held : (unit other : UnitOfRecovery) (name asked : LockName) (mode : Mode) (lock : Lock)
    → is_held unit name lock ≡ true → is_held unit name (raises other asked mode lock) ≡ true
raised_held unit other name asked mode lock held = by_test (is_own other asked lock)
  where
    by_test : (test : Bool)
        → is_held unit name (cond test (record lock { mode = raised lock.mode mode }) lock) ≡ true
    by_test true =
        ap (λ (b : Bool). b
        && is_exclusive (raised lock.mode mode)) (first_holds (is_own unit name lock) _ held)
        ∙ raised_loudly lock.mode mode (second_holds (is_own unit name lock) _ held)
    by_test false = held

raised_holds : (unit other : UnitOfRecovery) (name asked : LockName) (mode : Mode)
    (locks : List Lock) → Holds unit name locks
    → Holds unit name (map (raises other asked mode) locks)
raised_holds unit other name asked mode [] holds = absurd (false≢true holds)
raised_holds unit other name asked mode (lock ∷ locks) holds =
    by_test (is_held unit name lock) refl holds (raised_holds unit other name asked mode locks)
  where
    by_test : (test : Bool) → is_held unit name lock ≡ test
        → (test || list_any (is_held unit name) locks) ≡ true
        → (Holds unit name locks → Holds unit name (map (raises other asked mode) locks))
        → Holds unit name (map (raises other asked mode) (lock ∷ locks))
    by_test true is any rest = or_left _ _ (raised_held unit other name asked mode lock is)
    by_test false is any rest =
        or_right (is_held unit name (raises other asked mode lock)) _ (rest any)

appended_holds : (unit : UnitOfRecovery) (name : LockName) (new : Lock) (locks : List Lock)
    → Holds unit name locks → Holds unit name (locks ++ new ∷ [])
appended_holds unit name new [] holds = absurd (false≢true holds)
appended_holds unit name new (lock ∷ locks) holds =
    by_test (is_held unit name lock) refl holds (appended_holds unit name new locks)
  where
    by_test : (test : Bool) → is_held unit name lock ≡ test
        → (test || list_any (is_held unit name) locks) ≡ true
        → (Holds unit name locks → Holds unit name (locks ++ new ∷ []))
        → Holds unit name ((lock ∷ locks) ++ new ∷ [])
    by_test true is any rest = or_left _ _ is
    by_test false is any rest = or_right (is_held unit name lock) _ (rest any)

taken_holds : (unit other : UnitOfRecovery) (name asked : LockName) (mode : Mode)
    (locks : List Lock) → Holds unit name locks → Holds unit name (with_lock other mode asked locks)
taken_holds unit other name asked mode locks holds = by_test (list_any (is_own other asked) locks)
  where
    by_test : (test : Bool)
        → Holds unit name (cond test (map (raises other asked mode) locks) (locks
        ++ record { name = asked; unit = other; mode = mode } ∷ []))
    by_test true = raised_holds unit other name asked mode locks holds
    by_test false =
        appended_holds unit name (record { name = asked; unit = other; mode = mode }) locks holds

-- locks that are taken leave those that are held
pub all_hold : (unit other : UnitOfRecovery) (name : LockName) (mode : Mode) (names : List LockName)
    (locks : List Lock) → Holds unit name locks
    → Holds unit name (with_locks other mode names locks)
all_hold unit other name mode [] locks holds = holds
all_hold unit other name mode (asked ∷ names) locks holds =
    all_hold unit other name mode names (with_lock other mode asked locks)
    (taken_holds unit other name asked mode locks holds)

-- a name that is taken exclusively is held
raised_new : (unit : UnitOfRecovery) (name : LockName) (locks : List Lock)
    → list_any (is_own unit name) locks ≡ true
    → Holds unit name (map (raises unit name Exclusive) locks)
raised_new unit name [] own = absurd (false≢true own)
raised_new unit name (lock ∷ locks) own =
    by_test (is_own unit name lock) refl own (raised_new unit name locks)
  where
    raised_to : (mode : Mode) → is_exclusive (raised mode Exclusive) ≡ true
    raised_to Shared = refl
    raised_to Exclusive = refl

    by_test : (test : Bool) → is_own unit name lock ≡ test
        → (test || list_any (is_own unit name) locks) ≡ true
        → (list_any (is_own unit name) locks ≡ true
        → Holds unit name (map (raises unit name Exclusive) locks))
        → Holds unit name (cond test (record lock {
          mode =
              raised lock.mode Exclusive;
        }) lock ∷ map (raises unit name Exclusive) locks)
    by_test true is any rest =
        or_left _ _ (ap (λ (b : Bool). b && is_exclusive (raised lock.mode Exclusive)) is
        ∙ raised_to lock.mode)
    by_test false is any rest = or_right (is_held unit name lock) _ (rest any)

appended_new : (unit : UnitOfRecovery) (name : LockName) (locks : List Lock)
    → Holds unit name (locks ++ record { name = name; unit = unit; mode = Exclusive } ∷ [])
appended_new unit name [] =
    ap (λ (b : Bool). (b && true)
    || false) (ap (λ (b : Bool). b && lock_name_eq name name) (unit_self unit) ∙ name_self name)
appended_new unit name (lock ∷ locks) =
    or_right (is_held unit name lock) _ (appended_new unit name locks)

new_holds : (unit : UnitOfRecovery) (name : LockName) (locks : List Lock)
    → Holds unit name (with_lock unit Exclusive name locks)
new_holds unit name locks = by_test (list_any (is_own unit name) locks) refl
  where
    by_test : (test : Bool) → list_any (is_own unit name) locks ≡ test
        → Holds unit name (cond test (map (raises unit name Exclusive) locks) (locks
        ++ record { name = name; unit = unit; mode = Exclusive } ∷ []))
    by_test true own = raised_new unit name locks own
    by_test false own = appended_new unit name locks

-- the first name of those that are taken
pub first_holds_it : (unit : UnitOfRecovery) (name : LockName) (names : List LockName)
    (locks : List Lock) → Holds unit name (with_locks unit Exclusive (name ∷ names) locks)
first_holds_it unit name names locks =
    all_hold unit unit name Exclusive names (with_lock unit Exclusive name locks)
    (new_holds unit name locks)

-- what is free to one unit, another doesn't hold
pub free_unheld : (unit other : UnitOfRecovery) (name : LockName) (locks : List Lock)
    → FreeIn unit Exclusive name locks → Holds other name locks → unit ≡ other
unfolding stands_against
free_unheld unit other name [] free holds = absurd (false≢true holds)
free_unheld unit other name (lock ∷ locks) free holds =
    by_tests (is_held other name lock) refl holds (free_unheld unit other name locks free.1)
  where
    own_unit : (test : Bool) → same_unit unit lock.unit ≡ test → is_held other name lock ≡ true
        → unit ≡ other
    own_unit true is held = unit_same unit lock.unit is
        ∙ sym (unit_same other lock.unit
        (first_holds _ _ (first_holds (is_own other name lock) _ held)))
    own_unit false is held =
        let named : lock_name_eq name lock.name ≡ true =
        second_holds (same_unit other lock.unit) _ (first_holds (is_own other name lock) _ held)
        in
        let conflict : conflicts unit Exclusive name lock ≡ true =
        ap (λ (b : Bool). b && (not (same_unit unit lock.unit) && true)) named
        ∙ ap (λ (b : Bool). not b && true) is in
        absurd (true≢false (sym conflict ∙ free.0))

    by_tests : (test : Bool) → is_held other name lock ≡ test
        → (test || list_any (is_held other name) locks) ≡ true
        → (Holds other name locks → unit ≡ other) → unit ≡ other
    by_tests true held any rest = own_unit (same_unit unit lock.unit) refl held
    by_tests false held any rest = rest any

-- the end of another unit leaves what is held
pub filtered_holds : (unit ended : UnitOfRecovery) (name : LockName) (locks : List Lock)
    → same_unit ended unit ≡ false → Holds unit name locks
    → Holds unit name (filter (λ lock. is_other ended lock.unit) locks)
filtered_holds unit ended name [] apart holds = absurd (false≢true holds)
filtered_holds unit ended name (lock ∷ locks) apart holds =
    by_tests (is_held unit name lock) (same_unit ended lock.unit) refl refl holds
    (filtered_holds unit ended name locks apart)
  where
    by_tests : (test gone : Bool) → is_held unit name lock ≡ test
        → same_unit ended lock.unit ≡ gone → (test || list_any (is_held unit name) locks) ≡ true
        → (Holds unit name locks
        → Holds unit name (filter (λ left. is_other ended left.unit) locks))
        → Holds unit name
        (cond (not gone) (lock ∷ filter (λ left. is_other ended left.unit) locks)
        (filter (λ left. is_other ended left.unit) locks))
    by_tests true true held of_ended any rest =
        let same : ended ≡ unit = unit_same ended lock.unit of_ended
        ∙ sym (unit_same unit lock.unit
        (first_holds _ _ (first_holds (is_own unit name lock) _ held))) in
        absurd (true≢false
        (sym (subst (λ (u : UnitOfRecovery). same_unit ended u ≡ true) same (unit_self ended))
        ∙ apart))
    by_tests true false held of_other any rest = or_left _ _ held
    by_tests false true held of_ended any rest = rest any
    by_tests false false held of_other any rest = or_right (is_held unit name lock) _ (rest any)
