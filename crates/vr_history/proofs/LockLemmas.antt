-- Locks that are taken where no other unit's conflicts.
use Rattle.std.proofs.Common.{◌≡◌, ◌≢◌, ◌⊎◌, ⊎_elim, inl, inr, Bool, true, false, cond, not, ◌&&◌}
use Rattle.std.proofs.Common.{◌||◌, List, [], ◌∷◌, ◌++◌, map, filter, find, Some, None, refl, sym}
use Rattle.std.proofs.Common.{ap, ◌∙◌, subst}
use Rattle.std.specs.Prelude.{Option}
use Rattle.std.specs.List.{list_any}
use Rattle.std.specs.Option.{option_or}
use Rattle.std.proofs.lemmas.Bool.{true≢false, false≢true}
use Rattle.vr_types.specs.LockName.{lock_name_eq}
use Rattle.vr_types.specs.Locks.{Conflict, Lock, conflict_on, conflicts, is_exclusive, same_unit}
use Rattle.vr_types.specs.Locks.{stands_against}
use Rattle.vr_types.specs.declared.lock_name.LockName.{LockName}
use Rattle.vr_types.specs.declared.unit.Mode.{Mode}
use Rattle.vr_types.specs.declared.unit.Mode.TheVariants.{Shared, Exclusive}
use Rattle.vr_types.specs.declared.unit.Unit.{Unit as UnitOfRecovery}
use Rattle.vr_history.specs.Laws.{ConflictsWithNone, NoTwoConflict}
use Rattle.vr_history.specs.Names.{is_own, raised, raises, with_lock, with_locks}
use Rattle.vr_history.specs.State.{State}
use Rattle.vr_history.proofs.Same.{first_holds, second_holds, name_same, name_self, unit_same}
use Rattle.vr_history.proofs.Same.{unit_self}

abbrev pub asked_lock : UnitOfRecovery → Mode → LockName → Lock
asked_lock unit mode name = record { name = name; unit = unit; mode = mode }

-- no lock of the list conflicts with what is asked
abbrev pub FreeIn : UnitOfRecovery → Mode → LockName → List Lock → Type 0
FreeIn unit mode name [] = Unit {0}
FreeIn unit mode name (lock ∷ locks) = (conflicts unit mode name lock ≡ false)
    × FreeIn unit mode name locks

loud : (mode : Mode) → mode ≡ Exclusive → is_exclusive mode ≡ true
loud mode same = ap is_exclusive same

loud_mode : (mode : Mode) → is_exclusive mode ≡ true → mode ≡ Exclusive
loud_mode Shared loudly = absurd (false≢true loudly)
loud_mode Exclusive loudly = refl

apart_units : (unit other : UnitOfRecovery) → (unit ≢ other) → same_unit unit other ≡ false
apart_units unit other apart = by_test (same_unit unit other) refl
  where
    by_test : (test : Bool) → same_unit unit other ≡ test → same_unit unit other ≡ false
    by_test true is = absurd (apart (unit_same unit other is))
    by_test false is = is

either_loud : (mode other : Mode) → (mode ≡ Exclusive) ⊎ (other ≡ Exclusive)
    → (is_exclusive mode || is_exclusive other) ≡ true
either_loud mode other (inl first) = ap (λ (b : Bool). b || is_exclusive other) (loud mode first)
either_loud Shared other (inr second) = loud other second
either_loud Exclusive other (inr second) = refl

-- the test is false only where the two don't conflict
pub free_lock : (unit : UnitOfRecovery) (mode : Mode) (name : LockName) (lock : Lock)
    → conflicts unit mode name lock ≡ false → Conflict (asked_lock unit mode name) lock → ⊥
unfolding stands_against
free_lock unit mode name lock none conflict =
    let named : lock_name_eq name lock.name ≡ true =
    subst (λ (n : LockName). lock_name_eq name n ≡ true) conflict.name (name_self name) in
    let apart : same_unit unit lock.unit ≡ false = apart_units unit lock.unit conflict.units in
    let all : conflicts unit mode name lock ≡ true =
    ap (λ (b : Bool). b
    && (not (same_unit unit lock.unit) && (is_exclusive mode || is_exclusive lock.mode))) named
    ∙ (ap (λ (b : Bool). not b && (is_exclusive mode || is_exclusive lock.mode)) apart
    ∙ either_loud mode lock.mode conflict.exclusive) in
    true≢false (sym all ∙ none)

turned : (one other : Lock) → Conflict one other → Conflict other one
turned one other conflict =
    record {
      name = sym conflict.name;
      units = λ same. conflict.units (sym same);
      exclusive =
          ⊎_elim inr inl conflict.exclusive;
    }

-- where the first conflicting lock is none, there is none
none_by : (test : Bool) (lock : Lock) (rest : Option Lock) → cond test (Some lock) rest ≡ None
    → (test ≡ false) × (rest ≡ None)
none_by true lock rest none = absurd cc
none_by false lock rest none = (refl, none)

find_none : (unit : UnitOfRecovery) (mode : Mode) (name : LockName) (locks : List Lock)
    → find (conflicts unit mode name) locks ≡ None → FreeIn unit mode name locks
find_none unit mode name [] none = tt
find_none unit mode name (lock ∷ locks) none =
    let here = none_by (conflicts unit mode name lock) lock (find (conflicts unit mode name) locks)
    none in
    (here.0, find_none unit mode name locks here.1)

-- each name that is asked for is free
abbrev pub AreFree : UnitOfRecovery → Mode → List LockName → List Lock → Type 0
AreFree unit mode [] locks = Unit {0}
AreFree unit mode (name ∷ names) locks = FreeIn unit mode name locks × AreFree unit mode names locks

none_of : (one other : Option Lock) → option_or one other ≡ None → (one ≡ None) × (other ≡ None)
none_of None other none = (refl, none)
none_of (Some lock) other none = absurd cc

pub all_free : (state : State) (unit : UnitOfRecovery) (mode : Mode) (names : List LockName)
    → conflict_on state.locks unit mode names ≡ None → AreFree unit mode names state.locks
all_free state unit mode [] none = tt
all_free state unit mode (name ∷ names) none =
    let here = none_of (find (conflicts unit mode name) state.locks)
    (conflict_on state.locks unit mode names) none in
    (find_none unit mode name state.locks here.0, all_free state unit mode names here.1)

-- a lock of the unit's own conflicts with nothing that it asks for
own_free : (unit : UnitOfRecovery) (mode : Mode) (name : LockName) (lock : Lock)
    → same_unit unit lock.unit ≡ true → conflicts unit mode name lock ≡ false
unfolding stands_against
own_free unit mode name lock own =
    ap (λ (b : Bool). lock_name_eq name lock.name
    && (not b && (is_exclusive mode || is_exclusive lock.mode))) own
    ∙ and_false (lock_name_eq name lock.name)
  where
    and_false : (b : Bool) → (b && false) ≡ false
    and_false true = refl
    and_false false = refl

raised_free : (unit : UnitOfRecovery) (mode : Mode) (name other : LockName) (lock : Lock)
    → conflicts unit mode name lock ≡ false
    → conflicts unit mode name (raises unit other mode lock) ≡ false
raised_free unit mode name other lock free = by_test (is_own unit other lock) refl
  where
    by_test : (test : Bool) → is_own unit other lock ≡ test
        → conflicts unit mode name (cond test (record lock {
          mode =
              raised lock.mode mode;
        }) lock) ≡ false
    by_test true own =
        own_free unit mode name (record lock { mode = raised lock.mode mode }) (first_holds _ _ own)
    by_test false own = free

raised_all : (unit : UnitOfRecovery) (mode : Mode) (name other : LockName) (locks : List Lock)
    → FreeIn unit mode name locks → FreeIn unit mode name (map (raises unit other mode) locks)
raised_all unit mode name other [] free = tt
raised_all unit mode name other (lock ∷ locks) free =
    (raised_free unit mode name other lock free.0, raised_all unit mode name other locks free.1)

appended_free : (unit : UnitOfRecovery) (mode : Mode) (name : LockName) (new : Lock)
    (locks : List Lock) → same_unit unit new.unit ≡ true → FreeIn unit mode name locks
    → FreeIn unit mode name (locks ++ new ∷ [])
appended_free unit mode name new [] own free = (own_free unit mode name new own, tt)
appended_free unit mode name new (lock ∷ locks) own free =
    (free.0, appended_free unit mode name new locks own free.1)

taken_free : (unit : UnitOfRecovery) (mode : Mode) (name other : LockName) (locks : List Lock)
    → FreeIn unit mode name locks → FreeIn unit mode name (with_lock unit mode other locks)
taken_free unit mode name other locks free = by_test (list_any (is_own unit other) locks)
  where
    by_test : (test : Bool)
        → FreeIn unit mode name (cond test (map (raises unit other mode) locks) (locks
        ++ asked_lock unit mode other ∷ []))
    by_test true = raised_all unit mode name other locks free
    by_test false =
        appended_free unit mode name (asked_lock unit mode other) locks (unit_self unit) free

taken_all : (unit : UnitOfRecovery) (mode : Mode) (names : List LockName) (other : LockName)
    (locks : List Lock) → AreFree unit mode names locks
    → AreFree unit mode names (with_lock unit mode other locks)
taken_all unit mode [] other locks free = tt
taken_all unit mode (name ∷ names) other locks free =
    (taken_free unit mode name other locks free.0, taken_all unit mode names other locks free.1)

-- a raised lock conflicts with another only where the lock did, or what is asked does
raised_loud : (mode wanted : Mode) → raised mode wanted ≡ Exclusive → (mode ≡ Exclusive)
    ⊎ (wanted ≡ Exclusive)
raised_loud Shared Shared loudly = absurd cc
raised_loud Shared Exclusive loudly = inr refl
raised_loud Exclusive wanted loudly = inl refl

raised_against : (unit : UnitOfRecovery) (mode : Mode) (name : LockName) (lock other : Lock)
    → is_own unit name lock ≡ true → conflicts unit mode name other ≡ false
    → (Conflict lock other → ⊥) → Conflict (record lock { mode = raised lock.mode mode }) other → ⊥
raised_against unit mode name lock other own free apart conflict =
    let named : name ≡ lock.name =
    name_same name lock.name (second_holds (same_unit unit lock.unit) _ own) in
    let of_unit : unit ≡ lock.unit = unit_same unit lock.unit (first_holds _ _ own) in
    let asked : (mode ≡ Exclusive) ⊎ (other.mode ≡ Exclusive) → ⊥ =
    λ loudly. free_lock unit mode name other free (record {
      name = named
          ∙ conflict.name;
      units = λ same. conflict.units (sym of_unit ∙ same);
      exclusive =
          loudly;
    }) in
    let kept : lock.mode ≡ Exclusive → ⊥ =
    λ loudly. apart (record {
      name = conflict.name;
      units = conflict.units;
      exclusive =
          inl loudly;
    }) in
    ⊎_elim (λ loudly. ⊎_elim kept (λ wanted. asked (inl wanted))
    (raised_loud lock.mode mode loudly)) (λ loudly. asked (inr loudly)) conflict.exclusive

both_own : (unit : UnitOfRecovery) (mode : Mode) (name : LockName) (lock other : Lock)
    → is_own unit name lock ≡ true → is_own unit name other ≡ true
    → Conflict (record lock { mode = raised lock.mode mode }) (record other {
      mode =
          raised other.mode mode;
    }) → ⊥
both_own unit mode name lock other own others conflict =
    conflict.units (sym (unit_same unit lock.unit (first_holds _ _ own))
    ∙ unit_same unit other.unit (first_holds _ _ others))

raised_two : (unit : UnitOfRecovery) (mode : Mode) (name : LockName) (lock other : Lock)
    → conflicts unit mode name lock ≡ false → conflicts unit mode name other ≡ false
    → (Conflict lock other → ⊥)
    → Conflict (raises unit name mode lock) (raises unit name mode other) → ⊥
raised_two unit mode name lock other free free_other apart =
    by_tests (is_own unit name lock) (is_own unit name other) refl refl
  where
    by_tests : (test test' : Bool) → is_own unit name lock ≡ test → is_own unit name other ≡ test'
        → Conflict (cond test (record lock {
          mode =
              raised lock.mode mode;
        }) lock) (cond test' (record other {
          mode =
              raised other.mode mode;
        }) other) → ⊥
    by_tests true true own others conflict = both_own unit mode name lock other own others conflict
    by_tests true false own others conflict =
        raised_against unit mode name lock other own free_other apart conflict
    by_tests false true own others conflict =
        raised_against unit mode name other lock others free
        (λ back. apart (turned other lock back)) (turned lock (record other {
          mode =
              raised other.mode mode;
        }) conflict)
    by_tests false false own others conflict = apart conflict

raised_with : (unit : UnitOfRecovery) (mode : Mode) (name : LockName) (lock : Lock)
    (locks : List Lock) → conflicts unit mode name lock ≡ false → FreeIn unit mode name locks
    → ConflictsWithNone lock locks
    → ConflictsWithNone (raises unit name mode lock) (map (raises unit name mode) locks)
raised_with unit mode name lock [] free all none = tt
raised_with unit mode name lock (other ∷ locks) free all none = (
  raised_two unit mode name lock other free all.0 none.0,
  raised_with unit mode name lock locks
      free all.1 none.1,
)

raised_none : (unit : UnitOfRecovery) (mode : Mode) (name : LockName) (locks : List Lock)
    → FreeIn unit mode name locks → NoTwoConflict locks
    → NoTwoConflict (map (raises unit name mode) locks)
raised_none unit mode name [] free none = tt
raised_none unit mode name (lock ∷ locks) free none = (
  raised_with unit mode name lock locks free.0 free.1 none.0,
  raised_none unit mode name locks
      free.1 none.1,
)

appended_with : (unit : UnitOfRecovery) (mode : Mode) (name : LockName) (lock : Lock)
    (locks : List Lock) → conflicts unit mode name lock ≡ false → ConflictsWithNone lock locks
    → ConflictsWithNone lock (locks ++ asked_lock unit mode name ∷ [])
appended_with unit mode name lock [] free none = (
  λ conflict. free_lock unit mode name lock free
      (turned lock (asked_lock unit mode name) conflict),
  tt,
)
appended_with unit mode name lock (other ∷ locks) free none =
    (none.0, appended_with unit mode name lock locks free none.1)

appended_none : (unit : UnitOfRecovery) (mode : Mode) (name : LockName) (locks : List Lock)
    → FreeIn unit mode name locks → NoTwoConflict locks
    → NoTwoConflict (locks ++ asked_lock unit mode name ∷ [])
appended_none unit mode name [] free none = (tt, tt)
appended_none unit mode name (lock ∷ locks) free none = (
  appended_with unit mode name lock locks free.0 none.0,
  appended_none unit mode name locks
      free.1 none.1,
)

one_taken : (unit : UnitOfRecovery) (mode : Mode) (name : LockName) (locks : List Lock)
    → FreeIn unit mode name locks → NoTwoConflict locks
    → NoTwoConflict (with_lock unit mode name locks)
one_taken unit mode name locks free none = by_test (list_any (is_own unit name) locks)
  where
    by_test : (test : Bool)
        → NoTwoConflict (cond test (map (raises unit name mode) locks) (locks
        ++ asked_lock unit mode name ∷ []))
    by_test true = raised_none unit mode name locks free none
    by_test false = appended_none unit mode name locks free none

-- locks that are all free are taken
pub all_taken : (unit : UnitOfRecovery) (mode : Mode) (names : List LockName) (locks : List Lock)
    → AreFree unit mode names locks → NoTwoConflict locks
    → NoTwoConflict (with_locks unit mode names locks)
all_taken unit mode [] locks free none = none
all_taken unit mode (name ∷ names) locks free none =
    all_taken unit mode names (with_lock unit mode name locks)
    (taken_all unit mode names name locks free.1) (one_taken unit mode name locks free.0 none)

-- what is left of some locks
filtered_with : (test : Lock → Bool) (lock : Lock) (locks : List Lock)
    → ConflictsWithNone lock locks → ConflictsWithNone lock (filter test locks)
filtered_with test lock [] none = tt
filtered_with test lock (other ∷ locks) none =
    by_test (test other) (filtered_with test lock locks none.1)
  where
    by_test : (kept : Bool) → ConflictsWithNone lock (filter test locks)
        → ConflictsWithNone lock (cond kept (other ∷ filter test locks) (filter test locks))
    by_test true rest = (none.0, rest)
    by_test false rest = rest

pub filtered_none : (test : Lock → Bool) (locks : List Lock) → NoTwoConflict locks
    → NoTwoConflict (filter test locks)
filtered_none test [] none = tt
filtered_none test (lock ∷ locks) none = by_test (test lock) (filtered_none test locks none.1)
  where
    by_test : (kept : Bool) → NoTwoConflict (filter test locks)
        → NoTwoConflict (cond kept (lock ∷ filter test locks) (filter test locks))
    by_test true rest = (filtered_with test lock locks none.0, rest)
    by_test false rest = rest
