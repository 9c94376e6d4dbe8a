-- What is left of lists of which some is taken away.
use Rattle.std.proofs.Common.{◌≡◌, ◌||◌, Bool, true, false, cond, not, List, [], ◌∷◌, ◌++◌}
use Rattle.std.proofs.Common.{filter, map, refl, sym, ap, ◌∙◌}
use Rattle.std.specs.List.{AllByRecursion, list_any}
use Rattle.vr_types.specs.Locks.{Lock}
use Rattle.vr_types.specs.declared.lock_name.LockName.{LockName}
use Rattle.vr_types.specs.declared.unit.Mode.{Mode}
use Rattle.vr_types.specs.declared.unit.Unit.{Unit as UnitOfRecovery}
use Rattle.vr_history.specs.Effects.{is_other}
use Rattle.vr_history.specs.Names.{is_own, raised, raises, with_lock}
use Rattle.vr_history.proofs.Same.{first_holds, unit_self}

module _ {X : Type 0} (P : X → Type 0) (test : X → Bool) where
  -- none passes a test that fails of each
  pub none_any : ((x : X) → P x → test x ≡ false) → (xs : List X) → AllByRecursion P xs
      → list_any test xs ≡ false
  none_any fails [] are = refl
  none_any fails (x ∷ xs) are =
      ap (λ (b : Bool). b || list_any test xs) (fails x are.0) ∙ none_any fails xs are.1

  -- all are left by a test that holds of each
  pub all_pass : ((x : X) → P x → test x ≡ true) → (xs : List X) → AllByRecursion P xs
      → filter test xs ≡ xs
  all_pass holds [] are = refl
  all_pass holds (x ∷ xs) are =
      ap (λ (b : Bool). cond b (x ∷ filter test xs) (filter test xs)) (holds x are.0)
      ∙ ap (λ (rest : List X). x ∷ rest) (all_pass holds xs are.1)

  -- and the last is not, where it fails of that
  pub all_but_last : ((x : X) → P x → test x ≡ true) → (xs : List X) (last : X)
      → AllByRecursion P xs → test last ≡ false → filter test (xs ++ last ∷ []) ≡ xs
  all_but_last holds [] last are fails = ap (λ (b : Bool). cond b (last ∷ []) []) fails
  all_but_last holds (x ∷ xs) last are fails =
      ap (λ (b : Bool). cond b (x ∷ filter test (xs ++ last ∷ [])) (filter test (xs ++ last ∷ [])))
      (holds x are.0)
      ∙ ap (λ (rest : List X). x ∷ rest) (all_but_last holds xs last are.1 fails)

-- what a test leaves passes it
passed_if : {X : Type 0} (test : X → Bool) (x : X) (rest : List X)
    → AllByRecursion (λ y. test y ≡ true) rest → (b : Bool) → test x ≡ b
    → AllByRecursion (λ y. test y ≡ true) (cond b (x ∷ rest) rest)
passed_if test x rest are true is = (is, are)
passed_if test x rest are false is = are

pub all_passed : {X : Type 0} (test : X → Bool) (xs : List X)
    → AllByRecursion (λ x. test x ≡ true) (filter test xs)
all_passed test [] = tt
all_passed test (x ∷ xs) =
    passed_if test x (filter test xs) (all_passed test xs) (test x) refl

-- ---- the locks of other units, as a unit takes one

pub own_other : (unit : UnitOfRecovery) → is_other unit unit ≡ false
own_other unit = ap not (unit_self unit)

module _ (unit : UnitOfRecovery) (name : LockName) (mode : Mode) where
  abbrev left : List Lock → List Lock
  left locks = filter (λ lock. is_other unit lock.unit) locks

  abbrev mine : Lock
  mine = record { name = name; unit = unit; mode = mode }

  -- a lock that is raised is the unit's
  raised_left : (lock : Lock) (raised_rest rest : List Lock) → raised_rest ≡ rest → (own : Bool)
      → is_own unit name lock ≡ own
      → cond (is_other unit (cond own (record lock { mode = raised lock.mode mode }) lock).unit)
      (cond own (record lock { mode = raised lock.mode mode }) lock ∷ raised_rest) raised_rest
      ≡ cond (is_other unit lock.unit) (lock ∷ rest) rest
  raised_left lock raised_rest rest same false is =
      ap (λ (l : List Lock). cond (is_other unit lock.unit) (lock ∷ l) l) same
  raised_left lock raised_rest rest same true is =
      let own : is_other unit lock.unit ≡ false = ap not (first_holds _ _ is) in
      ap (λ (b : Bool). cond b (record lock { mode = raised lock.mode mode } ∷ raised_rest)
      raised_rest) own ∙ same
      ∙ sym (ap (λ (b : Bool). cond b (lock ∷ rest) rest) own)

  all_raised : (locks : List Lock) → left (map (raises unit name mode) locks) ≡ left locks
  all_raised [] = refl
  all_raised (lock ∷ locks) =
      raised_left lock (left (map (raises unit name mode) locks)) (left locks) (all_raised locks)
      (is_own unit name lock) refl

  one_more : (locks : List Lock) → left (locks ++ mine ∷ []) ≡ left locks
  one_more [] = ap (λ (b : Bool). cond b (mine ∷ []) []) (own_other unit)
  one_more (lock ∷ locks) =
      ap (λ (l : List Lock). cond (is_other unit lock.unit) (lock ∷ l) l) (one_more locks)

  left_if : (b : Bool) (locks : List Lock)
      → left (cond b (map (raises unit name mode) locks) (locks ++ mine ∷ [])) ≡ left locks
  left_if true locks = all_raised locks
  left_if false locks = one_more locks

  pub left_with_lock : (locks : List Lock) → left (with_lock unit mode name locks) ≡ left locks
  left_with_lock locks = left_if (list_any (is_own unit name) locks) locks
