-- Locks that a unit takes: none of them is in the unit's way, and nothing comes of one that it takes
-- again.
use Rattle.std.proofs.Common.{◌≡◌, ◌&&◌, ◌||◌, Bool, true, false, cond, not, List, [], ◌∷◌, ◌++◌}
use Rattle.std.proofs.Common.{find, map, Option, Some, None, refl, ap, ◌∙◌}
use Rattle.std.specs.List.{list_any}
use Rattle.vr_types.specs.LockName.{lock_name_eq}
use Rattle.vr_types.specs.Locks.{Lock, conflicts, first_conflict, same_unit}
use Rattle.vr_types.specs.Locks.{stands_against}
use Rattle.vr_types.specs.declared.lock_name.LockName.{LockName}
use Rattle.vr_types.specs.declared.unit.Mode.{Mode}
use Rattle.vr_types.specs.declared.unit.Mode.TheVariants.{Exclusive, Shared}
use Rattle.vr_types.specs.declared.unit.Unit.{Unit as UnitOfRecovery}
use Rattle.vr_history.specs.Names.{is_own, raised, raises, with_lock}
use Rattle.vr_history.proofs.Same.{first_holds, name_self, unit_self}

and_false : (b : Bool) → (b && false) ≡ false
and_false true = refl
and_false false = refl

-- a lock that isn't found is found in no further one
still_none : (test further_test : Bool) (lock further_lock : Lock) (rest further : Option Lock)
    → (test ≡ false → further_test ≡ false) → (rest ≡ None → further ≡ None)
    → cond test (Some lock) rest ≡ None → cond further_test (Some further_lock) further ≡ None
still_none true further_test lock further_lock rest further fails none is = absurd (cc)
still_none false further_test lock further_lock rest further fails none is =
    ap (λ (b : Bool). cond b (Some further_lock) further) (fails refl) ∙ none is

raised_once : (mode : Mode) → raised (raised mode Exclusive) Exclusive ≡ raised mode Exclusive
raised_once Shared = refl
raised_once Exclusive = refl

none_of : (a b : Bool) → (a || b) ≡ false → (a ≡ false) × (b ≡ false)
none_of true b is = absurd (cc)
none_of false b is = (refl, is)

module _ (unit : UnitOfRecovery) (name : LockName) where
  abbrev mine : Lock
  mine = record { name = name; unit = unit; mode = Exclusive }

  abbrev raising : Lock → Lock
  raising lock = raises unit name Exclusive lock

  mine_own : is_own unit name mine ≡ true
  mine_own = ap (λ (b : Bool). b && lock_name_eq name name) (unit_self unit) ∙ name_self name

  -- ---- it isn't in the way, whichever name the unit asks for

  module _ (other : LockName) where
    abbrev in_the_way : Lock → Bool
    in_the_way lock = conflicts unit Exclusive other lock

    own_passes : (lock : Lock) → same_unit unit lock.unit ≡ true → in_the_way lock ≡ false
    unfolding stands_against
    own_passes lock own =
        ap (λ (b : Bool). lock_name_eq other lock.name && (not b && true)) own
        ∙ and_false (lock_name_eq other lock.name)

    raised_passes : (lock : Lock) (own : Bool) → is_own unit name lock ≡ own
        → in_the_way lock ≡ false
        → in_the_way (cond own (record lock { mode = raised lock.mode Exclusive }) lock) ≡ false
    raised_passes lock true is passes =
        own_passes (record lock { mode = raised lock.mode Exclusive }) (first_holds _ _ is)
    raised_passes lock false is passes = passes

    none_raised : (locks : List Lock) → find in_the_way locks ≡ None
        → find in_the_way (map raising locks) ≡ None
    none_raised [] none = none
    none_raised (lock ∷ locks) none =
        still_none (in_the_way lock) (in_the_way (raising lock)) lock (raising lock)
        (find in_the_way locks) (find in_the_way (map raising locks))
        (raised_passes lock (is_own unit name lock) refl) (none_raised locks) none

    none_more : (locks : List Lock) → find in_the_way locks ≡ None
        → find in_the_way (locks ++ mine ∷ []) ≡ None
    none_more [] none =
        ap (λ (b : Bool). cond b (Some mine) None) (own_passes mine (unit_self unit))
    none_more (lock ∷ locks) none =
        still_none (in_the_way lock) (in_the_way lock) lock lock (find in_the_way locks)
        (find in_the_way (locks ++ mine ∷ [])) (λ fails. fails) (none_more locks) none

    none_if : (b : Bool) (locks : List Lock) → find in_the_way locks ≡ None
        → find in_the_way (cond b (map raising locks) (locks ++ mine ∷ [])) ≡ None
    none_if true locks none = none_raised locks none
    none_if false locks none = none_more locks none

    -- where no lock was in the unit's way, none is once it has taken its own
    pub none_with_own : (locks : List Lock) → first_conflict locks unit Exclusive other ≡ None
        → first_conflict (with_lock unit Exclusive name locks) unit Exclusive other ≡ None
    none_with_own locks none = none_if (list_any (is_own unit name) locks) locks none

  -- ---- nothing comes of it

  own_kept : (b : Bool) (lock : Lock)
      → is_own unit name (cond b (record lock { mode = raised lock.mode Exclusive }) lock)
      ≡ is_own unit name lock
  own_kept true lock = refl
  own_kept false lock = refl

  any_kept : (locks : List Lock)
      → list_any (is_own unit name) (map raising locks) ≡ list_any (is_own unit name) locks
  any_kept [] = refl
  any_kept (lock ∷ locks) =
      ap (λ (b : Bool). b || list_any (is_own unit name) (map raising locks))
      (own_kept (is_own unit name lock) lock)
      ∙ ap (λ (b : Bool). is_own unit name lock || b) (any_kept locks)

  raised_again : (lock : Lock) (own : Bool) → is_own unit name lock ≡ own
      → raising (cond own (record lock { mode = raised lock.mode Exclusive }) lock)
      ≡ cond own (record lock { mode = raised lock.mode Exclusive }) lock
  raised_again lock true is =
      ap (λ (b : Bool). cond b
      (record lock { mode = raised (raised lock.mode Exclusive) Exclusive })
      (record lock { mode = raised lock.mode Exclusive })) is
      ∙ ap (λ (m : Mode). record lock { mode = m }) (raised_once lock.mode)
  raised_again lock false is =
      ap (λ (b : Bool). cond b (record lock { mode = raised lock.mode Exclusive }) lock) is

  all_again : (locks : List Lock) → map raising (map raising locks) ≡ map raising locks
  all_again [] = refl
  all_again (lock ∷ locks) =
      ap (λ (one : Lock). one ∷ map raising (map raising locks))
      (raised_again lock (is_own unit name lock) refl)
      ∙ ap (λ (rest : List Lock). raising lock ∷ rest) (all_again locks)

  any_mine : (locks : List Lock) → list_any (is_own unit name) (locks ++ mine ∷ []) ≡ true
  any_mine [] = ap (λ (b : Bool). b || false) mine_own
  any_mine (lock ∷ locks) =
      ap (λ (b : Bool). is_own unit name lock || b) (any_mine locks)
      ∙ or_true (is_own unit name lock)
    where
      or_true : (b : Bool) → (b || true) ≡ true
      or_true true = refl
      or_true false = refl

  mine_raised : (b : Bool) → cond b (record mine { mode = raised Exclusive Exclusive }) mine ≡ mine
  mine_raised true = refl
  mine_raised false = refl

  others_stay : (locks : List Lock) → list_any (is_own unit name) locks ≡ false
      → map raising (locks ++ mine ∷ []) ≡ locks ++ mine ∷ []
  others_stay [] none =
      ap (λ (one : Lock). one ∷ []) (mine_raised (is_own unit name mine))
  others_stay (lock ∷ locks) none =
      let parts = none_of (is_own unit name lock) (list_any (is_own unit name) locks) none in
      ap (λ (b : Bool). cond b (record lock { mode = raised lock.mode Exclusive }) lock
      ∷ map raising (locks ++ mine ∷ [])) parts.0
      ∙ ap (λ (rest : List Lock). lock ∷ rest) (others_stay locks parts.1)

  again_if : (b : Bool) (locks : List Lock) → list_any (is_own unit name) locks ≡ b
      → with_lock unit Exclusive name (cond b (map raising locks) (locks ++ mine ∷ []))
      ≡ cond b (map raising locks) (locks ++ mine ∷ [])
  again_if true locks own =
      ap (λ (b : Bool). cond b (map raising (map raising locks)) (map raising locks ++ mine ∷ []))
      (any_kept locks ∙ own) ∙ all_again locks
  again_if false locks none =
      ap (λ (b : Bool). cond b (map raising (locks ++ mine ∷ []))
      ((locks ++ mine ∷ []) ++ mine ∷ [])) (any_mine locks) ∙ others_stay locks none

  pub taken_again : (locks : List Lock)
      → with_lock unit Exclusive name (with_lock unit Exclusive name locks)
      ≡ with_lock unit Exclusive name locks
  taken_again locks = again_if (list_any (is_own unit name) locks) locks refl
