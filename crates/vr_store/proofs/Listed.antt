-- The blocks that a unit changed, among those of all units.
use Rattle.std.proofs.Common.{◌≡◌, ◌<◌, ◌+◌, ◌≤◌, ℕ, suc, Bool, true, false, cond, not}
use Rattle.std.proofs.Common.{List, [], ◌∷◌, ◌++◌, Option, Some, None, refl, sym, ap, subst, ◌∙◌, arith}
use Rattle.std.proofs.Common.{length, map, set, get_or, filter}
use Rattle.std.specs.Prelude.{All, find}
use Rattle.std.specs.List.{position, position_or_len, slice_get}
use Rattle.std.specs.Option.{option_map_or}
use Rattle.std.proofs.Math.ListN.{get_or-map}
use Rattle.std.proofs.Math.Seq.{map-set_same}
use Rattle.std.proofs.lemmas.List.{length-map, map-set}
use Rattle.std.proofs.lemmas.List.Elements.{All-append, All-cons, All-filter, All-get_or, All-nil}
use Rattle.std.proofs.lemmas.List.Elements.{All-set}
use Rattle.std.proofs.lemmas.List.Folds.{find_at, find_past}
use Rattle.std.proofs.lemmas.List.Sums.{passes_at_first}
use Rattle.std.proofs.lemmas.Option.{slice_get-get_or}
use Rattle.vr_types.specs.Locks.{same_unit}
use Rattle.vr_types.specs.declared.unit.Unit.{Unit as UnitOfRecovery}
use Rattle.vr_history.specs.Effects.{is_other}
use Rattle.vr_history.proofs.Same.{unit_same}
use Rattle.vr_store.specs.Store.{ChangedBy, blocks_of, changed_by, is_by}
use Rattle.vr_store.specs.declared.changed.UnitBlocks.{UnitBlocks}
use Rattle.vr_store.proofs.Filtered.{filter-seen}
use Rattle.vr_store.proofs.Positions.{position-first, position-map, position-past}

abbrev pub listed_of : Option ChangedBy → List ℕ
listed_of found = option_map_or (λ (by : ChangedBy). by.blocks) found []

abbrev the-by : UnitOfRecovery → List ℕ → ChangedBy
the-by unit blocks = record { unit = unit; blocks = blocks }

-- what is another unit's isn't by the unit
pub other-by : (unit other : UnitOfRecovery) (by : ChangedBy) → same_unit other unit ≡ false
    → is_by unit by ≡ true → is_by other by ≡ false
other-by unit other by apart is =
    ap (same_unit other) (sym (unit_same unit by.unit is)) ∙ apart

-- ---- by the place in the list

module _ (unit : UnitOfRecovery) where
  pub blocks-at : (changed : List ChangedBy) (at : ℕ) (d : ChangedBy)
      → at ≡ position_or_len (is_by unit) changed → at < length changed
      → blocks_of unit changed ≡ (get_or changed at d).blocks
  blocks-at changed at d is below = ap listed_of (find_at (is_by unit) changed
      ∙ ap (slice_get changed) (sym is) ∙ slice_get-get_or changed at d below)

  pub by-at : (changed : List ChangedBy) (at : ℕ) (d : ChangedBy)
      → at ≡ position_or_len (is_by unit) changed → at < length changed
      → is_by unit (get_or changed at d) ≡ true
  by-at changed at d is below =
      ap (λ (i : ℕ). is_by unit (get_or changed i d)) is
      ∙ passes_at_first (is_by unit) changed d (subst (λ (i : ℕ). i < length changed) is below)

  pub blocks-none : (changed : List ChangedBy)
      → length changed ≤ position_or_len (is_by unit) changed → blocks_of unit changed ≡ []
  blocks-none [] past = refl
  blocks-none (one ∷ changed) past =
      by_test (is_by unit one) past (λ past. blocks-none changed past)
    where
      by_test : (test : Bool)
          → length (one ∷ changed) ≤ cond (not test) (1 + position_or_len (is_by unit) changed) 0
          → (length changed ≤ position_or_len (is_by unit) changed
          → blocks_of unit changed ≡ [])
          → listed_of (cond test (Some one) (find (is_by unit) changed)) ≡ []
      by_test true past further = absurd (omega (arith, past))
      by_test false past further = further (omega (arith, past))

  -- what is put at the place is the unit's
  pub found-set : (after : ChangedBy) (changed : List ChangedBy) (at : ℕ)
      → at ≡ position_or_len (is_by unit) changed → at < length changed
      → is_by unit after ≡ true → find (is_by unit) (set changed at after) ≡ Some after
  found-set after [] at is below by = absurd (omega (arith, below))
  found-set after (one ∷ changed) at is below by =
      by_test (is_by unit one) refl is
      (λ less. found-set after changed (position_or_len (is_by unit) changed) refl less by)
    where
      next : {n : ℕ} → at ≡ 1 + n → at ≡ suc n
      next same = omega (arith, same)

      by_test : (test : Bool) → is_by unit one ≡ test
          → at ≡ cond (not test) (1 + position_or_len (is_by unit) changed) 0
          → (position_or_len (is_by unit) changed < length changed
          → find (is_by unit) (set changed (position_or_len (is_by unit) changed) after)
          ≡ Some after)
          → find (is_by unit) (set (one ∷ changed) at after) ≡ Some after
      by_test true here first further =
          ap (λ (i : ℕ). find (is_by unit) (set (one ∷ changed) i after)) first
          ∙ ap (λ (test : Bool). cond test (Some after) (find (is_by unit) changed)) by
      by_test false here later further =
          ap (λ (i : ℕ). find (is_by unit) (set (one ∷ changed) i after)) (next later)
          ∙ ap (λ (test : Bool). cond test (Some one) (find (is_by unit)
          (set changed (position_or_len (is_by unit) changed) after))) here
          ∙ further (omega (arith, below, later))

  pub blocks-set : (after : ChangedBy) (changed : List ChangedBy) (at : ℕ)
      → at ≡ position_or_len (is_by unit) changed → at < length changed
      → is_by unit after ≡ true → blocks_of unit (set changed at after) ≡ after.blocks
  blocks-set after changed at is below by =
      ap listed_of (found-set after changed at is below by)

  pub others-set : (after : ChangedBy) (changed : List ChangedBy) (at : ℕ)
      → at ≡ position_or_len (is_by unit) changed → at < length changed
      → is_by unit after ≡ true → (other : UnitOfRecovery) → same_unit other unit ≡ false
      → blocks_of other (set changed at after) ≡ blocks_of other changed
  others-set after changed at is below by other apart =
      ap listed_of (find_past (is_by other) changed at after after
      (other-by unit other (get_or changed at after) apart (by-at changed at after is below))
      (other-by unit other after apart by))

-- ---- a unit that is forgotten

abbrev pub forgotten : UnitOfRecovery → List ChangedBy → List ChangedBy
forgotten unit changed = filter (λ (by : ChangedBy). is_other unit by.unit) changed

module _ (unit : UnitOfRecovery) where
  pub forgotten-seen : (changed : List UnitBlocks)
      → map changed_by (filter (λ (by : UnitBlocks). is_other unit by.unit) changed)
      ≡ forgotten unit (map changed_by changed)
  forgotten-seen = filter-seen changed_by (λ (by : ChangedBy). is_other unit by.unit)

  pub forgotten-none : (changed : List ChangedBy) → blocks_of unit (forgotten unit changed) ≡ []
  forgotten-none [] = refl
  forgotten-none (one ∷ changed) = by_test (is_by unit one) refl (forgotten-none changed)
    where
      by_test : (test : Bool) → is_by unit one ≡ test
          → blocks_of unit (forgotten unit changed) ≡ []
          → blocks_of unit (cond (not test) (one ∷ forgotten unit changed)
          (forgotten unit changed)) ≡ []
      by_test true here further = further
      by_test false here further =
          ap (λ (test : Bool). listed_of (cond test (Some one)
          (find (is_by unit) (forgotten unit changed)))) here ∙ further

  pub forgotten-others : (other : UnitOfRecovery) → same_unit other unit ≡ false
      → (changed : List ChangedBy)
      → blocks_of other (forgotten unit changed) ≡ blocks_of other changed
  forgotten-others other apart [] = refl
  forgotten-others other apart (one ∷ changed) =
      by_test (is_by unit one) refl (forgotten-others other apart changed)
    where
      by_theirs : (theirs : Bool)
          → blocks_of other (forgotten unit changed) ≡ blocks_of other changed
          → listed_of (cond theirs (Some one) (find (is_by other) (forgotten unit changed)))
          ≡ listed_of (cond theirs (Some one) (find (is_by other) changed))
      by_theirs true same = refl
      by_theirs false same = same

      by_test : (test : Bool) → is_by unit one ≡ test
          → blocks_of other (forgotten unit changed) ≡ blocks_of other changed
          → blocks_of other (cond (not test) (one ∷ forgotten unit changed)
          (forgotten unit changed)) ≡ blocks_of other (one ∷ changed)
      by_test true here same = same
          ∙ sym (ap (λ (test : Bool). listed_of (cond test (Some one)
          (find (is_by other) changed))) (other-by unit other one apart here))
      by_test false here same = by_theirs (is_by other one) same

  pub forgotten-each : (count : ℕ) (changed : List ChangedBy)
      → All (λ (by : ChangedBy). All (λ n. n < count) by.blocks) changed
      → All (λ (by : ChangedBy). All (λ n. n < count) by.blocks) (forgotten unit changed)
  forgotten-each count changed = All-filter (λ (by : ChangedBy). is_other unit by.unit)
      (λ (by : ChangedBy). All (λ n. n < count) by.blocks) changed

-- ---- the entry of a unit that a call works on

module _ (unit : UnitOfRecovery) (items listed : List UnitBlocks) (result : Option ℕ)
    (same : listed ≡ items)
    (is : result ≡ position (λ (by : UnitBlocks). same_unit unit by.unit) listed) where
  of-items : result ≡ position (λ (by : UnitBlocks). same_unit unit by.unit) items
  of-items = is ∙ ap (position (λ (by : UnitBlocks). same_unit unit by.unit)) same

  -- a unit that has none
  pub none-listed : result ≡ None → blocks_of unit (map changed_by items) ≡ []
  none-listed none =
      let past = position-past (λ (by : UnitBlocks). same_unit unit by.unit) items
      (sym of-items ∙ none) in
      blocks-none unit (map changed_by items)
      (omega (
        arith,
        past,
        position-map (is_by unit) changed_by items,
        length-map items changed_by,
      ))

  module _ (at : ℕ) (one : UnitBlocks) (some : result ≡ Some at)
      (here : one ≡ get_or items at one) where
    first : (at ≡ position_or_len (λ (by : UnitBlocks). same_unit unit by.unit) items)
        × (at < length items)
    first = position-first (λ (by : UnitBlocks). same_unit unit by.unit) items at
        (sym of-items ∙ some)

    place : at ≡ position_or_len (is_by unit) (map changed_by items)
    place = first.0 ∙ sym (position-map (is_by unit) changed_by items)

    below : at < length (map changed_by items)
    below = omega (arith, first.1, length-map items changed_by)

    seen : get_or (map changed_by items) at (changed_by one) ≡ changed_by one
    seen = get_or-map changed_by items at one ∙ ap changed_by (sym here)

    pub unit-listed : blocks_of unit (map changed_by items) ≡ one.blocks.items
    unit-listed = blocks-at unit (map changed_by items) at (changed_by one) place below
        ∙ ap (λ (by : ChangedBy). by.blocks) seen

    by-unit : is_by unit (changed_by one) ≡ true
    by-unit = ap (is_by unit) (sym seen)
        ∙ by-at unit (map changed_by items) at (changed_by one) place below

    pub unit-each : (count : ℕ)
        → All (λ (by : ChangedBy). All (λ n. n < count) by.blocks) (map changed_by items)
        → All (λ n. n < count) one.blocks.items
    unit-each count all = subst (λ (by : ChangedBy). All (λ n. n < count) by.blocks) seen
        (All-get_or (λ (by : ChangedBy). All (λ n. n < count) by.blocks) (map changed_by items)
        at (changed_by one) below all)

    -- as the call leaves it
    module _ (after : UnitBlocks) (kept : after.unit ≡ one.unit) where
      by-after : is_by unit (changed_by after) ≡ true
      by-after = ap (same_unit unit) kept ∙ by-unit

      pub unit-after : blocks_of unit (map changed_by (set items at after)) ≡ after.blocks.items
      unit-after = ap (blocks_of unit) (map-set changed_by items at after)
          ∙ blocks-set unit (changed_by after) (map changed_by items) at place below by-after

      pub others-after : (other : UnitOfRecovery) → same_unit other unit ≡ false
          → blocks_of other (map changed_by (set items at after))
          ≡ blocks_of other (map changed_by items)
      others-after other apart = ap (blocks_of other) (map-set changed_by items at after)
          ∙ others-set unit (changed_by after) (map changed_by items) at place below by-after other
          apart

      pub each-after : (count : ℕ) → All (λ n. n < count) after.blocks.items
          → All (λ (by : ChangedBy). All (λ n. n < count) by.blocks) (map changed_by items)
          → All (λ (by : ChangedBy). All (λ n. n < count) by.blocks)
          (map changed_by (set items at after))
      each-after count mine all =
          subst (All (λ (by : ChangedBy). All (λ n. n < count) by.blocks))
          (sym (map-set changed_by items at after))
          (All-set (λ (by : ChangedBy). All (λ n. n < count) by.blocks) (map changed_by items) at
          (changed_by after) mine all)

      pub same-after : after.blocks.items ≡ one.blocks.items
          → map changed_by (set items at after) ≡ map changed_by items
      same-after same = map-set_same changed_by items at after one
          (two-parts after.unit one.unit after.blocks.items one.blocks.items kept same
          ∙ ap changed_by here)
        where
          two-parts : (a b : UnitOfRecovery) (xs ys : List ℕ) → a ≡ b → xs ≡ ys
              → the-by a xs ≡ the-by b ys
          two-parts a b xs ys units blocks =
              ap (λ (u : UnitOfRecovery). the-by u xs) units ∙ ap (the-by b) blocks

-- ---- a unit without blocks, at the end of the list

pub blocks-added : (unit other : UnitOfRecovery) (changed : List ChangedBy)
    → blocks_of other (changed ++ the-by unit [] ∷ []) ≡ blocks_of other changed
blocks-added unit other [] = by_test (is_by other (the-by unit []))
  where
    by_test : (test : Bool)
        → listed_of (cond test (Some (the-by unit [])) None) ≡ []
    by_test true = refl
    by_test false = refl
blocks-added unit other (one ∷ changed) =
    by_test (is_by other one) (blocks-added unit other changed)
  where
    by_test : (test : Bool)
        → blocks_of other (changed ++ the-by unit [] ∷ []) ≡ blocks_of other changed
        → listed_of (cond test (Some one) (find (is_by other) (changed ++ the-by unit [] ∷ [])))
        ≡ listed_of (cond test (Some one) (find (is_by other) changed))
    by_test true further = refl
    by_test false further = further

pub each-added : (unit : UnitOfRecovery) (count : ℕ) (changed : List ChangedBy)
    → All (λ (by : ChangedBy). All (λ n. n < count) by.blocks) changed
    → All (λ (by : ChangedBy). All (λ n. n < count) by.blocks) (changed ++ the-by unit [] ∷ [])
each-added unit count changed all =
    All-append (λ (by : ChangedBy). All (λ n. n < count) by.blocks) changed (the-by unit [] ∷ [])
    all (All-cons (λ (by : ChangedBy). All (λ n. n < count) by.blocks) (the-by unit []) []
    (All-nil (λ (n : ℕ). n < count)) (All-nil (λ (by : ChangedBy). All (λ n. n < count) by.blocks)))
