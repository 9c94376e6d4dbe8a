-- Locks that are in the way of an edit.
use Rattle.std.proofs.Common.{◌≡◌, ◌≢◌, ◌∙◌, ◌||◌, ℕ, Bool, true, false, List, [], ◌∷◌, Option, Some}
use Rattle.std.proofs.Common.{None, refl, sym, ap, map, true≢false, suc, arith}
use Rattle.std.specs.Prelude.{Contains, is_some}
use Rattle.std.specs.List.{AllByRecursion, list_any}
use Rattle.std.proofs.lemmas.Option.{none-some}
use Rattle.vr_types.specs.Locks.{Lock, first_conflict}
use Rattle.vr_types.specs.declared.lock_name.LockName.{LockName}
use Rattle.vr_types.specs.declared.unit.Mode.TheVariants.{Exclusive}
use Rattle.vr_types.specs.declared.unit.Unit.{Unit as UnitOfRecovery}
use Rattle.vr_record_file.specs.CatalogEdit.{RecordChange, name_of}

module _ (locks : List Lock) (unit : UnitOfRecovery) where
  abbrev pub is-locked : LockName → Bool
  is-locked name = is_some (first_conflict locks unit Exclusive name)

  some-none : (found : Option Lock) → is_some found ≡ true → found ≢ None
  some-none None is none = true≢false (sym is)
  some-none (Some lock) is none = none-some lock (sym none)

  none-some-is : (found : Option Lock) → is_some found ≡ false → found ≡ None
  none-some-is None is = refl
  none-some-is (Some lock) is = absurd (true≢false is)

  -- one is on one of the places
  pub one-locked : (changes : List RecordChange) → list_any is-locked (map name_of changes) ≡ true
      → (change : RecordChange) × Contains changes change
      × (first_conflict locks unit Exclusive (name_of change) ≢ None)
  one-locked [] is = absurd (true≢false (sym is))
  one-locked (change ∷ changes) is = by-test (is-locked (name_of change)) refl is
      (one-locked changes)
    where
      by-test : (b : Bool) → is-locked (name_of change) ≡ b
          → (b || list_any is-locked (map name_of changes)) ≡ true
          → (list_any is-locked (map name_of changes) ≡ true
          → (one : RecordChange) × Contains changes one
          × (first_conflict locks unit Exclusive (name_of one) ≢ None))
          → (one : RecordChange) × Contains (change ∷ changes) one
          × (first_conflict locks unit Exclusive (name_of one) ≢ None)
      by-test true here any further = (
        change,
        (0, omega arith, refl),
        some-none (first_conflict locks unit Exclusive (name_of change)) here,
      )
      by-test false here any further =
          let found = further any in
          (found.0, (suc found.1.0, omega (arith, found.1.1), found.1.2), found.2)

  -- or none is
  pub none-locked : (changes : List RecordChange)
      → list_any is-locked (map name_of changes) ≡ false
      → AllByRecursion (λ (change : RecordChange).
      first_conflict locks unit Exclusive (name_of change) ≡ None) changes
  none-locked [] is = tt
  none-locked (change ∷ changes) is = by-test (is-locked (name_of change)) refl is
      (none-locked changes)
    where
      by-test : (b : Bool) → is-locked (name_of change) ≡ b
          → (b || list_any is-locked (map name_of changes)) ≡ false
          → (list_any is-locked (map name_of changes) ≡ false → AllByRecursion
          (λ (one : RecordChange). first_conflict locks unit Exclusive (name_of one) ≡ None) changes)
          → (first_conflict locks unit Exclusive (name_of change) ≡ None)
          × AllByRecursion (λ (one : RecordChange).
          first_conflict locks unit Exclusive (name_of one) ≡ None) changes
      by-test true here any further = absurd (true≢false any)
      by-test false here any further = (
        none-some-is (first_conflict locks unit Exclusive (name_of change)) here,
        further any,
      )
