-- What is gathered for several changes of the catalog, and the catalog among the parts of a store as
-- they are made.
use Rattle.std.proofs.Common.{◌≡◌, ◌≢◌, ℕ, Bool, true, false, cond, IsTrue, List, [], ◌∷◌, ◌++◌, Option}
use Rattle.std.proofs.Common.{Some, ap, map, refl, subst, sym, ◌∙◌, ◌&&◌, ◌||◌, ◌+◌, take, bytes_eq}
use Rattle.std.specs.Prelude.{All, IfSome}
use Rattle.std.proofs.lemmas.List.{map-append}
use Rattle.std.proofs.lemmas.List.Elements.{All-cons, All-head, All-nil, All-tail}
use Rattle.std.proofs.lemmas.Slice.Eq.{bytes_eq-Decides}
use Rattle.vr_types.specs.Locks.{same_unit}
use Rattle.vr_types.specs.Seen.{Seen}
use Rattle.vr_types.specs.declared.unit.Unit.{Unit as UnitOfRecovery}
use Rattle.vr_space.specs.Part.{IsOn, Shape, part_no}
use Rattle.vr_log.specs.Records.{HasLengths}
use Rattle.vr_history.specs.State.{BeforeImage}
use Rattle.vr_undo.specs.Records.{has_at, with_image}
use Rattle.vr_volume.specs.EntryChanges.{AreApart, MayStand, MissAll, image_for, logged_for}
use Rattle.vr_volume.specs.declared.setting.EntryChange.{EntryChange}
use Rattle.vr_volume.proofs.AllSet.{misses-before}
use Rattle.vr_store.specs.Store.{IsSet, PartNow, StoreNow, part_among, shape_among}
use Rattle.vr_store.proofs.Recorded.{at-shape, part-number-at, set-at}

-- ---- what is kept

and-none : (b : Bool) → (b && false) ≡ false
and-none true = refl
and-none false = refl

none-at : (unit : UnitOfRecovery) (at : List ℕ) (changes : List EntryChange) → MissAll at changes
    → has_at unit 0 at (map (image_for unit) changes) ≡ false
none-at unit at [] misses = refl
none-at unit at (change ∷ changes) misses = by (bytes_eq at change.place) refl
    (none-at unit at changes
    (All-tail (λ (other : EntryChange). at ≢ other.place) change changes misses))
  where
    by : (same : Bool) → bytes_eq at change.place ≡ same
        → has_at unit 0 at (map (image_for unit) changes) ≡ false
        → has_at unit 0 at (map (image_for unit) (change ∷ changes)) ≡ false
    by true is further = absurd (All-head (λ (other : EntryChange). at ≢ other.place) change changes
        misses ((bytes_eq-Decides at change.place).0 is))
    by false is further =
        ap (λ (b : Bool). (same_unit unit unit && b)
        || has_at unit 0 at (map (image_for unit) changes)) is
        ∙ ap (λ (b : Bool). b || has_at unit 0 at (map (image_for unit) changes))
        (and-none (same_unit unit unit)) ∙ further

-- one more is kept
pub kept-more : (unit : UnitOfRecovery) (changes : List EntryChange) (i : ℕ) (change : EntryChange)
    (images : List BeforeImage) → AreApart changes
    → take (i + 1) changes ≡ take i changes ++ change ∷ []
    → images ≡ map (image_for unit) (take i changes)
    → with_image unit (image_for unit change) images
    ≡ map (image_for unit) (take (i + 1) changes)
kept-more unit changes i change images apart more is =
    ap (with_image unit (image_for unit change)) is
    ∙ ap (λ (b : Bool). cond b (map (image_for unit) (take i changes))
    (map (image_for unit) (take i changes) ++ image_for unit change ∷ []))
    (none-at unit change.place (take i changes) (misses-before changes i change apart more))
    ∙ sym (map-append (image_for unit) (take i changes) (change ∷ []))
    ∙ ap (map (image_for unit)) (sym more)

-- ---- the records of the log

pub all-short : (unit : UnitOfRecovery) (changes : List EntryChange)
    → All (λ (change : EntryChange). HasLengths (logged_for unit change)) changes
    → All HasLengths (map (logged_for unit) changes)
all-short unit [] short = All-nil HasLengths
all-short unit (change ∷ changes) short = All-cons HasLengths (logged_for unit change)
    (map (logged_for unit) changes)
    (All-head (λ (one : EntryChange). HasLengths (logged_for unit one)) change changes short)
    (all-short unit changes
    (All-tail (λ (one : EntryChange). HasLengths (logged_for unit one)) change changes short))

-- ---- the catalog

-- What the changes know of it; `R` is what has to hold of the blocks.
pub record IsCatalogFor (tells : Bool) (R : StoreNow → PartNow → Type 0) (store : StoreNow)
    (changes : List EntryChange) (now : Seen) (catalog : PartNow) : Type 0 where
  pub number : part_no catalog.shape ≡ record { 0 = 0 }
  pub on : IsOn catalog.shape now
  pub stand : All (MayStand catalog.shape) changes
  pub ready : IsTrue tells → R store catalog

catalog-in : (tells : Bool) (R : StoreNow → PartNow → Type 0) (store : StoreNow)
    (changes : List EntryChange) (now : Seen) (catalog : PartNow)
    → part_among store.parts 0 ≡ Some catalog → IsSet store now
    → IfSome (shape_among store.parts 0) (λ (shape : Shape). All (MayStand shape) changes)
    → (IsTrue tells → IfSome (part_among store.parts 0) (R store))
    → IsCatalogFor tells R store changes now catalog
catalog-in tells R store changes now catalog found set stand ready = record {
  number = part-number-at store now set (record { 0 = 0 }) catalog found;
  on = (set-at store now set 0 catalog found).on;
  stand = at-shape (λ (shape : Shape). All (MayStand shape) changes) store.parts 0 catalog found
      stand;
  ready = λ told. subst (λ (one : Option PartNow). IfSome one (R store)) found (ready told);
}

-- The same where the store is seen as another value.
pub catalog-for : (tells : Bool) (R : StoreNow → PartNow → Type 0) (store seen : StoreNow)
    → store ≡ seen → (changes : List EntryChange) (now : Seen) (catalog : PartNow)
    → part_among store.parts 0 ≡ Some catalog → IsSet seen now
    → IfSome (shape_among seen.parts 0) (λ (shape : Shape). All (MayStand shape) changes)
    → (IsTrue tells → IfSome (part_among seen.parts 0) (R seen))
    → IsCatalogFor tells R store changes now catalog
catalog-for tells R store seen view changes now catalog found =
    subst (λ (s : StoreNow). IsSet s now
    → IfSome (shape_among s.parts 0) (λ (shape : Shape). All (MayStand shape) changes)
    → (IsTrue tells → IfSome (part_among s.parts 0) (R s))
    → IsCatalogFor tells R store changes now catalog) view
    (catalog-in tells R store changes now catalog found)
