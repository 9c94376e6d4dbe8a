-- What an image recovers to as the unit of a definition ends: its record counts once the COMMIT is
-- in the log, whether or not that is entered.
use Rattle.std.proofs.Common.{◌≡◌, ◌≢◌, ◌∙◌, ◌||◌, ℕ, Bool, true, false, not, cond, List, [], ◌∷◌}
use Rattle.std.proofs.Common.{All, ap, filter, if◌then◌else◌, refl, subst, sym}
use Rattle.std.proofs.lemmas.List.Elements.{All-filter}
use Rattle.vr_types.specs.Image.{Image}
use Rattle.vr_types.specs.Locks.{same_unit}
use Rattle.vr_types.specs.declared.geometry.Geometry.{Geometry}
use Rattle.vr_types.specs.declared.unit.Unit.{Unit as UnitOfRecovery}
use Rattle.vr_catalog.specs.Catalog.{parts_in}
use Rattle.vr_history.specs.Effects.{contents_left, ends_unit, has_part, is_other, is_utility_live}
use Rattle.vr_history.specs.Effects.{parts_laid, stops, without_unit}
use Rattle.vr_history.specs.Opened.{catalog_of}
use Rattle.vr_history.specs.State.{BeforeImage, Logged, Owned, State}
use Rattle.vr_volume.specs.Crashes.{RecoversTo, kept_but}
use Rattle.vr_volume.specs.Steps.{IsEndedIn}
use Rattle.vr_event.proofs.CallerLemmas.{counted-recovers}

-- each part that the catalog lacks is without content
abbrev pub LackNone : State → Type 0
LackNone state = (part : ℕ) → has_part (parts_in (catalog_of state)) part ≡ false
    → state.contents part ≡ []

module _ (unit : UnitOfRecovery) where
  -- the before-images that are left once a unit has ended are those that are kept as it counts
  others-kept : (befores : List BeforeImage)
      → kept_but (unit ∷ []) (filter (λ (kept : BeforeImage). is_other unit kept.unit) befores)
      ≡ kept_but (unit ∷ []) befores
  others-kept [] = refl
  others-kept (image ∷ befores) =
      by_test (same_unit unit image.unit) refl (others-kept befores)
    where
      others : List BeforeImage
      others = filter (λ (kept : BeforeImage). is_other unit kept.unit) befores

      by_test : (b : Bool) → same_unit unit image.unit ≡ b
          → kept_but (unit ∷ []) others ≡ kept_but (unit ∷ []) befores
          → kept_but (unit ∷ []) (cond (not b) (image ∷ others) others)
          ≡ cond (not (b || false)) (image ∷ kept_but (unit ∷ []) befores)
          (kept_but (unit ∷ []) befores)
      by_test true own rest = rest
      by_test false other rest =
          ap (λ (b : Bool). cond (not (b || false)) (image ∷ kept_but (unit ∷ []) others)
          (kept_but (unit ∷ []) others)) other
          ∙ ap (λ (kept : List BeforeImage). image ∷ kept) rest

  module _ (state : State) (lack : LackNone state) where
    abbrev without : State
    without = without_unit unit state

    abbrev given-back : State
    given-back = record without {
      contents = contents_left without;
      owned = filter (λ (owned : Owned). has_part (parts_laid (catalog_of without)) owned.part)
          without.owned;
    }

    -- so no content goes as it ends
    left : (part : ℕ) (b : Bool) → has_part (parts_in (catalog_of state)) part ≡ b
        → (if b then state.contents part else []) ≡ state.contents part
    left part true has = refl
    left part false lacks = sym (lack part lacks)

    by_utility : (b : Bool) → IsEndedIn unit state (cond b without given-back)
    by_utility true = record {
      contents = λ part. refl;
      befores = refl;
      logged = refl;
      used = refl;
      numbers = λ deck. refl;
    }
    by_utility false = record {
      contents = λ part. left part (has_part (parts_in (catalog_of state)) part) refl;
      befores = refl;
      logged = refl;
      used = refl;
      numbers = λ deck. refl;
    }

    ended : IsEndedIn unit state (ends_unit unit state)
    ended = by_utility (is_utility_live without)

    -- an image that recovers to what is after its end, recovers to what is before it, as it counts
    pub ended-recovers : (geometry : Geometry) (number : ℕ) (image : Image)
        → RecoversTo geometry number (ends_unit unit state) (unit ∷ []) image
        → RecoversTo geometry number state (unit ∷ []) image
    ended-recovers geometry number image = counted-recovers geometry number (ends_unit unit state)
        state (unit ∷ []) (unit ∷ []) image (λ part. sym (ended.contents part))
        (sym (ap (kept_but (unit ∷ [])) ended.befores ∙ others-kept state.befores))
        (λ part place free. subst
        (All (λ (logged : Logged). logged.part ≡ part → logged.place ≢ place)) (sym ended.logged)
        (All-filter (λ (logged : Logged). is_other unit logged.unit)
        (λ (logged : Logged). logged.part ≡ part → logged.place ≢ place) state.logged free))

-- a fault that stops the volume leaves what is committed
pub stopped-recovers : (geometry : Geometry) (number stamp : ℕ) (state : State)
    (counted : List UnitOfRecovery) (image : Image)
    → RecoversTo geometry number (stops stamp state) counted image
    → RecoversTo geometry number state counted image
stopped-recovers geometry number stamp state counted image = counted-recovers geometry number
    (stops stamp state) state counted counted image (λ part. refl) refl (λ part place free. free)
