-- Lists of volumes, each with the state of its place: what they are seen as, and what is held of
-- each.
use Rattle.std.proofs.Common.{◌≡◌, ◌∙◌, ℕ, zero, suc, List, [], ◌∷◌, Some, ap, length, map, refl}
use Rattle.std.proofs.Common.{subst}
use Rattle.std.specs.Prelude.{slice_get, slice_set}
use Rattle.vr_history.specs.State.{State}

-- the states of all places but the first
abbrev pub past : (ℕ → State) → ℕ → State
past openings place = openings (suc place)

-- what volumes are seen as, each by the state of its place
abbrev pub each_seen : {V W : Type 0} → (State → V → W) → (ℕ → State) → List V → List W
each_seen seen_as openings [] = []
each_seen seen_as openings (volume ∷ volumes) =
    seen_as (openings zero) volume ∷ each_seen seen_as (past openings) volumes

-- so it is of each volume and the state of its place
abbrev pub EachHeld : {V : Type 0} → (State → V → Type 0) → (ℕ → State) → List V → Type 0
EachHeld Held openings [] = Unit {0}
EachHeld Held openings (volume ∷ volumes) =
    Held (openings zero) volume × EachHeld Held (past openings) volumes

module _ {V : Type 0} (Held : State → V → Type 0) where
  pub held-each : (openings : ℕ → State) (volumes : List V)
      → ((place : ℕ) (volume : V) → slice_get volumes place ≡ Some volume
      → Held (openings place) volume)
      → EachHeld Held openings volumes
  held-each openings [] each = tt
  held-each openings (volume ∷ volumes) each = (
    each zero volume refl,
    held-each (past openings) volumes (λ place one there. each (suc place) one there),
  )

  pub held-at : (openings : ℕ → State) (volumes : List V) (place : ℕ) (volume : V)
      → EachHeld Held openings volumes → slice_get volumes place ≡ Some volume
      → Held (openings place) volume
  held-at openings [] place volume are there = absurd cc
  held-at openings (one ∷ volumes) zero volume are there =
      subst (Held (openings zero)) (same one volume there) are.0
    where
      same : (a b : V) → Some a ≡ Some b → a ≡ b
      same a b is = cc
  held-at openings (one ∷ volumes) (suc place) volume are there =
      held-at (past openings) volumes place volume are.1 there

  pub held-set : (openings : ℕ → State) (volumes : List V) (place : ℕ) (new : V)
      → EachHeld Held openings volumes → Held (openings place) new
      → EachHeld Held openings (slice_set volumes place new)
  held-set openings [] place new are is = tt
  held-set openings (one ∷ volumes) zero new are is = (is, are.1)
  held-set openings (one ∷ volumes) (suc place) new are is =
      (are.0, held-set (past openings) volumes place new are.1 is)

module _ {V W : Type 0} (seen_as : State → V → W) where
  pub seen-count : (openings : ℕ → State) (volumes : List V)
      → length (each_seen seen_as openings volumes) ≡ length volumes
  seen-count openings [] = refl
  seen-count openings (volume ∷ volumes) = ap suc (seen-count (past openings) volumes)

  -- what is seen at a place is a volume there
  pub seen-there : (openings : ℕ → State) (volumes : List V) (place : ℕ) (at : W)
      → slice_get (each_seen seen_as openings volumes) place ≡ Some at
      → (volume : V) × (slice_get volumes place ≡ Some volume)
      × (at ≡ seen_as (openings place) volume)
  seen-there openings [] place at there = absurd cc
  seen-there openings (volume ∷ volumes) zero at there =
      (volume, refl, same at (seen_as (openings zero) volume) there)
    where
      same : (a b : W) → Some b ≡ Some a → a ≡ b
      same a b is = cc
  seen-there openings (volume ∷ volumes) (suc place) at there =
      seen-there (past openings) volumes place at there

  pub seen-at : (openings : ℕ → State) (volumes : List V) (place : ℕ) (volume : V)
      → slice_get volumes place ≡ Some volume
      → slice_get (each_seen seen_as openings volumes) place
      ≡ Some (seen_as (openings place) volume)
  seen-at openings [] place volume there = absurd cc
  seen-at openings (one ∷ volumes) zero volume there = same one volume there
    where
      same : (a b : V) → Some a ≡ Some b
          → Some (seen_as (openings zero) a) ≡ Some (seen_as (openings zero) b)
      same a b is = cc
  seen-at openings (one ∷ volumes) (suc place) volume there =
      seen-at (past openings) volumes place volume there

  pub seen-set : (openings : ℕ → State) (volumes : List V) (place : ℕ) (new : V)
      → each_seen seen_as openings (slice_set volumes place new)
      ≡ slice_set (each_seen seen_as openings volumes) place (seen_as (openings place) new)
  seen-set openings [] place new = refl
  seen-set openings (volume ∷ volumes) zero new = refl
  seen-set openings (volume ∷ volumes) (suc place) new =
      ap (λ (them : List W). seen_as (openings zero) volume ∷ them)
      (seen-set (past openings) volumes place new)

  -- what each shows is seen of what it is seen as
  pub seen-map : {X : Type 0} (of : V → X) (of_seen : W → X)
      → ((opening : State) (volume : V) → of volume ≡ of_seen (seen_as opening volume))
      → (openings : ℕ → State) (volumes : List V)
      → map of volumes ≡ map of_seen (each_seen seen_as openings volumes)
  seen-map of of_seen same openings [] = refl
  seen-map {X} of of_seen same openings (volume ∷ volumes) =
      ap (λ (x : X). x ∷ map of volumes) (same (openings zero) volume)
      ∙ ap (λ (them : List X). of_seen (seen_as (openings zero) volume) ∷ them)
      (seen-map of of_seen same (past openings) volumes)
