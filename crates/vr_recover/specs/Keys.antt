-- What before-images are in order by: their part, then their place. The rules are this project's
-- own.
use Rattle.std.specs.Prelude.{◌≢◌, ℕ, List, ◌∷◌}
use Rattle.std.specs.List.{AllPairs}
use Rattle.vr_history.specs.State.{BeforeImage}
use Rattle.vr_recover.specs.declared.alone.Key.{Key}

abbrev pub key_of : BeforeImage → List ℕ
key_of image = image.part ∷ image.place

abbrev pub listed : Key → List ℕ
listed key = key.part.0 ∷ key.place.now

-- no two of these keys are the same
abbrev pub AllDiffer : List (List ℕ) → Type 0
AllDiffer keys = AllPairs (λ (one other : List ℕ). one ≢ other) keys
