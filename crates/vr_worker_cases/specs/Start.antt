-- Volumes and decks as a run begins. The rules are this project's own.
use Rattle.std.specs.Prelude.{◌≡◌, ℕ, List, [], ◌∷◌, All}
use Rattle.vr_worker.specs.Decks.{ArePlaced}
use Rattle.vr_worker_cases.specs.declared.volume.PlainVolume.{PlainVolume}

-- each has the number of its place, and no entry
pub record AreFirst (volumes : List PlainVolume) : Type 0 where
  pub placed : ArePlaced (λ (volume : PlainVolume). volume.number) volumes
  pub empty : All (λ (volume : PlainVolume). volume.history.entries ≡ []) volumes

-- the numbers of three decks
abbrev pub first_numbers : List ℕ
first_numbers = 1 ∷ 2 ∷ 3 ∷ []
