-- The numbers of the decks of a job. That they stand for the decks in a listing is this project's
-- own rule.
use Rattle.std.specs.Prelude.{ℕ, ◌<◌, ◌≤◌, ◌==◌, List, [], ◌∷◌, length, sum_by, count_by, All}
use Rattle.vr_job_text.specs.declared.text.Deck.{Deck}
use Rattle.vr_job_text.specs.declared.text.Step.{Step}

-- how many decks the steps of a job have, and how many of a number
abbrev pub deck_count : List Step → ℕ
deck_count steps = sum_by (λ step. length step.decks) steps

abbrev pub decks_numbered : List Step → ℕ → ℕ
decks_numbered steps number =
    sum_by (λ step. count_by (λ deck. deck.number == number) step.decks) steps

-- the numbers of the decks rise from this number on
abbrev pub RiseFrom : ℕ → List Deck → Type 0
RiseFrom low [] = Unit {0}
RiseFrom low (deck ∷ decks) = (low ≤ deck.number) × RiseFrom deck.number decks

-- at most 64 decks, numbered 1 to 99, each number once; those of a step in the order of their
-- numbers
pub record AreNumbered (steps : List Step) : Type 0 where
  pub few : deck_count steps ≤ 64
  pub once : (number : ℕ) → decks_numbered steps number ≤ 1
  pub within : (number : ℕ) → 0 < decks_numbered steps number → (1 ≤ number) × (number ≤ 99)
  pub rise : All (λ step. RiseFrom 0 step.decks) steps
