-- Lists of decks. These words are this project's own.
use Rattle.std.specs.Prelude.{ℕ, ◌==◌, List, not, count_by, filter}

-- how often the deck stands in the list
abbrev pub times : ℕ → List ℕ → ℕ
times deck decks = count_by (λ other. other == deck) decks

-- the list without the deck
abbrev pub without : ℕ → List ℕ → List ℕ
without deck decks = filter (λ other. not (other == deck)) decks
