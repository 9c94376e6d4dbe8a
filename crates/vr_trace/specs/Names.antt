-- The names that a deck has for its files.
use Rattle.std.specs.Prelude.{ℕ, List, [], Option, Some, None, slice_get}

abbrev pub name_or_none : Option (List ℕ) → List ℕ
name_or_none None = []
name_or_none (Some name) = name

-- the deck's name of the file with a number
abbrev pub name_at : List (List ℕ) → ℕ → List ℕ
name_at names slot = name_or_none (slice_get names slot)
