-- Elements that mark a list of owners at their numbers, one after the other. The rules are this
-- project's own.
use Rattle.std.specs.Prelude.{ℕ, List, Option, Some, None, set}

-- the owner at its number, where it has one
abbrev pub mark_by : {Y : Type 0} → Option ℕ → Y → List (Option Y) → List (Option Y)
mark_by None owner owners = owners
mark_by (Some area) owner owners = set owners area (Some owner)

abbrev pub marked : {X Y : Type 0} → (X → Option ℕ) → (X → Y) → List (Option Y) → X
    → List (Option Y)
marked h g owners x = mark_by (h x) (g x) owners
