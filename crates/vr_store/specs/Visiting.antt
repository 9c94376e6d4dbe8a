-- What a visitor is handed at a place. The rule is this project's own.
use Rattle.std.specs.Prelude.{ℕ, List, Option}
use Rattle.std.specs.Option.{option_map_or}

-- a visitor after a place, by the record that was found there, if any
abbrev pub after_found : {V : Type 0} → (V → List ℕ → List ℕ → V) → List ℕ → Option (List ℕ) → V
    → V
after_found after place found visitor =
    option_map_or (λ (bytes : List ℕ). after visitor place bytes) found visitor
