-- Records handed to a visitor, one after another. The rule is this project's own.
use Rattle.std.specs.Prelude.{ℕ, Bool, List, [], ◌∷◌, if◌then◌else◌}

-- a record and its place before it
abbrev pub Visited : Type 0
Visited = List ℕ × List ℕ

-- A visitor after records, first to last: it takes none once it is done.
abbrev pub visited_by : {V : Type 0} → (V → List ℕ → List ℕ → V) → (V → Bool) → List Visited → V
    → V
visited_by after done [] visitor = visitor
visited_by after done (one ∷ others) visitor =
    if done visitor then visitor else visited_by after done others (after visitor one.0 one.1)
