-- A deck's own entries in a volume's history. These rules are this project's own.
use Rattle.std.specs.Prelude.{◌≡◌, ℕ, ◌==◌, List, ◌++◌, filter}
use Rattle.vr_history.specs.declared.entry.Entry.{Entry}

-- the entry is of the deck
abbrev pub IsOf : ℕ → Entry → Type 0
IsOf deck entry = entry.unit.deck ≡ deck

-- the deck's entries, in the order of the history
abbrev pub entries_of : ℕ → List Entry → List Entry
entries_of deck entries = filter (λ entry. entry.unit.deck == deck) entries

-- a history goes on: entries are added at its end alone
abbrev pub HasGrown : List Entry → List Entry → Type 0
HasGrown old new = (more : List Entry) × (new ≡ old ++ more)
