-- What the laws of the merged history speak of.
use Rattle.std.specs.Prelude.{◌≡◌, ℕ, ◌<◌, ◌≤◌, ◌==◌, Contains, Bool, if◌then◌else◌, List, [], ◌++◌, map, slice_index_or}
use Rattle.std.specs.List.{filter}
use Rattle.vr_history.specs.declared.entry.Entry.{Entry}
use Rattle.vr_history.specs.Merged.{Numbered, IsStamped, merged}
use Rattle.vr_trace.specs.declared.kept.KeptDeck.{KeptDeck}
use Rattle.vr_trace.specs.Code.{severity}
use Rattle.vr_trace.specs.Numbering.{with_volume}

abbrev pub is_on : ℕ → Numbered → Bool
is_on volume this = this.volume == volume

abbrev pub entry_of : Numbered → Entry
entry_of this = this.entry

-- the entries of a volume
abbrev pub entries_on : ℕ → List Numbered → List Entry
entries_on volume entries = map entry_of (filter (is_on volume) entries)

abbrev pub is_of : ℕ → Numbered → Bool
is_of deck this = this.entry.unit.deck == deck

-- the entries of a deck, on all volumes
abbrev pub of_deck : ℕ → List Numbered → List Numbered
of_deck deck entries = filter (is_of deck) entries

-- the entries of a deck on one volume
abbrev pub deck_entries : ℕ → List Entry → List Entry
deck_entries deck entries = filter (λ (entry : Entry). entry.unit.deck == deck) entries

-- the history of a volume, empty where there is no such volume
abbrev pub history_at : List (List Entry) → ℕ → List Entry
history_at histories volume = slice_index_or histories volume []

-- the stamps rise
abbrev pub AreRising : List Numbered → Type 0
AreRising entries = IsStamped 0 (map entry_of entries)

-- a volume's history grew at its end, and no other's did
abbrev pub Grew : List (List Entry) → List (List Entry) → ℕ → List Entry → Type 0
Grew before after volume made = (other : ℕ) → history_at after other
    ≡ history_at before other ++ (if volume == other then made else [])

-- the entries of a deck, after its entries among those that a volume's history grew by
abbrev pub deck_after : ℕ → List (List Entry) → ℕ → List Entry → List Numbered
deck_after deck histories volume made =
    of_deck deck (merged histories) ++ map (with_volume volume) (deck_entries deck made)

-- an entry of a history, and its deck is one of a step's
pub record IsEntryOf (decks : List KeptDeck) (histories : List (List Entry))
    (entry : Entry) : Type 0 where
  pub deck : KeptDeck
  pub is_there : Contains decks deck
  pub is_its : entry.unit.deck ≡ deck.number
  pub history : List Entry
  pub is_history : Contains histories history
  pub is_entered : Contains history entry

-- the code of a step is what one of the entries of its decks makes, and no other makes more
pub record IsWorst (decks : List KeptDeck) (histories : List (List Entry)) (code : ℕ) : Type 0 where
  pub most : (entry : Entry) → IsEntryOf decks histories entry → severity entry.what ≤ code
  pub met : 0 < code
      → (entry : Entry) × IsEntryOf decks histories entry × (severity entry.what ≡ code)
