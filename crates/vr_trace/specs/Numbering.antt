-- How entries of the merged history are held, and decks in their order.
use Rattle.std.specs.Prelude.{ℕ, List, map}
use Rattle.std.specs.Borrow.{Bor}
use Rattle.vr_history.specs.declared.entry.Entry.{Entry}
use Rattle.vr_history.specs.Merged.{Numbered}
use Rattle.vr_trace.specs.declared.kept.KeptDeck.{KeptDeck}
use Rattle.vr_trace.specs.declared.merging.NumberedEntry.{NumberedEntry}

-- an entry as it is held
abbrev pub numbered_of : NumberedEntry → Numbered
numbered_of held = record { volume = held.volume; entry = held.entry.now }

-- an entry of a volume
abbrev pub with_volume : ℕ → Entry → Numbered
with_volume volume entry = record { volume = volume; entry = entry }

-- decks as they are held
abbrev pub held_decks : List (Bor KeptDeck) → List KeptDeck
held_decks decks = map (λ (deck : Bor KeptDeck). deck.now) decks
