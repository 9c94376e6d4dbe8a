-- The decks of a step. They are read in the order of the text, so that the first fault there is
-- reported, and kept in the order of their numbers.
use Rattle.std.specs.Prelude.{ℕ, nat_lt, List, [], ◌∷◌, insert}
use Rattle.std.specs.Prelude.{Result, Ok, Err}
use Rattle.std.specs.List.{prefix_len}
use Rattle.vr_text.specs.Lines.{Line}
use Rattle.vr_deck_text.specs.Deck.{deck_of}
use Rattle.vr_deck_text.specs.declared.fault.LineFault.{LineFault}
use Rattle.vr_deck_text.specs.declared.text.DeckText.{DeckText}
use Rattle.vr_job_text.specs.declared.fault.TextFault.{TextFault}
use Rattle.vr_job_text.specs.declared.reading.Part.{Part}
use Rattle.vr_job_text.specs.declared.reading.PartKind.{PartKind}
use Rattle.vr_job_text.specs.declared.reading.PartKind.TheVariants as kinds
use Rattle.vr_job_text.specs.declared.text.Deck.{Deck}
use Rattle.vr_job_text.specs.Fault.{deck_fault}

-- the deck of some lines, or their first fault
abbrev pub deck_read : Result DeckText LineFault → Result DeckText TextFault
deck_read (Ok deck) = Ok deck
deck_read (Err fault) = Err (deck_fault fault.line fault.cause)

abbrev pub deck_in : List Line → Result DeckText TextFault
deck_in lines = deck_read (deck_of lines)

-- a deck goes before the first one that has no lower number
abbrev pub place_of : List Deck → ℕ → ℕ
place_of decks number = prefix_len (λ deck. nat_lt deck.number number) decks

abbrev pub with_deck : List Deck → Deck → List Deck
with_deck decks deck = insert decks (place_of decks deck.number) deck

abbrev pub with_read : List Deck → ℕ → Result DeckText TextFault → Result (List Deck) TextFault
with_read decks number (Err fault) = Err fault
with_read decks number (Ok text) = Ok (with_deck decks (record { number = number; text = text }))

-- a part that is a deck; a step of decks has no others
abbrev pub with_part : List Deck → List Line → PartKind → Result (List Deck) TextFault
with_part decks lines (kinds.Deck number) = with_read decks number (deck_in lines)
with_part decks lines kinds.Commands = Ok decks
with_part decks lines (kinds.Data name) = Ok decks

-- part by part: the first fault stays
abbrev pub with_decks : Result (List Deck) TextFault → List Part → Result (List Deck) TextFault
with_decks (Err fault) parts = Err fault
with_decks (Ok decks) [] = Ok decks
with_decks (Ok decks) (part ∷ parts) = with_decks (with_part decks part.lines part.kind) parts

-- the decks of the parts of a step, by number
abbrev pub decks_in : List Part → Result (List Deck) TextFault
decks_in parts = with_decks (Ok []) parts
