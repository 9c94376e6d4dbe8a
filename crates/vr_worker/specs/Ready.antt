-- A step of decks as it is made ready, and as its threads run. The rules are this project's own.
use Rattle.std.specs.Prelude.{◌≡◌, ◌<◌, ◌==◌, ℕ, suc, zero, List, [], ◌∷◌, ◌++◌, false}
use Rattle.std.specs.Prelude.{Contains, IfSome, Option, Some, None, Ok, Err, get_or, length, map}
use Rattle.atomic_table.specs.Seated.{TableId}
use Rattle.vr_history.specs.declared.entry.Entry.{Entry}
use Rattle.vr_ledger.specs.Entries.{HasGrown, entries_of}
use Rattle.vr_ledger.specs.Ledger.{LedgerNow}
use Rattle.vr_ledger.specs.Turn.{TurnNow}
use Rattle.vr_trace.specs.Laws.{deck_entries}
use Rattle.vr_worker.specs.Deck.{AreCalm, AreTurns, IsRunSeat, IsTurnAt}
use Rattle.vr_worker.specs.Decks.{ArePlaced}
use Rattle.vr_worker.specs.Latched.{IsSince}
use Rattle.vr_worker.specs.declared.deck.DeckRun.{DeckRun}
use Rattle.vr_worker.specs.declared.deck.Seat.{Seat}
use Rattle.vr_trace.specs.declared.no.RunNo.TheVariants.{Memory}

-- the deck that has this seat
abbrev pub deck_of : Seat → DeckRun
deck_of seat = record { number = seat.deck; requests = seat.requests }

abbrev pub decks_of : List Seat → List DeckRun
decks_of seats = map deck_of seats

abbrev pub history_of : LedgerNow → List Entry
history_of ledger = ledger.history

-- no deck's turn is out
abbrev pub IsUnused : LedgerNow → Type 0
IsUnused ledger = ledger.out ≡ []

-- a ledger with turns of these decks out too
abbrev pub with_out : List ℕ → LedgerNow → LedgerNow
with_out decks ledger = record ledger { out = decks ++ ledger.out }

-- the turn of a deck that enters
abbrev pub turn_at : ℕ → LedgerNow → TurnNow
turn_at deck ledger = record {
  deck = deck;
  ledger = ledger.table;
  entries = entries_of deck ledger.history;
  history = ledger.history;
}

-- the thread of a deck didn't run yet
abbrev pub IsUnrun : Seat → Type 0
IsUnrun seat = seat.end ≡ Err Memory

-- it ran, and was done
abbrev pub IsDone : Seat → Type 0
IsDone seat = seat.end ≡ Ok tt

-- A deck before its thread begins: it has a turn at each ledger, no request was answered, and its
-- entries are to come after this stamp.
pub record IsBegun (ledgers : List LedgerNow) (start : ℕ) (seat : Seat) : Type 0 where
  pub turns : seat.turns.items ≡ map (turn_at seat.deck) ledgers
  pub last : seat.last ≡ start
  pub unrun : IsUnrun seat

-- ---- as the threads run

-- which ledger is that of the volume at a place
abbrev pub table_at : List LedgerNow → ℕ → TableId
table_at [] place = record {
  words = 0;
  slots = 0;
  views_name = 0;
  atom = 0;
  block = 0;
  offset = 0;
  slot_names = [];
}
table_at (ledger ∷ ledgers) zero = ledger.table
table_at (ledger ∷ ledgers) (suc place) = table_at ledgers place

-- the volume at a place
abbrev pub volume_at : {V : Type 0} → List V → ℕ → Option V
volume_at [] place = None
volume_at (volume ∷ volumes) zero = Some volume
volume_at (volume ∷ volumes) (suc place) = volume_at volumes place

-- a turn at the ledger of each of this many volumes
pub record HasTurns (tables : ℕ → TableId) (count : ℕ) (seat : Seat) : Type 0 where
  pub turns : AreTurns tables seat.deck seat.turns.items
  pub many : length seat.turns.items ≡ count

-- A deck whose thread may run: it is one of the step's, and none of its units has begun to undo.
pub record IsReady (tables : ℕ → TableId) (decks : List ℕ) (count : ℕ) (seat : Seat) : Type 0 where
  pub turns : HasTurns tables count seat
  pub calm : AreCalm seat.turns.items
  pub own : (seat.deck == 0) ≡ false
  pub named : Contains decks seat.deck

-- one of them
pub record HasTurnAt (tables : ℕ → TableId) (place : ℕ) (seat : Seat) : Type 0 where
  pub turn : (turn : TurnNow)
      → IsTurnAt (tables place) seat.deck (get_or seat.turns.items place turn)
  pub within : place < length seat.turns.items

-- what a deck has stays
pub record IsSameSeat (old new : Seat) : Type 0 where
  pub deck : new.deck ≡ old.deck
  pub requests : new.requests ≡ old.requests
  pub turns : new.turns.items ≡ old.turns.items
  pub last : new.last ≡ old.last
  pub end : new.end ≡ old.end

pub record AreSameSeats (old new : List Seat) : Type 0 where
  pub count : length new ≡ length old
  pub each : (place : ℕ) (seat : Seat) → place < length old
      → IsSameSeat (get_or old place seat) (get_or new place seat)

-- the threads of decks ran
pub record HaveRun (old new : List Seat) : Type 0 where
  pub count : length new ≡ length old
  pub each : (place : ℕ) (seat : Seat) → place < length old
      → IsRunSeat (get_or old place seat) (get_or new place seat)

-- what a deck knows of this volume is all that its history has of the deck, and the history went on
-- from the one that the deck saw
pub record IsToldAt (place : ℕ) (history : List Entry) (seat : Seat) : Type 0 where
  pub entries : (turn : TurnNow)
      → (get_or seat.turns.items place turn).entries ≡ deck_entries seat.deck history
  pub grown : (turn : TurnNow) → HasGrown (get_or seat.turns.items place turn).history history

-- and so it is of each volume
abbrev pub AreTold : {V : Type 0} → (V → List Entry) → List V → Seat → Type 0
AreTold {V} entries volumes seat = (place : ℕ) (volume : V) → place < length volumes
    → IsToldAt place (entries (get_or volumes place volume)) seat

-- Each volume has the number of its place, and is since the one that the step began with there.
pub record AreLater {V : Type 0} (number : V → ℕ) (entries : V → List Entry)
    (follows : V → V → Type 0) (start : ℕ → Option V) (decks : List ℕ) (volumes : List V) : Type 0
  where
    pub placed : ArePlaced number volumes
    pub since : (place : ℕ) (volume : V) → place < length volumes → IfSome (start place)
        (λ (first : V). IsSince entries follows decks first (get_or volumes place volume))
