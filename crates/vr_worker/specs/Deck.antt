-- A deck as its thread runs it. The rules are this project's own.
use Rattle.std.specs.Prelude.{◌≡◌, ◌<◌, ◌≤◌, ℕ, List, [], All, Result, OnOk, get_or, length}
use Rattle.std.specs.Prelude.{map, take, false}
use Rattle.atomic_table.specs.Seated.{TableId}
use Rattle.vr_types.specs.declared.bound.Bound.{Bound}
use Rattle.vr_history.specs.Merged.{IsStamped, Numbered, last_stamp, part_of_deck}
use Rattle.vr_ledger.specs.Turn.{TurnNow}
use Rattle.vr_trace.specs.Laws.{entries_on, entry_of}
use Rattle.vr_worker.specs.Asked.{undoes}
use Rattle.vr_worker.specs.Latched.{ComesNext, HasLearned}
use Rattle.vr_worker.specs.declared.deck.Seat.{Seat}
use Rattle.vr_trace.specs.declared.no.RunNo.{RunNo}

-- a turn of the deck at this ledger
abbrev pub IsTurnAt : TableId → ℕ → TurnNow → Type 0
IsTurnAt ledger deck turn = (turn.ledger ≡ ledger) × (turn.deck ≡ deck)

-- the turns of a deck, one at the ledger of each volume from 0 on
abbrev pub AreTurns : (ℕ → TableId) → ℕ → List TurnNow → Type 0
AreTurns ledgers deck turns = (volume : ℕ) (turn : TurnNow) → volume < length turns
    → IsTurnAt (ledgers volume) deck (get_or turns volume turn)

-- no unit of the deck has begun to undo
abbrev pub AreCalm : List TurnNow → Type 0
AreCalm turns = (volume : ℕ) (turn : TurnNow) → volume < length turns
    → undoes (get_or turns volume turn).entries ≡ false

-- each turn learned of those of these entries that are on its volume
pub record HaveGrown (old new : List TurnNow) (made : List Numbered) : Type 0 where
  pub count : length new ≡ length old
  pub each : (volume : ℕ) (turn : TurnNow) → volume < length old
      → HasLearned (entries_on volume made) (get_or old volume turn) (get_or new volume turn)
  pub within : (volume : ℕ) → length old ≤ volume → entries_on volume made ≡ []

-- An entry of a deck on one of its volumes has the stamp that comes next: after this one, after
-- that of another of the deck's, or after that of one that is known of its volume.
abbrev pub IsNextOn : ℕ → List Numbered → List TurnNow → Numbered → Type 0
IsNextOn last made turns this = (turn : TurnNow) → this.volume < length turns
    → ComesNext last (map entry_of made) (get_or turns this.volume turn).history this.entry

-- The first of a deck's requests were answered, each once and in order: all of them, where the
-- thread is done. `made` is what the deck entered on all volumes, in the order in which it did,
-- which is that of its stamps.
pub record HasRun (deck : ℕ) (requests : List Bound) (result : Result (Unit {0}) RunNo)
    (last last' : ℕ) (old new : List TurnNow) : Type 0 where
  pub made : List Numbered
  pub turns : HaveGrown old new made
  pub stamped : IsStamped last (map entry_of made)
  pub next : All (IsNextOn last made new) made
  pub last_is : last' ≡ last_stamp last (map entry_of made)
  pub count : ℕ
  pub answers : part_of_deck deck made ≡ take count requests
  pub whole : OnOk result (take count requests ≡ requests)

-- The thread of a deck ran: it asked the first of its requests, and the rest of what it has stays.
pub record IsRunSeat (old new : Seat) : Type 0 where
  pub deck : new.deck ≡ old.deck
  pub requests : new.requests ≡ old.requests
  pub ran : HasRun old.deck old.requests.items new.end old.last new.last old.turns.items
      new.turns.items
