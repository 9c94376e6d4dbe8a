-- What a latch guards while the decks of a step run, and what is known of it whenever the latch is
-- free. The rules are this project's own.
use Rattle.std.specs.Prelude.{◌≡◌, ◌<◌, ℕ, Bool, List, ◌++◌, All, Contains, IfSome, Option, map}
use Rattle.atomic_table.specs.Seated.{TableId}
use Rattle.vr_types.specs.declared.request.Request.{Request}
use Rattle.vr_history.specs.Merged.{IsStamped, last_stamp, part_of_deck}
use Rattle.vr_history.specs.declared.entry.Entry.{Entry}
use Rattle.vr_ledger.specs.Entries.{HasGrown}
use Rattle.vr_ledger.specs.Ledger.{LedgerNow}
use Rattle.vr_ledger.specs.Turn.{TurnNow}
use Rattle.vr_trace.specs.Numbering.{with_volume}
use Rattle.vr_worker.specs.Asked.{MayGoOn, bound_to, if_done}
use Rattle.vr_trace.specs.Growing.{FollowsOne, IsNext}

-- a volume with its ledger
pub record LatchedNow (V : Type 0) : Type 0 where
  pub volume : V
  pub ledger : LedgerNow

-- the entry is of one of these decks
abbrev pub IsOfOne : List ℕ → Entry → Type 0
IsOfOne decks entry = Contains decks entry.unit.deck

-- The volume is a later state of this one, and its history grew by entries of these decks alone.
pub record IsSince {V : Type 0} (entries : V → List Entry) (follows : V → V → Type 0)
    (decks : List ℕ) (first now : V) : Type 0 where
  pub is_later : follows first now
  pub more : List Entry
  pub grew : entries now ≡ entries first ++ more
  pub own : All (IsOfOne decks) more

-- The volume is one of this many, the ledger is that of its number and has its history, and the
-- volume is since the step began.
pub record IsLatched {V : Type 0} (number : V → ℕ) (entries : V → List Entry)
    (follows : V → V → Type 0) (count : ℕ) (start : ℕ → Option V) (ledgers : ℕ → TableId)
    (decks : List ℕ) (volume : V) (ledger : LedgerNow) : Type 0 where
  pub within : number volume < count
  pub table : ledger.table ≡ ledgers (number volume)
  pub history : ledger.history ≡ entries volume
  pub since : IfSome (start (number volume))
      (λ (first : V). IsSince entries follows decks first volume)

-- A turn learned of more entries of its deck, and of a later history of its volume.
pub record HasLearned (more : List Entry) (old new : TurnNow) : Type 0 where
  pub turn : new ≡ record old { entries = old.entries ++ more; history = new.history }
  pub history : HasGrown old.history new.history

-- An entry has the stamp that comes next: after this one, after that of one of the deck's own
-- entries, or after that of one of its volume's.
pub data ComesNext (last : ℕ) (own volume : List Entry) (entry : Entry) : Type 0 where
  AfterLast : IsNext last entry → ComesNext last own volume entry
  AfterOwn : FollowsOne own entry → ComesNext last own volume entry
  AfterVolume : FollowsOne volume entry → ComesNext last own volume entry

-- What events of a request on the volume of this number leave of the deck's turn there, and of the
-- deck's last stamp.
pub record HasTaken (volume line : ℕ) (request : Request) (done : Bool) (last last' : ℕ)
    (old new : TurnNow) : Type 0 where
  pub made : List Entry
  pub turn : HasLearned made old new
  pub stamped : IsStamped last made
  pub next : All (ComesNext last made new.history) made
  pub last_is : last' ≡ last_stamp last made
  pub answers : part_of_deck old.deck (map (with_volume volume) made)
      ≡ if_done done (bound_to volume line request)
  pub goes_on : MayGoOn done request new.entries
