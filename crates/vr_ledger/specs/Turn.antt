-- What contracts see of a turn. It is this project's own.
use Rattle.std.specs.Prelude.{◌≡◌, ℕ, List, [], ◌∷◌}
use Rattle.atomic_table.specs.Seated.{TableId}
use Rattle.atomic_table.specs.declared.badge.Badge.{Badge}
use Rattle.vr_history.specs.declared.entry.Entry.{Entry}
use Rattle.vr_ledger.specs.declared.view.View.{View}
use Rattle.vr_ledger.specs.declared.view.View.TheVariants.{OfTurn}
use Rattle.vr_ledger.specs.Views.{part, known_in}

pub record TurnNow : Type 0 where
  pub deck : ℕ
  -- whose turn it is
  pub ledger : TableId
  -- what the deck knows of its own entries, in order
  pub entries : List Entry
  -- the volume's history as the deck last saw it
  pub history : List Entry

abbrev pub turn_now : ℕ → Badge View → TurnNow
turn_now deck badge =
    record {
      deck = deck;
      ledger = badge.table_id;
      entries = (known_in badge.views).entries;
      history = (known_in badge.views).history;
    }

-- the badge is that of a seat, which knows entries of the deck
abbrev pub IsTurn : ℕ → Badge View → Type 0
IsTurn deck badge = badge.views
    ≡ OfTurn (part deck (known_in badge.views).entries (known_in badge.views).history) ∷ []
