-- What contracts see of a ledger. It is this project's own.
use Rattle.std.specs.Prelude.{ℕ, List}
use Rattle.atomic_table.specs.Seated.{TableId}
use Rattle.vr_history.specs.declared.entry.Entry.{Entry}
use Rattle.vr_ledger.specs.declared.seat.LedgerSeat.{LedgerSeat}
use Rattle.vr_ledger.specs.Seats.{whole_of, table_of}

pub record LedgerNow : Type 0 where
  -- which ledger it is
  pub table : TableId
  -- the entries of the volume, in order
  pub history : List Entry
  -- the decks whose turns are out
  pub out : List ℕ

abbrev pub ledger_now : LedgerSeat → LedgerNow
ledger_now it =
    record {
      table = table_of it;
      history = (whole_of it).history;
      out = (whole_of it).out;
    }
