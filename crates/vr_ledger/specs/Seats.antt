-- What the ledger's own seat knows, and which table it is at.
use Rattle.atomic_table.specs.Seated.{TableId}
use Rattle.vr_ledger.specs.declared.view.Whole.{Whole}
use Rattle.vr_ledger.specs.declared.seat.LedgerSeat.{LedgerSeat}
use Rattle.vr_ledger.specs.Views.{whole_in}

abbrev pub whole_of : LedgerSeat → Whole
whole_of it = whole_in it.seat.me.0

abbrev pub table_of : LedgerSeat → TableId
table_of it = it.seat.table_id
