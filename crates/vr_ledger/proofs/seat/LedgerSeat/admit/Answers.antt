use Rattle.std.proofs.Common.{arith}
use Rattle.vr_ledger.proofs.Steps.{admits}
use Rattle.vr_ledger.proofs.seat.LedgerSeat.admit.Goals as goal

pub compare_exchange_with-requires : goal.compare_exchange_with-requires
compare_exchange_with-requires c = let it = c.args.self.now in (
  it.of_table,
  omega (arith, it.one_word),
  admits _ it.seat.id it.entries it.seat.me.0 it.seat.me.1 it.knows_whole it.counted c.args.deck
      c.requires.free,
)
