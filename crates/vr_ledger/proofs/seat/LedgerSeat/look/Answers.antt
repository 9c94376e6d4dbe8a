use Rattle.std.proofs.Common.{arith}
use Rattle.vr_ledger.proofs.Steps.{looks}
use Rattle.vr_ledger.proofs.seat.LedgerSeat.look.Goals as goal

pub load-requires : goal.load-requires
load-requires c = let it = c.args.self.now in (
  it.of_table,
  omega (arith, it.one_word),
  looks _ it.seat.id it.entries it.seat.me.0 it.seat.me.1 it.knows_whole it.counted,
)
