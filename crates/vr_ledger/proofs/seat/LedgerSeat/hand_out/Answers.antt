use Rattle.std.proofs.Common.{arith}
use Rattle.vr_ledger.proofs.Steps.{splits}
use Rattle.vr_ledger.proofs.seat.LedgerSeat.hand_out.Goals as goal

pub split_seat-requires : goal.split_seat-requires
split_seat-requires c = let it = c.args.self.now in (
  it.of_table,
  omega (arith, it.one_word),
  splits it.seat.id it.seat.me.0 it.knows_whole c.requires.in_turn,
)
