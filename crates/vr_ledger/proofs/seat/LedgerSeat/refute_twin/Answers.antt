use Rattle.std.proofs.Common.{arith, ◌∙◌}
use Rattle.vr_ledger.proofs.Steps.{meets}
use Rattle.vr_ledger.proofs.seat.LedgerSeat.refute_twin.Goals as goal

pub join_seat-requires : goal.join_seat-requires
join_seat-requires c =
    let it = c.args.self.now in let twin = c.args.twin in (
      it.of_table,
      c.requires.same ∙ it.of_table,
      twin.no_slot,
      omega (arith, it.one_word),
      meets it.seat.id twin.seat.id it.seat.me.0 twin.seat.me.0 it.knows_whole twin.knows_whole,
    )
