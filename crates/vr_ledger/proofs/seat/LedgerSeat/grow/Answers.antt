use Rattle.std.proofs.Common.{ap, ◌∙◌, sym, length, List, arith}
use Rattle.vr_history.specs.Kept.{Kept}
use Rattle.vr_history.specs.declared.entry.Entry.{Entry}
use Rattle.vr_ledger.proofs.Steps.{grows}
use Rattle.vr_ledger.proofs.seat.LedgerSeat.grow.Goals as goal

pub compare_exchange_with-requires : goal.compare_exchange_with-requires
compare_exchange_with-requires c =
    let it = c.args.self.now in let made = c.requires.more in let said = c.of.ensures in
    let same = ap (λ (history : Kept). history.entries) said in (
      it.of_table,
      omega (arith, it.one_word),
      grows _ it.seat.id it.entries it.seat.me.0 it.seat.me.1 it.knows_whole it.counted c.of.result
          made.0 _ c.requires.in_turn (same ∙ made.1) made.2
          (ap (λ (entries : List Entry). length entries) (c.entries.ensures.value ∙ sym same)),
    )
