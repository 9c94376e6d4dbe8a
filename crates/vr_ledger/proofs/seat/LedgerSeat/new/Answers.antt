use Rattle.std.proofs.Common.{ap, List, length}
use Rattle.vr_history.specs.declared.entry.Entry.{Entry}
use Rattle.vr_ledger.proofs.Steps.{opens}
use Rattle.vr_ledger.proofs.seat.LedgerSeat.new.Goals as goal

pub of_words-requires : goal.of_words-requires
of_words-requires c = opens c.args.history.now.entries _
    (ap (λ (entries : List Entry). length entries) c.entries.ensures.value)
