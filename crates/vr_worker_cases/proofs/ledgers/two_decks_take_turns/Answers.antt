use Rattle.std.proofs.Common.{◌++◌, ◌∷◌, [], ◌∙◌, sym, ap, arith, List}
use Rattle.std.proofs.lemmas.List.Elements.{All-cons, All-nil}
use Rattle.vr_history.specs.declared.entry.Entry.{Entry}
use Rattle.vr_history.specs.Merged.{last_stamp}
use Rattle.vr_history.proofs.CallerLemmas.{last_stamp-append}
use Rattle.vr_ledger.specs.Entries.{IsOf}
use Rattle.vr_ledger.specs.Ledger.{LedgerNow}
use Rattle.vr_ledger.specs.Turn.{TurnNow}
use Rattle.vr_worker_cases.proofs.ledgers.two_decks_take_turns.Goals as goal

pub push-requires-clause-rises : goal.push-requires-clause-rises
push-requires-clause-rises c =
    rw (c.reserve.ensures.entries, c.new-history.ensures) (omega (arith, c.entry.ensures.stamp))

pub record-requires-clause-more : goal.record-requires-clause-more
record-requires-clause-more c = let made = c.entry.result in (
  made ∷ [],
  c.push.ensures.entries ∙ ap (λ (entries : List Entry). entries ++ made ∷ []) (
      c.reserve.ensures.entries ∙ sym (
      ap (λ (now : LedgerNow). now.history) c.enter-other.ensures.ledger ∙ (
      ap (λ (now : LedgerNow). now.history) c.enter-one.ensures.ledger
      ∙ (c.in_ok-ledger.ensures.history ∙ c.reserve.ensures.entries)))),
  All-cons (IsOf c.enter-other.result.deck) made [] (
      c.entry.ensures.deck ∙ sym (ap (λ (turn : TurnNow). turn.deck) c.enter-other.ensures.turn)
      ) (All-nil (IsOf c.enter-other.result.deck)),
)

pub push-requires-2-clause-rises : goal.push-requires-2-clause-rises
push-requires-2-clause-rises c = omega (
  arith,
  ap (last_stamp 0) c.push.ensures.entries,
  last_stamp-append 0 c.reserve.new.self.entries c.entry.result,
  c.entry.ensures.stamp,
  c.entry-2.ensures.stamp,
)

pub record-requires-2-clause-more : goal.record-requires-2-clause-more
record-requires-2-clause-more c = let made = c.entry-2.result in (
  made ∷ [],
  c.push-2.ensures.entries ∙ ap (λ (entries : List Entry). entries ++ made ∷ [])
      (sym c.record.ensures.history),
  All-cons (IsOf c.enter-one.result.deck) made [] (
      c.entry-2.ensures.deck ∙ sym (ap (λ (turn : TurnNow). turn.deck) c.enter-one.ensures.turn)
      ) (All-nil (IsOf c.enter-one.result.deck)),
)
