use Rattle.std.proofs.Common.{max, ap, ◌∙◌, take}
use Rattle.vr_trace.specs.Code.{deck_code, numbers_code, step_code}
use Rattle.vr_trace.proofs.Codes.{greatest-take}
use Rattle.vr_trace.proofs.code.step_code.Goals as goal

pub loop-deck-preserved : goal.loop-deck-preserved
loop-deck-preserved c =
    let histories = c.args.histories.now in
    let decks = c.as_slice-deck-items.result.now in
    c.max-code.ensures ∙ ap (λ code. max code c.deck_code.result) c.loop-deck.invariant
    ∙ ap (λ s. max (step_code histories (take c.loop-deck.deck-index decks)) s)
    (c.deck_code.ensures ∙ ap (λ all. numbers_code all c.deck-item.result.number)
    c.as_slice.ensures)
    ∙ greatest-take (deck_code histories) decks c.loop-deck.deck-index c.deck-item.result
    c.loop-deck-test.true c.deck-item.is
