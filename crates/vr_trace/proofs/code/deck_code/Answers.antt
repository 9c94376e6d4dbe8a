use Rattle.std.proofs.Common.{max, ap, sym, ◌∙◌, take, arith}
use Rattle.std.proofs.lemmas.List.{take_all}
use Rattle.vr_history.specs.Kept.{Kept}
use Rattle.vr_trace.specs.Code.{greatest, history_code}
use Rattle.vr_trace.proofs.Codes.{greatest-map, greatest-take}
use Rattle.vr_trace.proofs.code.deck_code.Goals as goal

pub loop-history-preserved : goal.loop-history-preserved
loop-history-preserved c =
    let deck = c.args.deck in let before = take c.loop-history.history-index c.args.histories.now in
    c.max-code.ensures ∙ ap (λ code. max code c.history_code.result) c.loop-history.invariant
    ∙ ap (λ s. max (greatest (λ (kept : Kept). history_code deck kept.entries) before) s)
    (c.history_code.ensures ∙ ap (history_code deck) c.entries.ensures.value)
    ∙ greatest-take (λ (kept : Kept). history_code deck kept.entries) c.args.histories.now
    c.loop-history.history-index c.history-item.result c.loop-history-test.true c.history-item.is

pub returns : goal.returns
returns c =
    let deck = c.args.deck in
    c.loop-history.invariant
    ∙ ap (greatest (λ (kept : Kept). history_code deck kept.entries))
    (take_all c.loop-history.history-index c.args.histories.now (omega arith))
    ∙ sym (greatest-map (history_code deck) (λ (kept : Kept). kept.entries) c.args.histories.now)
