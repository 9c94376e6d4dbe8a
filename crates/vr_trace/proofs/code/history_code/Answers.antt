use Rattle.std.proofs.Common.{max, ap, ◌∙◌, take}
use Rattle.vr_trace.specs.Code.{entry_code, history_code}
use Rattle.vr_trace.proofs.Codes.{greatest-take}
use Rattle.vr_trace.proofs.code.history_code.Goals as goal

pub loop-entry-preserved : goal.loop-entry-preserved
loop-entry-preserved c =
    c.max-code.ensures ∙ ap (λ code. max code c.entry_code.result) c.loop-entry.invariant
    ∙ ap (λ s. max (history_code c.args.deck (take c.loop-entry.entry-index c.args.entries.now)) s)
    c.entry_code.ensures
    ∙ greatest-take (entry_code c.args.deck) c.args.entries.now c.loop-entry.entry-index
    c.entry-item.result c.loop-entry-test.true c.entry-item.is
