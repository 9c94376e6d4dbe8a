use Rattle.std.proofs.Common.{max, ap, ◌∙◌, take}
use Rattle.vr_trace.specs.Code.{decks_code, greatest}
use Rattle.vr_trace.proofs.Codes.{greatest-take}
use Rattle.vr_trace.proofs.code.steps_code.Goals as goal

pub loop-step-preserved : goal.loop-step-preserved
loop-step-preserved c =
    let code = decks_code c.args.histories.now in
    let steps = c.args.steps.now in
    c.max-code.ensures ∙ ap (λ most. max most c.decks_code.result) c.loop-step.invariant
    ∙ ap (λ s. max (greatest code (take c.loop-step.step-index steps)) s) c.decks_code.ensures
    ∙ greatest-take code steps c.loop-step.step-index c.step-item.result c.loop-step-test.true
    c.step-item.is
