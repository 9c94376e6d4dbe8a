use Rattle.std.proofs.Common.{sym, ◌∙◌}
use Rattle.vr_job_text.proofs.Cards.{rest_whole, card_is_named}
use Rattle.vr_job_text.proofs.card.card_of.Goals as goal

pub returns-else-is_nothing : goal.returns-else-is_nothing
returns-else-is_nothing c =
    card_is_named c.args.line.now _ _ (rest_whole c.args.line.now)
    (sym c.is_nothing.ensures ∙ c.if-is_nothing.false) c.named_card.ensures
