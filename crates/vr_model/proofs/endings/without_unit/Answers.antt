use Rattle.std.proofs.Common.{◌∙◌, ap}
use Rattle.vr_model.specs.Endings as endings
use Rattle.vr_model.proofs.endings.without_unit.Goals as goal

pub returns : goal.returns
returns c =
    c.in_ok-with_next.ensures
    ∙ ap (endings.with_next c.args.unit.deck)
    (c.in_ok-unheld.ensures ∙ ap (endings.without_held c.args.unit.deck) c.in_ok-unlisted.ensures)
