use Rattle.std.proofs.Common.{◌≡◌, ℕ, ◌∙◌, ap}
use Rattle.vr_types.specs.declared.position.Position.{Position}
use Rattle.vr_model.specs.Endings as endings
use Rattle.vr_model_state.specs.Seen.{position_in, seen}
use Rattle.vr_model.proofs.Pointwise.{positions_unheld}
use Rattle.vr_model.proofs.endings.without_held.Goals as goal

pub returns : goal.returns
returns c =
    let items : c.in_ok-positions.positions.items ≡ endings.unheld_in c.args.deck
    c.args.state.positions.items =
    c.in_ok-positions.ensures
    ∙ ap (endings.unheld_in c.args.deck) c.deref.ensures.value in
    let old = seen c.args.state in
    ap (λ (positions : ℕ → ℕ → Position). record old { positions = positions })
    (ap position_in items ∙ positions_unheld c.args.deck c.args.state.positions.items)
