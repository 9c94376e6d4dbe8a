use Rattle.std.proofs.Common.{◌≡◌, List, ◌∙◌, ap}
use Rattle.vr_types.specs.Position.{unheld}
use Rattle.vr_model_state.specs.Seen.{position_in, seen}
use Rattle.vr_model_state.specs.declared.state.FilePosition.{FilePosition}
use Rattle.vr_model.proofs.Pointwise.{position_moved}
use Rattle.vr_model.proofs.effects.holds_nothing.Goals as goal

pub returns : goal.returns
returns c =
    let was : c.in_ok-old.old ≡ position_in c.args.state.positions.items c.args.deck c.args.slot =
    c.in_ok-old.ensures
    ∙ ap (λ (files : List FilePosition). position_in files c.args.deck c.args.slot)
    c.deref.ensures.value in
    c.in_ok-with_file_at.ensures
    ∙ position_moved c.args.deck c.args.slot (unheld) _ (seen c.args.state) (ap (unheld) was)
