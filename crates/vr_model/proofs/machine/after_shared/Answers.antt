use Rattle.std.proofs.Common.{◌∙◌, ap}
use Rattle.vr_types.specs.declared.request.Request.{Request}
use Rattle.vr_history.specs.Step.{after_asked}
use Rattle.vr_model_state.specs.Seen.{case_in}
use Rattle.vr_model.proofs.machine.after_shared.Goals as goal

pub returns : goal.returns
returns c =
    c.in_ok-new.ensures
    ∙ ap (λ (request : Request).
    after_asked (case_in c.args.state.now c.args.unit request) c.args.reply.now) c.get.ensures
