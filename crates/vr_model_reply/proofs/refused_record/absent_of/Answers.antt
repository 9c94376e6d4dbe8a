use Rattle.std.proofs.Common.{◌≡◌, ◌∙◌, ap}
use Rattle.vr_history.specs.RefusedRecord as refusals
use Rattle.vr_model_reply.proofs.refused_record.absent_of.Goals as goal

pub returns : goal.returns
returns c =
    c.absent_for.ensures
    ∙ ap (λ opened. refusals.absent_for opened c.args.find.now) c.in_ok-opened.ensures
