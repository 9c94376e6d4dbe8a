use Rattle.std.proofs.Common.{◌∙◌, ap}
use Rattle.vr_history.specs.Replies as replies
use Rattle.vr_model_reply.proofs.replies.first_refusal.Goals as goal

pub returns : goal.returns
returns c =
    c.in_ok-first.ensures ∙ ap replies.first_of (c.deref.ensures.value ∙ c.in_ok-all.ensures)
