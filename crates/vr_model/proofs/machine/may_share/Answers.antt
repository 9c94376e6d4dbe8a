use Rattle.std.proofs.Common.{◌↔◌, IsTrue, subst}
use Rattle.vr_types.specs.declared.request.Request.{Request}
use Rattle.vr_history.specs.Replies.{MayReply}
use Rattle.vr_history.specs.Step.{IsOfUnit}
use Rattle.vr_model_state.specs.Seen.{case_in, seen}
use Rattle.vr_model.proofs.machine.may_share.Goals as goal

pub returns : goal.returns
returns c =
    subst (λ (request : Request). IsTrue c.in_ok-may.may ↔
    (IsOfUnit (seen c.args.state.now) c.args.unit
    × MayReply (case_in c.args.state.now c.args.unit request) c.args.reply.now)) c.get.ensures
    c.in_ok-may.ensures
