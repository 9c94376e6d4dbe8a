use Rattle.std.proofs.Common.{◌≡◌, ◌↔◌, Bool, IsTrue, sym, subst}
use Rattle.vr_types.specs.declared.geometry.Geometry.{Geometry}
use Rattle.vr_types.specs.declared.reply.Reply.{Reply}
use Rattle.vr_types.specs.declared.request.Request.{Request}
use Rattle.vr_types.specs.declared.unit.Unit.{Unit as UnitOfRecovery}
use Rattle.vr_history.specs.declared.entry.What.{What}
use Rattle.vr_history.specs.declared.entry.What.TheVariants.{Asked}
use Rattle.vr_history.specs.Replies.{MayReply}
use Rattle.vr_history.specs.State.{State}
use Rattle.vr_history.specs.Step.{IsOfUnit, MayEnter, case_of}
use Rattle.vr_model_state.specs.Seen.{seen}
use Rattle.vr_model.proofs.machine.may_enter.Goals as goal

-- a request of its unit with a reply that it may have is what may enter
entered : (geometry : Geometry) (state : State) (unit : UnitOfRecovery) (what : What)
    (request : Request) (reply : Reply) (test : Bool) → what ≡ Asked request reply
    → IsTrue test ↔ (IsOfUnit state unit × MayReply (case_of geometry state unit request) reply)
    → IsTrue test ↔ MayEnter geometry state unit what
entered geometry state unit what request reply test is may =
    subst (λ (entry : What). IsTrue test ↔ MayEnter geometry state unit entry) (sym is) may

pub returns-in_ok-may_share-in-Asked : goal.returns-in_ok-may_share-in-Asked
returns-in_ok-may_share-in-Asked c =
    entered c.args.state.now.shape (seen c.args.state.now) c.args.entry.now.unit
    c.args.entry.now.what _ _ c.in_ok-may_share-in-Asked.field-0 c.in-Asked.is
    c.in_ok-may_share-in-Asked.ensures
