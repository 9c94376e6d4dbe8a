use Rattle.std.proofs.Common.{ℕ, ap, subst, sym, ◌∙◌}
use Rattle.vr_types.specs.Content.{record_at}
use Rattle.vr_types.specs.declared.reply.Refusal.{Refusal}
use Rattle.vr_types.specs.declared.reply.Reply.TheVariants as replies
use Rattle.vr_answer.specs.InHand.{whole}
use Rattle.vr_event.specs.Cause.{HasReplyCause}
use Rattle.vr_event.specs.Getting.{MayEnd}
use Rattle.vr_event.specs.declared.getting.Outcome.TheVariants.{Refused}
use Rattle.vr_event.proofs.Causes.{calm-in, cause-calm, cause-look, may-unless}
use Rattle.vr_event.proofs.Ended.{may-fail}
use Rattle.vr_event.proofs.getting.looked_at.Goals as goal

pub returns-in-Err-clause-ends : goal.returns-in-Err-clause-ends
returns-in-Err-clause-ends g c told volume state is stored read none sought =
    subst (λ (r : Refusal). MayEnd (whole c.args.case.now state) (Refused r))
    (sym c.refusal_of.ensures) (may-fail (whole c.args.case.now state) read none c.in-Err.no)

pub returns-in-Ok-clause-ends : goal.returns-in-Ok-clause-ends
returns-in-Ok-clause-ends g c told volume state is stored read none sought =
    may-unless (whole c.args.case.now state) read none c.answered.result c.unless_fault.result
    c.unless_fault.ensures.is
    (c.answered.ensures state is sought
    (c.in-Ok.ensures.found told volume state stored
    ∙ ap (λ (n : ℕ). record_at (state.contents n) c.args.place) c.requires.base) none read)

pub returns-in-Err-clause-cause : goal.returns-in-Err-clause-cause
returns-in-Err-clause-cause g c =
    record {
      reply = subst (λ (r : Refusal). HasReplyCause (g.B.Blocks.faults c.args.blocks.now)
          (g.B.Blocks.faults c.look.new.blocks) (replies.Refused r))
          (sym c.refusal_of.ensures) (cause-look _ _ c.in-Err.no c.in-Err.ensures.cause);
      calm = tt;
    }

pub returns-in-Ok-clause-cause : goal.returns-in-Ok-clause-cause
returns-in-Ok-clause-cause g c =
    record {
      reply = cause-calm _ _ _ c.in-Ok.ensures.cause.ok c.unless_fault.ensures.calm;
      calm = calm-in c.unless_fault.result c.unless_fault.ensures.calm;
    }
