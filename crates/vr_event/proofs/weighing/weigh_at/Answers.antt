use Rattle.std.proofs.Common.{sym, subst, ◌∙◌}
use Rattle.vr_types.proofs.CallerLemmas.{keeps-then}
use Rattle.vr_types.specs.Image.{Image}
use Rattle.vr_types.specs.declared.reply.Refusal.{Refusal}
use Rattle.vr_answer.specs.InHand.{whole}
use Rattle.vr_event.specs.Lacking.{IfLacks, IfNoSpace, LacksRoomIn}
use Rattle.vr_event.specs.Putting.{IsSpaceOf, MayRefuse}
use Rattle.vr_store.specs.Store.{StoreNow}
use Rattle.vr_event.proofs.Lacks.{look-else}
use Rattle.vr_event.proofs.Weighs.{refuse-look}
use Rattle.vr_event.proofs.WeighsAt.{looked-at}
use Rattle.vr_event.proofs.weighing.weigh_at.Goals as goal

pub weigh_looked-requires-clause-stands : goal.weigh_looked-requires-clause-stands
weigh_looked-requires-clause-stands g c told =
    let stands = c.requires.stands told in
    record {
      number = stands.number;
      state = stands.state;
      stored = c.look.ensures.stored told stands.number stands.state stands.stored;
    }

pub returns-in-Err-clause-may : goal.returns-in-Err-clause-may
returns-in-Err-clause-may g c told volume state is stored space asked =
    let w = whole c.args.case.now state in
    subst (λ (r : Refusal). MayRefuse w r) (sym c.refusal_of.ensures)
    (refuse-look w c.requires.change c.in-Err.no)

pub returns-in-Ok-clause-may : goal.returns-in-Ok-clause-may
returns-in-Ok-clause-may g c told volume state is stored space asked =
    let w = whole c.args.case.now state in
    c.weigh_looked.ensures.may told volume state is
    (c.in-Ok.ensures.found told volume state stored
    ∙ sym (looked-at w c.args.part.0 c.args.place asked))
    (c.look.ensures.stored told volume state stored)
    (subst (λ (s : StoreNow). IsSpaceOf s c.args.part.0 w) (sym c.look.ensures.same) space) asked

pub returns-in-Ok-clause-stored : goal.returns-in-Ok-clause-stored
returns-in-Ok-clause-stored g c told volume state stored =
    c.weigh_looked.ensures.stored told volume state
    (c.look.ensures.stored told volume state stored)

pub returns-in-Ok-clause-keeps : goal.returns-in-Ok-clause-keeps
returns-in-Ok-clause-keeps g c =
    keeps-then g.B.Blocks.tells (g.B.Blocks.seen c.args.blocks.now)
    (g.B.Blocks.seen c.look.new.blocks) (g.B.Blocks.seen c.weigh_looked.new.blocks)
    c.look.ensures.keeps c.weigh_looked.ensures.keeps

pub returns-in-Err-clause-lacks : goal.returns-in-Err-clause-lacks
returns-in-Err-clause-lacks g c told volume state is stored space asked none =
    let fact = LacksRoomIn c.args.store.now (g.B.Blocks.seen c.args.blocks.now).cur c.args.part.0
    c.args.place c.args.case.now.request.now in
    subst (λ (r : Refusal). IfNoSpace fact r) (sym c.refusal_of.ensures)
    (look-else fact c.in-Err.no)

pub returns-in-Ok-clause-lacks : goal.returns-in-Ok-clause-lacks
returns-in-Ok-clause-lacks g c told volume state is stored space asked none =
    let w = whole c.args.case.now state in
    let request = c.args.case.now.request.now in
    subst (λ (s : StoreNow). IfLacks (LacksRoomIn s (g.B.Blocks.seen c.args.blocks.now).cur
    c.args.part.0 c.args.place request) c.weigh_looked.result) c.look.ensures.same
    (subst (λ (image : Image). IfLacks (LacksRoomIn c.look.new.self image c.args.part.0 c.args.place
    request) c.weigh_looked.result) (c.look.ensures.keeps.content told)
    (c.weigh_looked.ensures.lacks told volume state is
    (c.in-Ok.ensures.found told volume state stored
    ∙ sym (looked-at w c.args.part.0 c.args.place asked))
    (c.look.ensures.stored told volume state stored)
    (subst (λ (s : StoreNow). IsSpaceOf s c.args.part.0 w) (sym c.look.ensures.same) space) asked
    none))
