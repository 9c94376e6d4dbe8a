use Rattle.std.proofs.Common.{Option, List, ℕ, Bor, ap, sym, ◌∙◌}
use Rattle.std.specs.Option.{option_copied}
use Rattle.vr_answer.specs.InHand.{whole}
use Rattle.vr_event.specs.Lacking.{LacksRoomIn}
use Rattle.vr_event.proofs.Lacks.{lacking, lacks-any, long-some}
use Rattle.vr_event.proofs.Weighs.{refuse-space}
use Rattle.vr_event.proofs.weighing.crowded.Goals as goal

pub returns-in-Some-clause-may : goal.returns-in-Some-clause-may
returns-in-Some-clause-may c state is at lacks ready =
    refuse-space (whole c.args.case.now state) ready.unheld c.args.need c.args.free
    c.in-Some.given.now
    (sym c.new_record.ensures
    ∙ ap (λ (o : Option (Bor (List ℕ))). option_copied o) c.in-Some.is) lacks

pub returns-in-Some-clause-lacks : goal.returns-in-Some-clause-lacks
returns-in-Some-clause-lacks c store image part n laid room long =
    let given = sym c.new_record.ensures
    ∙ ap (λ (o : Option (Bor (List ℕ))). option_copied o) c.in-Some.is in
    lacking store image part c.args.place n c.args.need c.args.free laid room
    c.args.case.now.request.now c.in-Some.given.now given
    (long-some c.args.case.now.request.now n c.in-Some.given.now given long)

pub returns-then-is_erase-clause-lacks : goal.returns-then-is_erase-clause-lacks
returns-then-is_erase-clause-lacks c store image part n laid room long =
    lacks-any (LacksRoomIn store image part c.args.place c.args.case.now.request.now) c.ready.result
    c.ready.ensures.lacks
