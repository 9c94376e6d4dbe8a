use Rattle.vr_undo.proofs.Finding.{longest-found}
use Rattle.vr_undo.proofs.kept.longest_in.Goals as goal

pub returns : goal.returns
returns c =
    longest-found c.args.part.0 c.args.place.now c.args.records.now c.args.order.now
    c.at_place.result.now c.longest_of.result c.requires.order c.at_place.ensures.numbers
    c.at_place.ensures.all c.longest_of.ensures
