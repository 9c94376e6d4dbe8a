use Rattle.vr_job.proofs.GoingOn.{stays-serving}
use Rattle.vr_job.proofs.serving.enter.Goals as goal

pub returns-clause-stays : goal.returns-clause-stays
returns-clause-stays g c =
    let old = c.args.volume.now in
    let new = c.enter_deck.new.self in
    stays-serving g.B.Blocks.seen old new new.file.numbers old.file.room old.file.files_room
    c.enter_deck.ensures.same g.B.Blocks.tells g.B.Blocks.faults c.enter_deck.ensures.whole
    c.enter_deck.ensures.held c.enter_deck.ensures.others c.enter_deck.ensures.numbers c.requires
