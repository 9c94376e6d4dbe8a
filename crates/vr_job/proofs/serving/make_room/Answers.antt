use Rattle.std.proofs.Common.{refl}
use Rattle.vr_job.proofs.GoingOn.{stays-room, stays-then}
use Rattle.vr_job.proofs.serving.make_room.Goals as goal

pub returns-clause-stays : goal.returns-clause-stays
returns-clause-stays g c =
    let B = g.B.Blocks in
    let old = c.args.volume.now in
    let mid = c.enter.new.volume in
    let new = c.reserve.new.self in
    stays-then B.tells B.seen B.faults old mid new c.enter.ensures.stays
    (stays-room B.seen mid new mid.file.numbers new.file.room new.file.files_room
    c.reserve.ensures.same B.tells B.faults refl c.reserve.ensures.whole c.reserve.ensures.held
    c.enter.ensures.stays.serving)
