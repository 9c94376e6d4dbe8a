use Rattle.std.proofs.Common.{refl, subst}
use Rattle.vr_types.proofs.CallerLemmas.{keeps-none}
use Rattle.vr_keyed.specs.declared.slots.Slots.{Slots}
use Rattle.vr_keyed.specs.Slots.{LeavesMet, MeetsAt, mets}
use Rattle.vr_keyed.proofs.Meeting.{leaves-among, recalled}
use Rattle.vr_keyed.proofs.meet.meet.Goals as goal

pub returns-then-recall-clause-keeps : goal.returns-then-recall-clause-keeps
returns-then-recall-clause-keeps g c =
    keeps-none g.B.Blocks.tells (g.B.Blocks.seen c.args.blocks.now)
    (λ told image left. g.met.B.Blocks.images_may c.args.blocks.now image told left)

pub returns-then-recall-clause-room : goal.returns-then-recall-clause-room
returns-then-recall-clause-room g c =
    c.if-recall.ensures.room c.args.layout.now c.requires.room

pub returns-then-recall-clause-meets : goal.returns-then-recall-clause-meets
returns-then-recall-clause-meets g c =
    let is = c.if-recall.ensures in
    recalled c.args.layout.now g.B.Blocks.tells (g.B.Blocks.seen c.args.blocks.now).cur
    c.args.place.now c.args.slots.now c.recall.new.slots (is.found refl) is.kept is.among is.filled
    is.most c.requires.inside c.requires.met

pub returns-then-recall-clause-leaves : goal.returns-then-recall-clause-leaves
returns-then-recall-clause-leaves g c =
    leaves-among c.args.layout.now g.B.Blocks.tells (g.B.Blocks.seen c.args.blocks.now).cur
    c.args.place.now (mets c.args.slots.now) (mets c.recall.new.slots) c.if-recall.ensures.among
