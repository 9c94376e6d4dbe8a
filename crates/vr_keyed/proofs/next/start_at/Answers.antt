use Rattle.vr_space.specs.Keyed.{entries_of}
use Rattle.vr_keyed.proofs.Nexting.{position-most}
use Rattle.vr_keyed.proofs.next.start_at.Goals as goal

pub returns : goal.returns
returns c = λ head other i most is.
    position-most c.args.place.now other (entries_of c.args.top.now) c.in-Some.found.number i most
    (c.in-Some.ensures.found head).first is
