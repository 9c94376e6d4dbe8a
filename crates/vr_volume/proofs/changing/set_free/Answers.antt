use Rattle.vr_volume.proofs.Calls.{free-safe, part-after, part-guards, quiet-safe}
use Rattle.vr_volume.proofs.changing.set_free.Goals as goal
use Rattle.std.proofs.Common.{⊎_elim}
use Rattle.vr_space.specs.Part.{Just, given, item_of, left_by, part_no}

pub returns-clause-safe : goal.returns-clause-safe
returns-clause-safe g c told geometry number owners log committed safe laid free =
    let B = g.B.Blocks in
    let shape = g.P.Part.shape c.args.part.now in
    let part = (part_no shape).0 in
    let kept = g.K.Kept.kept c.args.kept.now (part_no shape) in
    let a = B.seen c.args.blocks.now in
    let b = B.seen c.set.new.blocks in
    let new = left_by shape (item_of shape a.cur c.args.place.now) (given c.args.bytes) in
    let A = Just c.args.place.now new in
    let added = free-safe geometry log committed part shape c.args.place.now new free in
    let left = g.met.B.Blocks.cur_may c.args.blocks.now told in
    let rests = quiet-safe geometry number owners log committed part shape kept a safe left laid
    (c.requires.rests told) in
    let adds = c.set.ensures.adds told owners rests in
    let rooms = c.set.ensures.rooms told owners rests in (
      part-guards geometry number owners log committed part shape kept A a b safe laid added
          adds rooms left (c.set.ensures.room told),
      part-after geometry number owners log committed part shape kept A a b safe laid added
          adds rooms left (c.set.ensures.room told),
    )

-- off the place, by whichever owners the part rests
pub returns-clause-elsewhere : goal.returns-clause-elsewhere
returns-clause-elsewhere g c told place found apart held =
    let own = c.requires.rests told in
    ⊎_elim (λ was. was) (λ just. absurd (apart just.0))
    ((c.set.ensures.adds told own.0 own.1).rest place found held)
