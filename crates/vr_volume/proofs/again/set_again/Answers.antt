use Rattle.std.proofs.Common.{subst}
use Rattle.vr_space.specs.Part.{HasKeptRoom, HasRoom, given, part_no}
use Rattle.vr_space.specs.Room.{Lengths}
use Rattle.vr_volume.specs.Committed.{committed_by}
use Rattle.vr_space.proofs.CallerLemmas.{due-stays, rest-sound}
use Rattle.vr_volume.proofs.KeptAgain.{place-again, volume-kept-again}
use Rattle.vr_volume.proofs.Rested.{free-again, laid-again, other-stays, part-put}
use Rattle.vr_volume.proofs.Rested.{place-some, stands-part, stays-apart, volume-next-change}
use Rattle.vr_volume.proofs.Rested.{volume-put-back}
use Rattle.vr_volume.proofs.Undoing.{put-some}
use Rattle.vr_volume.proofs.again.set_again.Goals as goal

pub returns-clause-any_moment : goal.returns-clause-any_moment
returns-clause-any_moment g c told number owners old images rest part some room =
    let log = c.args.log.now in
    let shape = g.P.Part.shape c.args.part.now in
    let a = g.B.Blocks.seen c.args.blocks.now in
    (c.set_free.ensures.safe told log.geometry number owners log (committed_by old) rest.safe
    (laid-again log.geometry number owners log images old a rest shape
    (g.P.Part.known c.args.part.now) c.args.place.now part some
    (g.K.Kept.kept c.args.kept.now (part_no shape)) room)
    (free-again log.geometry number owners log images old a rest (part_no shape).0 c.args.place.now
    some)).0

pub returns-in_err-set_free-clause-any_moment : goal.returns-in_err-set_free-clause-any_moment
returns-in_err-set_free-clause-any_moment g c told number owners old images rest part some room =
    let log = c.args.log.now in
    let shape = g.P.Part.shape c.args.part.now in
    let a = g.B.Blocks.seen c.args.blocks.now in
    (c.set_free.ensures.safe told log.geometry number owners log (committed_by old) rest.safe
    (laid-again log.geometry number owners log images old a rest shape
    (g.P.Part.known c.args.part.now) c.args.place.now part some
    (g.K.Kept.kept c.args.kept.now (part_no shape)) room)
    (free-again log.geometry number owners log images old a rest (part_no shape).0 c.args.place.now
    some)).0

pub returns-clause-next : goal.returns-clause-next
returns-clause-next g c told number owners old new change images rest part of made given-for room =
    let log = c.args.log.now in
    let shape = g.P.Part.shape c.args.part.now in
    let known = g.P.Part.known c.args.part.now in
    let place = c.args.place.now in
    let found = given c.args.bytes in
    let a = g.B.Blocks.seen c.args.blocks.now in
    let d = g.B.Blocks.seen c.set_free.new.blocks in
    let some = place-some log.geometry number owners log images old a rest change shape place found
    given-for made.kept in
    let stands = stands-part log shape owners
    (HasRoom shape (g.K.Kept.kept c.args.kept.now (part_no shape))) a d rest.forced rest.stands
    rest.safe.past (c.set_free.ensures.touches told owners part.rests) in
    let safe = (c.set_free.ensures.safe told log.geometry number owners log (committed_by old)
    rest.safe
    (laid-again log.geometry number owners log images old a rest shape known place part some
    (g.K.Kept.kept c.args.kept.now (part_no shape)) room)
    (free-again log.geometry number owners log images old a rest (part_no shape).0 place some)).1
    in (
      volume-next-change log.geometry number owners log images old a rest new change d of stands
          safe made,
      part-put log.geometry number owners log images old a rest new change d of stands safe shape
          known (g.P.Part.known c.set_free.new.part) place found made.contents part some
          (c.set_free.ensures.elsewhere told) given-for
          c.set_free.ensures.count c.set_free.ensures.size (c.in_ok-set_free.ensures.rests told
          owners part.rests) (subst (λ (lengths : Lengths). HasKeptRoom shape lengths d) room
          (c.set_free.ensures.room told))
          (c.in_ok-set_free.ensures.knows told) c.set_free.ensures.moves
          (c.in_ok-set_free.ensures.set told),
    )

pub returns-clause-back : goal.returns-clause-back
returns-clause-back g c told number owners old new change images rest part of made given-for room =
    let log = c.args.log.now in
    let shape = g.P.Part.shape c.args.part.now in
    let known = g.P.Part.known c.args.part.now in
    let place = c.args.place.now in
    let found = given c.args.bytes in
    let a = g.B.Blocks.seen c.args.blocks.now in
    let d = g.B.Blocks.seen c.set_free.new.blocks in
    let some = place-some log.geometry number owners log images old a rest change shape place found
    given-for (put-some log.geometry log old new change rest.laid rest.logged of made) in
    let stands = stands-part log shape owners
    (HasRoom shape (g.K.Kept.kept c.args.kept.now (part_no shape))) a d rest.forced rest.stands
    rest.safe.past (c.set_free.ensures.touches told owners part.rests) in
    let safe = (c.set_free.ensures.safe told log.geometry number owners log (committed_by old)
    rest.safe
    (laid-again log.geometry number owners log images old a rest shape known place part some
    (g.K.Kept.kept c.args.kept.now (part_no shape)) room)
    (free-again log.geometry number owners log images old a rest (part_no shape).0 place some)).1
    in (
      volume-put-back log.geometry number owners log images old a rest new change d of stands safe
          made,
      part-put log.geometry number owners log images old a rest new change d of stands safe shape
          known (g.P.Part.known c.set_free.new.part) place found made.contents part some
          (c.set_free.ensures.elsewhere told) given-for
          c.set_free.ensures.count c.set_free.ensures.size (c.in_ok-set_free.ensures.rests told
          owners part.rests) (subst (λ (lengths : Lengths). HasKeptRoom shape lengths d) room
          (c.set_free.ensures.room told))
          (c.in_ok-set_free.ensures.knows told) c.set_free.ensures.moves
          (c.in_ok-set_free.ensures.set told),
    )

pub returns-clause-others : goal.returns-clause-others
returns-clause-others g c told number owners old new change images other known rest part of put at
    apart others =
    let log = c.args.log.now in
    let shape = g.P.Part.shape c.args.part.now in
    let a = g.B.Blocks.seen c.args.blocks.now in
    let d = g.B.Blocks.seen c.set_free.new.blocks in
    other-stays log.geometry number owners log images old a rest new change d of shape other
    (HasRoom shape (g.K.Kept.kept c.args.kept.now (part_no shape))) (g.P.Part.known c.args.part.now)
    known put part at apart (c.set_free.ensures.touches told owners part.rests)
    (g.met.B.Blocks.cur_may c.args.blocks.now told) others

pub returns-clause-again : goal.returns-clause-again
returns-clause-again g c told number owners old new change images rest part of made given-for room =
    let log = c.args.log.now in
    let shape = g.P.Part.shape c.args.part.now in
    let known = g.P.Part.known c.args.part.now in
    let place = c.args.place.now in
    let found = given c.args.bytes in
    let a = g.B.Blocks.seen c.args.blocks.now in
    let d = g.B.Blocks.seen c.set_free.new.blocks in
    let some = place-again log.geometry number owners log images old a rest new change made shape
    place found given-for in
    let stands = stands-part log shape owners
    (HasRoom shape (g.K.Kept.kept c.args.kept.now (part_no shape))) a d rest.forced rest.stands
    rest.safe.past (c.set_free.ensures.touches told owners part.rests) in
    let safe = (c.set_free.ensures.safe told log.geometry number owners log (committed_by old)
    rest.safe
    (laid-again log.geometry number owners log images old a rest shape known place part some
    (g.K.Kept.kept c.args.kept.now (part_no shape)) room)
    (free-again log.geometry number owners log images old a rest (part_no shape).0 place some)).1
    in (
      volume-kept-again log.geometry number owners log images old a rest new change made d of
          stands safe,
      part-put log.geometry number owners log images old a rest new change d of stands safe shape
          known (g.P.Part.known c.set_free.new.part) place found made.contents part some
          (c.set_free.ensures.elsewhere told) given-for
          c.set_free.ensures.count c.set_free.ensures.size (c.in_ok-set_free.ensures.rests told
          owners part.rests) (subst (λ (lengths : Lengths). HasKeptRoom shape lengths d) room
          (c.set_free.ensures.room told))
          (c.in_ok-set_free.ensures.knows told) c.set_free.ensures.moves
          (c.in_ok-set_free.ensures.set told),
    )

pub returns-clause-others_due : goal.returns-clause-others_due
returns-clause-others_due g c told number owners images state other known rest part apart others =
    let B = g.B.Blocks in
    let shape = g.P.Part.shape c.args.part.now in
    let kept = g.K.Kept.kept c.args.kept.now (part_no shape) in
    let a = B.seen c.args.blocks.now in
    let d = B.seen c.set_free.new.blocks in
    due-stays other owners a d (stays-apart shape other owners (HasRoom shape kept) a d apart
    (c.set_free.ensures.touches told owners part.rests))
    (rest-sound other owners a others.rests) (g.met.B.Blocks.cur_may c.args.blocks.now told)
