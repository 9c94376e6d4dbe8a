use Rattle.std.proofs.Common.{All, sym, subst}
use Rattle.vr_types.specs.Image.{Image}
use Rattle.vr_space.specs.Part.{given}
use Rattle.vr_space.specs.Numbered.{IsIntervalMet}
use Rattle.vr_chained.specs.Met.{mets_in}
use Rattle.vr_chained.specs.Setting.{put_of}
use Rattle.vr_chained.proofs.Meeting.{if-ok-more, on-ok-more}
use Rattle.vr_chained.proofs.Setting.{done-then, may-keeps, may-then, ready-keeps}
use Rattle.vr_chained.proofs.set.set_in.Goals as goal

pub put_set-requires-clause-met : goal.put_set-requires-clause-met
put_set-requires-clause-met g c told =
    subst (λ (image : Image). All (IsIntervalMet c.args.chain.now.part image)
    (mets_in c.meet.new.mets)) (sym (c.meet.ensures.keeps.content told))
    (c.meet.ensures.met told)

pub returns-in_err-meet-clause-may : goal.returns-in_err-meet-clause-may
returns-in_err-meet-clause-may g c told kept known ready =
    let B = g.B.Blocks in
    let part = c.args.chain.now.part in
    let place = c.args.place.now in
    let item = given c.args.bytes in
    let a = B.seen c.args.blocks.now in
    let m = B.seen c.meet.new.blocks in
    may-keeps part kept known place item B.tells told a m c.meet.ensures.keeps ready

pub returns-clause-may : goal.returns-clause-may
returns-clause-may g c told kept known ready =
    let B = g.B.Blocks in
    let part = c.args.chain.now.part in
    let place = c.args.place.now in
    let item = given c.args.bytes in
    let a = B.seen c.args.blocks.now in
    let m = B.seen c.meet.new.blocks in
    may-then part kept known place item B.tells told a m c.meet.ensures.keeps ready
    (B.seen c.put_set.new.blocks)
    (c.put_set.ensures.may told kept known
    (ready-keeps part kept known place item B.tells told a m c.meet.ensures.keeps ready))

pub returns-clause-done : goal.returns-clause-done
returns-clause-done g c told =
    let B = g.B.Blocks in
    let part = c.args.chain.now.part in
    let place = c.args.place.now in
    let item = given c.args.bytes in
    let a = B.seen c.args.blocks.now in
    let m = B.seen c.meet.new.blocks in
    if-ok-more c.put_set.result _ _
    (λ put done kept known ready.
    done-then part kept known place item B.tells told a m c.meet.ensures.keeps ready
    (B.seen c.put_set.new.blocks) (put_of put)
    (done kept known
    (ready-keeps part kept known place item B.tells told a m c.meet.ensures.keeps ready)))
    (c.put_set.ensures.done told)

pub returns-clause-chain : goal.returns-clause-chain
returns-clause-chain g c told =
    let B = g.B.Blocks in
    let part = c.args.chain.now.part in
    let place = c.args.place.now in
    let item = given c.args.bytes in
    let a = B.seen c.args.blocks.now in
    let m = B.seen c.meet.new.blocks in
    on-ok-more c.put_set.result _ _
    (λ all kept known ready. all kept known
    (ready-keeps part kept known place item B.tells told a m c.meet.ensures.keeps ready))
    (c.put_set.ensures.chain told)

pub returns-clause-met : goal.returns-clause-met
returns-clause-met g c told =
    let B = g.B.Blocks in
    let part = c.args.chain.now.part in
    let place = c.args.place.now in
    let item = given c.args.bytes in
    let a = B.seen c.args.blocks.now in
    let m = B.seen c.meet.new.blocks in
    on-ok-more c.put_set.result _ _
    (λ all kept known ready. all kept known
    (ready-keeps part kept known place item B.tells told a m c.meet.ensures.keeps ready))
    (c.put_set.ensures.met told)
