use Rattle.std.proofs.Common.{List, ap, map, refl, subst, sym, ℕ, ◌∙◌}
use Rattle.vr_types.specs.declared.unit.PartNo.{PartNo}
use Rattle.vr_space.specs.Part.{given}
use Rattle.vr_space.proofs.CallerLemmas.{rest-sound}
use Rattle.vr_undo.specs.Records.{images_in}
use Rattle.vr_volume.specs.Committed.{committed_by}
use Rattle.vr_volume.specs.Safe.{IsSafeImage}
use Rattle.vr_store.specs.Change.{IsNoted}
use Rattle.vr_store.specs.Store.{blocks_of, changed_by}
use Rattle.vr_store.proofs.PutBack.{place-back}
use Rattle.vr_store.proofs.NotedBlocks.{guards-kept, set-noted}
use Rattle.vr_store.proofs.put_back.set_back.Goals as goal

pub returns-in_err-set_again-clause-moments : goal.returns-in_err-set_again-clause-moments
returns-in_err-set_again-clause-moments g c told volume owners old new change to =
    let images = images_in c.args.undo.now in
    c.set_again.ensures.any_moment told volume owners old images to.volume to.part
    (place-back c.args.log.now.geometry volume owners c.args.log.now images old new change
    (g.P.Part.shape c.args.part.now) (g.P.Part.known c.args.part.now) c.args.place.now
    (given c.args.bytes)
    (g.B.Blocks.seen c.args.blocks.now) to) refl

pub returns-in_err-note_put-clause-moments : goal.returns-in_err-note_put-clause-moments
returns-in_err-note_put-clause-moments g c told volume owners old new change to =
    let log = c.args.log.now in
    let images = images_in c.args.undo.now in
    guards-kept g.B.Blocks.tells told (g.B.Blocks.seen c.set_again.new.blocks)
    (g.B.Blocks.seen c.note_put.new.blocks) c.note_put.ensures.keeps
    (g.B.Blocks.seen c.args.blocks.now)
    (IsSafeImage log.geometry volume owners log (committed_by old))
    (c.set_again.ensures.any_moment told volume owners old images to.volume to.part
    (place-back log.geometry volume owners log images old new change
    (g.P.Part.shape c.args.part.now) (g.P.Part.known c.args.part.now) c.args.place.now
    (given c.args.bytes)
    (g.B.Blocks.seen c.args.blocks.now) to) refl)

pub returns-clause-moments : goal.returns-clause-moments
returns-clause-moments g c told volume owners old new change to =
    let log = c.args.log.now in
    let images = images_in c.args.undo.now in
    guards-kept g.B.Blocks.tells told (g.B.Blocks.seen c.set_again.new.blocks)
    (g.B.Blocks.seen c.note_put.new.blocks) c.note_put.ensures.keeps
    (g.B.Blocks.seen c.args.blocks.now)
    (IsSafeImage log.geometry volume owners log (committed_by old))
    (c.set_again.ensures.any_moment told volume owners old images to.volume to.part
    (place-back log.geometry volume owners log images old new change
    (g.P.Part.shape c.args.part.now) (g.P.Part.known c.args.part.now) c.args.place.now
    (given c.args.bytes)
    (g.B.Blocks.seen c.args.blocks.now) to) refl)

pub returns-clause-back : goal.returns-clause-back
returns-clause-back g c told volume owners old new change to =
    let log = c.args.log.now in
    let images = images_in c.args.undo.now in
    let shape = g.P.Part.shape c.args.part.now in
    let a = g.B.Blocks.seen c.args.blocks.now in
    let b = g.B.Blocks.seen c.set_again.new.blocks in
    let d = g.B.Blocks.seen c.note_put.new.blocks in
    let put = g.P.Part.put c.set_again.new.part in
    let listed = blocks_of c.args.unit (map changed_by c.note_put.new.changed.items) in
    let done = c.in_ok-set_again.ensures in
    let same = ap (λ (p : PartNo). p.0) to.given.part in
    let rests = done.back told volume owners old new change images to.volume to.part to.of to.step
    to.given refl in
    set-noted g.B.Blocks.tells told b d c.note_put.ensures.keeps log.geometry volume owners log
    images images old new shape (g.P.Part.known c.set_again.new.part)
    c.args.place.now put listed a (rest-sound shape owners a to.part.rests)
    (g.met.B.Blocks.cur_may c.set_again.new.blocks told)
    (record {
      volume = rests.0;
      part = rests.1;
      others = λ other known apart rested. done.others told volume owners old new change images
          other known to.volume to.part to.of to.step.contents to.given.part
          (λ is. apart (is ∙ sym same)) rested;
      others_due = λ other known apart rested. done.others_due told volume owners images old other
          known to.volume to.part apart rested;
      due = done.due told;
    })
    (subst (λ (p : List ℕ). IsNoted p listed b.cur d.may) c.put_blocks.ensures
    (c.in_ok-note_put.ensures.put told))
