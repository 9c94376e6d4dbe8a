use Rattle.std.proofs.Common.{map, subst, List, ℕ}
use Rattle.vr_space.proofs.CallerLemmas.{rest-sound}
use Rattle.vr_undo.specs.Records.{images_in}
use Rattle.vr_volume.specs.Committed.{committed_by}
use Rattle.vr_volume.specs.Safe.{IsSafeImage}
use Rattle.vr_store.specs.Change.{IsNoted, log_with}
use Rattle.vr_store.specs.Store.{blocks_of, changed_by}
use Rattle.vr_store.proofs.NotedBlocks.{guards-kept, set-noted}
use Rattle.vr_store.proofs.change.set_at.Goals as goal

pub returns-in_err-note_put-clause-moments : goal.returns-in_err-note_put-clause-moments
returns-in_err-note_put-clause-moments g c told volume owners old new change images to =
    let log = c.args.log.now in
    let prepared = c.args.prepared.now in
    guards-kept g.B.Blocks.tells told (g.B.Blocks.seen c.put_at.new.blocks)
    (g.B.Blocks.seen c.note_put.new.blocks) c.note_put.ensures.keeps
    (g.B.Blocks.seen c.args.blocks.now)
    (IsSafeImage log.geometry volume owners (log_with prepared.logged log prepared.rec)
    (committed_by old))
    (c.put_at.ensures.moments told volume owners old new change images to)

pub returns-clause-moments : goal.returns-clause-moments
returns-clause-moments g c told volume owners old new change images to =
    let log = c.args.log.now in
    let prepared = c.args.prepared.now in
    guards-kept g.B.Blocks.tells told (g.B.Blocks.seen c.put_at.new.blocks)
    (g.B.Blocks.seen c.note_put.new.blocks) c.note_put.ensures.keeps
    (g.B.Blocks.seen c.args.blocks.now)
    (IsSafeImage log.geometry volume owners (log_with prepared.logged log prepared.rec)
    (committed_by old))
    (c.put_at.ensures.moments told volume owners old new change images to)

pub returns-clause-made : goal.returns-clause-made
returns-clause-made g c told volume owners old new change images to =
    let log = c.args.log.now in
    let shape = g.P.Part.shape c.args.part.now in
    let a = g.B.Blocks.seen c.args.blocks.now in
    let b = g.B.Blocks.seen c.put_at.new.blocks in
    let d = g.B.Blocks.seen c.note_put.new.blocks in
    let put = g.P.Part.put c.put_at.new.part in
    let listed = blocks_of c.args.unit (map changed_by c.note_put.new.changed.items) in
    set-noted g.B.Blocks.tells told b d c.note_put.ensures.keeps log.geometry volume
    owners c.put_at.new.log images (images_in c.args.undo.now) old new shape
    (g.P.Part.known c.put_at.new.part) c.args.place.now put listed
    a (rest-sound shape owners a to.part.rests) (g.met.B.Blocks.cur_may c.put_at.new.blocks told)
    (c.in_ok-put_at.ensures.made told volume owners old new change images to)
    (subst (λ (p : List ℕ). IsNoted p listed b.cur d.may) c.put_blocks.ensures
    (c.in_ok-note_put.ensures.put told))
