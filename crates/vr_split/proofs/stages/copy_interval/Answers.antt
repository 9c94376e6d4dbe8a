use Rattle.std.proofs.Common.{◌≡◌, ◌∙◌, arith}
use Rattle.vr_types.specs.Image.{block_at}
use Rattle.vr_split.proofs.StageLemmas.{keeps-then, done-then, replace-still}
use Rattle.vr_split.proofs.stages.copy_interval.Goals as goal

pub returns-in_err-write_free-clause-keeps : goal.returns-in_err-write_free-clause-keeps
returns-in_err-write_free-clause-keeps g c told part kept into old resting free can =
    (c.write_free.ensures.keeps told part kept into resting free).0

pub returns-in_err-rewrite-clause-keeps : goal.returns-in_err-rewrite-clause-keeps
returns-in_err-rewrite-clause-keeps g c told part kept into old resting free can =
    let B = g.B.Blocks in
    let a = B.seen c.args.blocks.now in
    let m = B.seen c.write_free.new.blocks in
    let first = c.write_free.ensures.keeps told part kept into resting free in
    let head : block_at m.cur part.head ≡ block_at a.cur part.head =
    c.write_free.ensures.elsewhere told part.head (λ same. omega (arith, into.low, same)) in
    keeps-then part kept a m (B.seen c.rewrite.new.blocks) first.0
    (c.rewrite.ensures.keeps told part kept old (record {
      rests = first.1.rests;
      room =
          first.0.room;
    })
    (replace-still part kept a.cur m.cur c.args.old c.args.whole.now head first.0.same can))

pub returns-clause-keeps : goal.returns-clause-keeps
returns-clause-keeps g c told part kept into old resting free can =
    let B = g.B.Blocks in
    let a = B.seen c.args.blocks.now in
    let m = B.seen c.write_free.new.blocks in
    let first = c.write_free.ensures.keeps told part kept into resting free in
    let head : block_at m.cur part.head ≡ block_at a.cur part.head =
    c.write_free.ensures.elsewhere told part.head (λ same. omega (arith, into.low, same)) in
    keeps-then part kept a m (B.seen c.rewrite.new.blocks) first.0
    (c.rewrite.ensures.keeps told part kept old (record {
      rests = first.1.rests;
      room =
          first.0.room;
    })
    (replace-still part kept a.cur m.cur c.args.old c.args.whole.now head first.0.same can))

pub returns-clause-done : goal.returns-clause-done
returns-clause-done g c told part kept into old resting free can =
    let B = g.B.Blocks in
    let a = B.seen c.args.blocks.now in
    let m = B.seen c.write_free.new.blocks in
    let first = c.write_free.ensures.keeps told part kept into resting free in
    let head : block_at m.cur part.head ≡ block_at a.cur part.head =
    c.write_free.ensures.elsewhere told part.head (λ same. omega (arith, into.low, same)) in
    done-then part kept a m (B.seen c.rewrite.new.blocks) first.1
    (c.in_ok-rewrite.ensures.done told part kept old (record {
      rests = first.1.rests;
      room =
          first.0.room;
    })
    (replace-still part kept a.cur m.cur c.args.old c.args.whole.now head first.0.same can))

pub returns-clause-into_stable : goal.returns-clause-into_stable
returns-clause-into_stable g c told apart block may =
    c.in_ok-rewrite.ensures.beside told apart block may
    ∙ c.in_ok-write_free.ensures.put told
