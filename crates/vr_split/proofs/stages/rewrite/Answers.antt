use Rattle.std.proofs.Common.{◌≡◌, ◌∷◌, []}
use Rattle.vr_types.specs.Image.{block_at}
use Rattle.vr_types.proofs.CallerLemmas.{cur-put, only-forced, puts-then-keeps}
use Rattle.std.proofs.lemmas.List.Elements.{Contains-push}
use Rattle.vr_split.proofs.StageLemmas.{keeps-replace, done-replace}
use Rattle.vr_split.proofs.stages.rewrite.Goals as goal

pub returns-in_err-put-clause-keeps : goal.returns-in_err-put-clause-keeps
returns-in_err-put-clause-keeps g c told part kept block resting can =
    let B = g.B.Blocks in
    keeps-replace part B.tells told (B.seen c.args.blocks.now) (B.seen c.put.new.self) c.args.n
    c.args.whole.now kept resting block c.requires.below
    (g.met.B.Blocks.cur_may c.args.blocks.now told) can c.put.ensures.after

pub returns-in_err-force-clause-keeps : goal.returns-in_err-force-clause-keeps
returns-in_err-force-clause-keeps g c told part kept block resting can =
    let B = g.B.Blocks in
    let a = B.seen c.args.blocks.now in
    keeps-replace part B.tells told a (B.seen c.force.new.self) c.args.n c.args.whole.now kept
    resting block c.requires.below (g.met.B.Blocks.cur_may c.args.blocks.now told) can
    (puts-then-keeps B.tells c.args.n c.args.whole.now a (B.seen c.put.new.self)
    (B.seen c.force.new.self) c.put.ensures.after c.force.ensures.after)

pub returns-clause-keeps : goal.returns-clause-keeps
returns-clause-keeps g c told part kept block resting can =
    let B = g.B.Blocks in
    let a = B.seen c.args.blocks.now in
    keeps-replace part B.tells told a (B.seen c.force.new.self) c.args.n c.args.whole.now kept
    resting block c.requires.below (g.met.B.Blocks.cur_may c.args.blocks.now told) can
    (puts-then-keeps B.tells c.args.n c.args.whole.now a (B.seen c.put.new.self)
    (B.seen c.force.new.self) c.put.ensures.after c.force.ensures.after)

pub returns-clause-stable : goal.returns-clause-stable
returns-clause-stable g c told =
    let B = g.B.Blocks in
    let a = B.seen c.args.blocks.now in
    let m = B.seen c.put.new.self in
    let now : block_at m.cur c.args.n ≡ c.args.whole.now =
    cur-put a c.args.n c.args.whole.now c.requires.below
    (g.met.B.Blocks.cur_may c.args.blocks.now told).length_is m.cur
    (c.in_ok-put.ensures.put told) in
    only-forced m (B.seen c.force.new.self) c.args.n (c.args.beside ∷ c.args.n ∷ [])
    c.args.whole.now (Contains-push (c.args.beside ∷ []) c.args.n)
    (c.in_ok-force.ensures.forced told) now

pub returns-clause-done : goal.returns-clause-done
returns-clause-done g c told part kept block resting can =
    let B = g.B.Blocks in
    let a = B.seen c.args.blocks.now in
    done-replace part B.tells told a (B.seen c.force.new.self) c.args.n c.args.whole.now kept
    resting block c.requires.below (g.met.B.Blocks.cur_may c.args.blocks.now told) can
    (puts-then-keeps B.tells c.args.n c.args.whole.now a (B.seen c.put.new.self)
    (B.seen c.force.new.self) c.put.ensures.after c.force.ensures.after)
    (returns-clause-stable g c told)
