use Rattle.std.proofs.Common.{ap, ◌∙◌}
use Rattle.std.proofs.lemmas.Result.{IfErr-weaker}
use Rattle.vr_types.specs.Image.{Image, block_at}
use Rattle.vr_types.proofs.CallerLemmas.{keeps-then}
use Rattle.vr_recover.specs.Found.{ShowsOnly}
use Rattle.vr_recover.specs.Opening.{IsLogShown, IsRefused}
use Rattle.vr_recover.proofs.Attaching.{of-still}
use Rattle.vr_recover.proofs.OpenLemmas.{refused-before}
use Rattle.vr_recover.proofs.Refusals.{log-long, log-refused}
use Rattle.vr_recover.proofs.open.start.Goals as goal

pub returns-clause-refused : goal.returns-clause-refused
returns-clause-refused g c told =
    let geometry = c.in_ok-geometry.geometry in
    let a = g.B.Blocks.seen c.args.blocks.now in
    let b = g.B.Blocks.seen c.read_shape.new.blocks in
    let d = g.B.Blocks.seen c.sync_all.new.blocks in
    let call = keeps-then g.B.Blocks.tells a b d c.read_shape.ensures.keeps
    c.sync_all.ensures.keeps in
    let of = of-still g.B.Blocks.tells geometry a d call c.in_ok-geometry.ensures.shape in
    let long = log-long geometry d c.in_ok-geometry.ensures.allowed of
    (g.met.B.Blocks.cur_may c.sync_all.new.blocks told)
    (λ n block below may. g.met.B.Blocks.sized c.sync_all.new.blocks n block told below may) in
    IfErr-weaker c.begin_log.result (ShowsOnly (IsLogShown geometry d))
    (IsRefused c.args.number a)
    (λ answer shown. refused-before a d call.count_same call.size_same (call.content told)
    c.args.number answer
    (log-refused c.args.number geometry d c.in_ok-geometry.ensures.allowed of
    (ap (λ (i : Image). block_at i 0) (call.content told)
    ∙ c.in_ok-geometry.ensures.header told) long answer shown))
    (c.begin_log.ensures.damaged told)

pub returns-clause-keeps : goal.returns-clause-keeps
returns-clause-keeps g c =
    let a = g.B.Blocks.seen c.args.blocks.now in
    let b = g.B.Blocks.seen c.read_shape.new.blocks in
    let d = g.B.Blocks.seen c.sync_all.new.blocks in
    keeps-then g.B.Blocks.tells a d (g.B.Blocks.seen c.begin_log.new.blocks)
    (keeps-then g.B.Blocks.tells a b d c.read_shape.ensures.keeps c.sync_all.ensures.keeps)
    c.begin_log.ensures.keeps
