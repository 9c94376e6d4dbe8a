use Rattle.std.proofs.Common.{replicate}
use Rattle.vr_types.proofs.CallerLemmas.{keeps-none, keeps-puts}
use Rattle.vr_log.proofs.clearing.zero_block.Goals as goal

pub returns-in_err-zeros-clause-after : goal.returns-in_err-zeros-clause-after
returns-in_err-zeros-clause-after g c =
    let B = g.B.Blocks in
    let a = B.seen c.args.blocks.now in
    keeps-puts B.tells c.args.n (replicate c.args.size 0) a a
    (keeps-none B.tells a
    (λ told image left. g.met.B.Blocks.images_may c.args.blocks.now image told left))
