use Rattle.vr_types.proofs.CallerLemmas.{keeps-none}
use Rattle.vr_log.proofs.tail.Tail.settle.Goals as goal

pub returns-then-self-clause-keeps : goal.returns-then-self-clause-keeps
returns-then-self-clause-keeps g c =
    keeps-none g.B.Blocks.tells (g.B.Blocks.seen c.args.blocks.now)
    (λ told image left. g.met.B.Blocks.images_may c.args.blocks.now image told left)
