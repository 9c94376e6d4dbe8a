use Rattle.vr_types.proofs.CallerLemmas.{keeps-none}
use Rattle.vr_keyed.proofs.keyed.Keyed.attach.Goals as goal

pub returns-in_err-top-clause-keeps : goal.returns-in_err-top-clause-keeps
returns-in_err-top-clause-keeps g c =
    keeps-none g.B.Blocks.tells (g.B.Blocks.seen c.args.blocks.now)
    (λ told image now. g.met.B.Blocks.images_may c.args.blocks.now image told now)

pub returns-in_err-areas-clause-keeps : goal.returns-in_err-areas-clause-keeps
returns-in_err-areas-clause-keeps g c =
    keeps-none g.B.Blocks.tells (g.B.Blocks.seen c.args.blocks.now)
    (λ told image now. g.met.B.Blocks.images_may c.args.blocks.now image told now)
