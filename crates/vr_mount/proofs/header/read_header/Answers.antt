use Rattle.vr_types.proofs.CallerLemmas.{keeps-none}
use Rattle.vr_mount.proofs.header.read_header.Goals as goal

pub returns-then-count-eq0-clause-keeps : goal.returns-then-count-eq0-clause-keeps
returns-then-count-eq0-clause-keeps g c =
    keeps-none g.B.Blocks.tells (g.B.Blocks.seen c.args.blocks.now)
    (λ told image left. g.met.B.Blocks.images_may c.args.blocks.now image told left)
