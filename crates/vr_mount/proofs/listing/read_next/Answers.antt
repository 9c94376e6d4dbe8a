use Rattle.vr_types.proofs.CallerLemmas.{keeps-none, keeps-then}
use Rattle.vr_mount.proofs.listing.read_next.Goals as goal

pub returns-in_err-into-clause-keeps : goal.returns-in_err-into-clause-keeps
returns-in_err-into-clause-keeps g c =
    keeps-none g.B.Blocks.tells (g.B.Blocks.seen c.args.blocks.now)
    (λ told image left. g.met.B.Blocks.images_may c.args.blocks.now image told left)

pub returns-in_err-found-clause-keeps : goal.returns-in_err-found-clause-keeps
returns-in_err-found-clause-keeps g c =
    let seen = g.B.Blocks.seen in
    keeps-then g.B.Blocks.tells (seen c.args.blocks.now) (seen c.seek.new.blocks)
    (seen c.copy_at.new.blocks) c.seek.ensures.keeps c.copy_at.ensures.keeps

pub returns-clause-keeps : goal.returns-clause-keeps
returns-clause-keeps g c =
    let seen = g.B.Blocks.seen in
    keeps-then g.B.Blocks.tells (seen c.args.blocks.now) (seen c.seek.new.blocks)
    (seen c.copy_at.new.blocks) c.seek.ensures.keeps c.copy_at.ensures.keeps
