use Rattle.vr_types.proofs.CallerLemmas.{keeps-none}
use Rattle.vr_store.proofs.change.note_put.Goals as goal

pub returns-then-note-clause-keeps : goal.returns-then-note-clause-keeps
returns-then-note-clause-keeps g c =
    keeps-none g.B.Blocks.tells (g.B.Blocks.seen c.args.blocks.now)
    (λ told image is. g.met.B.Blocks.images_may c.args.blocks.now image told is)
