use Rattle.std.proofs.Common.{arith}
use Rattle.vr_types.proofs.CallerLemmas.{keeps-none}
use Rattle.vr_chained.proofs.Numbers.{place-length}
use Rattle.vr_chained.proofs.meet.fill.Goals as goal

pub set-requires : goal.set-requires
set-requires g c =
    omega (
      arith,
      place-length c.args.chain.now.part c.args.place.now c.requires.place,
      c.requires.room.place,
    )

pub returns-in_default-clause-keeps : goal.returns-in_default-clause-keeps
returns-in_default-clause-keeps g c =
    keeps-none g.B.Blocks.tells (g.B.Blocks.seen c.args.blocks.now)
    (λ told image left. g.met.B.Blocks.images_may c.args.blocks.now image told left)
