use Rattle.std.proofs.Common.{refl, arith}
use Rattle.vr_types.proofs.CallerLemmas.{keeps-none}
use Rattle.vr_keyed.proofs.rooms.have_rooms.Goals as goal

pub loop-i-init : goal.loop-i-init
loop-i-init g c = record {
  keeps = keeps-none g.B.Blocks.tells (g.B.Blocks.seen c.args.blocks.now)
      (λ told image now. g.met.B.Blocks.images_may c.args.blocks.now image told now);
  faults = refl;
  weights = c.requires.weights;
  rooms = λ told i less. absurd (omega (arith, less));
}
