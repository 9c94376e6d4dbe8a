use Rattle.std.proofs.Common.{arith}
use Rattle.vr_frames.specs.Rule.{IsBuffer}
use Rattle.vr_frames.proofs.Steps.{splits}
use Rattle.vr_frames.proofs.shared.Pool.split.Goals as goal

pub split_seat-place-requires : goal.split_seat-place-requires
split_seat-place-requires c = (
  c.requires.seat.0,
  omega (arith, c.args.self.now.counts.1),
  splits IsBuffer _ _ _ c.requires.parts,
)
