use Rattle.std.proofs.Common.{arith}
use Rattle.std.proofs.lemmas.List.{nil_from_length}
use Rattle.vr_frames.specs.Rule.{IsBuffer}
use Rattle.vr_frames.proofs.Steps.{joins}
use Rattle.vr_frames.proofs.shared.Pool.join.Goals as goal

pub join_seat-requires : goal.join_seat-requires
join_seat-requires c = (
  c.requires.seat.0,
  c.requires.other.0,
  nil_from_length _ c.args.other.rests.0,
  omega (arith, c.args.self.now.counts.1),
  joins IsBuffer _ _ _ _ _ c.args.seat.now.has_part,
)
