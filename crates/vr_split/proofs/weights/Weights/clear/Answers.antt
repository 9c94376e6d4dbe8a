use Rattle.std.proofs.Common.{arith}
use Rattle.vr_space.specs.Room.{none_ascend}
use Rattle.vr_split.proofs.weights.Weights.clear.Goals as goal

pub invariant_of-self : goal.invariant_of-self
invariant_of-self c = record {
  within = omega arith;
  few = c.self.invariant.few;
  room = c.self.invariant.room;
  ascend = none_ascend;
}
