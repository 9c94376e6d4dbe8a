use Rattle.std.proofs.Common.{arith}
use Rattle.vr_space.specs.Room.{none_ascend}
use Rattle.vr_split.proofs.weights.empty_weights.Goals as goal

pub invariant_of-result : goal.invariant_of-result
invariant_of-result c = record {
  within = omega arith;
  few = omega (arith, c.in_ok-add_empty.ensures.count, c.requires);
  room = c.in_ok-add_empty.ensures.room;
  ascend = none_ascend;
}
