use Rattle.std.proofs.Common.{◌≡◌, ◌+◌, length}
use Rattle.vr_log.specs.Writing.{IsSound, IsReady, HasRoom, IsPassedBy, position}
use Rattle.vr_log.proofs.Passing.{Passes}
use Rattle.vr_log.proofs.tail.Tail.pass.Given as goal

abbrev pub invariant-loop-rest : goal.invariant-loop-rest
invariant-loop-rest l = record {
  sound : IsSound l.self;
  ready : IsReady l.self;
  room : HasRoom l.self (length l.rest);
  at : position l.self + length l.rest ≡ position l.fn.self + length l.fn.bytes;
  same : IsPassedBy l.fn.self l.self;
  passes : Passes l.fn.bytes l.rest l.fn.self l.self;
}

abbrev pub decreases-loop-rest : goal.decreases-loop-rest
decreases-loop-rest l = length l.rest
