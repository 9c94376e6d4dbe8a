use Rattle.std.proofs.Common.{◌≡◌, ◌+◌, length}
use Rattle.vr_log.specs.Writing.{IsSafe, IsReady, HasRoom, IsKeptBy, position}
use Rattle.vr_log.proofs.Adding.{Adds}
use Rattle.vr_log.proofs.tail.Tail.add.Given as goal

abbrev pub invariant-loop-rest : goal.invariant-loop-rest
invariant-loop-rest g l =
    let B = g.B.Blocks in record {
      safe : IsSafe l.self (B.seen l.blocks);
      ready : IsReady l.self;
      room : HasRoom l.self (length l.rest);
      at : position l.self + length l.rest ≡ position l.fn.self + length l.fn.bytes;
      same : IsKeptBy l.fn.self l.self;
      adds : Adds B.tells l.fn.bytes l.rest l.fn.self l.self (B.seen l.fn.blocks) (B.seen l.blocks);
      faults : B.faults l.blocks ≡ B.faults l.fn.blocks;
    }

abbrev pub decreases-loop-rest : goal.decreases-loop-rest
decreases-loop-rest g l = length l.rest
