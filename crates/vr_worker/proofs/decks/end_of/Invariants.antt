use Rattle.std.proofs.Common.{All, take}
use Rattle.vr_worker.specs.Ready.{IsDone}
use Rattle.vr_worker.proofs.decks.end_of.Given as goal

abbrev pub invariant-loop-seat : goal.invariant-loop-seat
invariant-loop-seat l = All IsDone (take l.seat-index l.seats)
