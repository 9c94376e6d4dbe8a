use Rattle.std.proofs.Common.{◌≡◌, length}
use Rattle.vr_log.specs.Memory.{AreNumbered}
use Rattle.vr_log.proofs.making.numbers_to.Given as goal

abbrev pub invariant-loop-n : goal.invariant-loop-n
invariant-loop-n l =
    record { count : length l.numbers.items ≡ l.n; each : AreNumbered l.numbers.items }
