use Rattle.std.proofs.Common.{IsTrue}
use Rattle.vr_ci.specs.Interval as ci
use Rattle.vr_space.specs.Room.{is_in}
use Rattle.vr_space.specs.Keyed.{IsKept, key_of}
use Rattle.vr_space.specs.Lent.{range_lent}
use Rattle.vr_attach.proofs.Passing.{Still}
use Rattle.vr_attach.proofs.interval.are_within.Given as goal

abbrev pub invariant-loop-bytes : goal.invariant-loop-bytes
invariant-loop-bytes l = record {
  kept : Still (IsKept l.layout) l.view.items l.bytes-iterator;
  within : Still (λ (item : ci.Item). IsTrue (is_in (range_lent l.range)
      (key_of l.layout item.bytes))) l.view.items l.bytes-iterator;
}
