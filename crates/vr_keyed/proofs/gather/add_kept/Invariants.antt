use Rattle.std.proofs.Common.{◌≡◌, length}
use Rattle.vr_space.specs.Room.{lengths_in, with_lengths}
use Rattle.vr_space.specs.Lent.{range_lent}
use Rattle.vr_keyed.proofs.Gathering.{IsAdding}
use Rattle.vr_keyed.proofs.gather.add_kept.Given as goal

abbrev pub invariant-loop-place : goal.invariant-loop-place
invariant-loop-place g l = record {
  adding : IsAdding (range_lent l.rest)
      (with_lengths l.fn.weights.lengths
      (lengths_in (range_lent l.range) (g.K.Kept.kept l.kept l.part)))
      (g.K.Kept.kept l.kept l.part) l.weights.lengths;
  count : l.weights.count ≡ l.fn.weights.count;
  bytes : l.weights.bytes ≡ l.fn.weights.bytes;
}

abbrev pub decreases-loop-place : goal.decreases-loop-place
decreases-loop-place g l =
    length (lengths_in (range_lent l.rest) (g.K.Kept.kept l.kept l.part))
