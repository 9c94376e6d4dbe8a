use Rattle.std.proofs.Common.{◌≡◌, ◌-◌, length}
use Rattle.vr_log.specs.Decoding.{IsUpTo}
use Rattle.vr_log.proofs.records.read_records.Given as goal

abbrev pub invariant-loop-count : goal.invariant-loop-count
invariant-loop-count l = record {
  read : IsUpTo l.bytes l.content.records l.at;
  generation : l.content.generation ≡ l.initial.content.generation;
}

abbrev pub decreases-loop-count : goal.decreases-loop-count
decreases-loop-count l = length l.bytes - l.at
