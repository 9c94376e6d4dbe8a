use Rattle.vr_space.specs.Keyed.{items_of}
use Rattle.vr_entries.proofs.Passing.{IsPassing}
use Rattle.vr_entries.proofs.reading.next_record.Given as goal

abbrev pub invariant-loop-bytes : goal.invariant-loop-bytes
invariant-loop-bytes l = IsPassing (items_of l.block) l.from l.bytes-iterator l.at
