use Rattle.vr_space.specs.Entries.{IsEntry}
use Rattle.vr_entries.proofs.Walking.{Still}
use Rattle.vr_entries.proofs.reading.are_entries.Given as goal

abbrev pub invariant-loop-bytes : goal.invariant-loop-bytes
invariant-loop-bytes l = Still (IsEntry l.layout) l.view.items l.bytes-iterator
