use Rattle.std.proofs.Common.{◌-◌}
use Rattle.vr_seqset.proofs.EntryLemmas.{IsAt}
use Rattle.vr_seqset.proofs.entry.entry_at.Given as goal

abbrev pub invariant-loop : goal.invariant-loop
invariant-loop l = IsAt l.place l.bytes l.i (l.i - l.counter) l.rest
