use Rattle.std.proofs.Common.{◌-◌}
use Rattle.vr_seqset.proofs.EntryLemmas.{IsLeft}
use Rattle.vr_seqset.proofs.checks.after_entries.Given as goal

abbrev pub invariant-loop : goal.invariant-loop
invariant-loop l = IsLeft l.count l.place l.bytes (l.count - l.counter) l.rest
