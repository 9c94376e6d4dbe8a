use Rattle.std.proofs.Common.{arith}
use Rattle.vr_seqset.proofs.EntryLemmas.{whole_behind}
use Rattle.vr_seqset.proofs.entries.SeqEntriesIterator.next.Goals as goal

pub invariant_of-self : goal.invariant_of-self
invariant_of-self c = (
  c.self.invariant.0,
  whole_behind c.self.inside.left c.self.inside.place
      c.self.inside.bytes.now c.split_entry-entry.result.1.now
      (omega arith) c.split_entry-entry.ensures.rest c.self.invariant.1,
)
