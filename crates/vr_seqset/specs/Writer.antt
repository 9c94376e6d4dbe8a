-- What a writer has written, and what the head that it began with says.
use Rattle.std.specs.Prelude.{ℕ, List, []}
use Rattle.std.specs.Borrow.{MutBor}
use Rattle.vr_seqset.specs.SequenceSet.{SequenceSet}
use Rattle.vr_seqset.specs.Reading.{record_in}
use Rattle.vr_seqset.specs.declared.head.SeqHead.{SeqHead}
use Rattle.vr_seqset.specs.declared.writer.SeqWriter.{SeqWriter}

-- the block that it writes to
abbrev pub block_of : SeqWriter → MutBor (List ℕ)
block_of writer = writer.block

-- how many intervals the area has
abbrev pub intervals_of : SeqWriter → ℕ
intervals_of writer = writer.cis

-- the record that the block spells so far
abbrev pub written : SeqWriter → SequenceSet
written writer = record_in writer.block.now

-- the record with no entry yet
abbrev pub begun_by : SeqHead → SequenceSet
begun_by head = record {
  first = head.first;
  part = head.part;
  next = head.next;
  top = head.top;
  index_area = head.index_area;
  low = head.low.now;
  entries = [];
}
