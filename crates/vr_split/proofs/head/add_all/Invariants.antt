use Rattle.std.proofs.Common.{◌≡◌, ◌++◌, length}
use Rattle.vr_seqset.specs.Writer.{block_of, intervals_of, written}
use Rattle.vr_split.specs.Halves.{halves}
use Rattle.vr_split.proofs.head.add_all.Given as goal

abbrev pub invariant-loop-entry : goal.invariant-loop-entry
invariant-loop-entry l = record {
  all : l.fn.entries ≡ l.yielded ++ l.entry-iterator;
  written : written l.writer ≡ record (written l.fn.writer) {
    entries = halves l.old l.into l.cut l.yielded;
  };
  same_block : (block_of l.writer).ghost_name ≡ (block_of l.fn.writer).ghost_name;
  size : length (block_of l.writer).now ≡ length (block_of l.fn.writer).now;
  intervals : intervals_of l.writer ≡ intervals_of l.fn.writer;
}
