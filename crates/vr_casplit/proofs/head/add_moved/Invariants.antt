use Rattle.std.proofs.Common.{◌≡◌, length, take, drop}
use Rattle.vr_seqset.specs.Writer.{block_of, intervals_of, written}
use Rattle.vr_space.specs.Moves.{numbered_from}
use Rattle.vr_casplit.proofs.head.add_moved.Given as goal

abbrev pub invariant-loop-i : goal.invariant-loop-i
invariant-loop-i l = record {
  written : written l.writer ≡ record (written l.fn.writer) {
    entries = numbered_from 0 (take l.i (drop l.stay l.view.entries));
  };
  same_block : (block_of l.writer).ghost_name ≡ (block_of l.fn.writer).ghost_name;
  size : length (block_of l.writer).now ≡ length (block_of l.fn.writer).now;
  intervals : intervals_of l.writer ≡ intervals_of l.fn.writer;
}
