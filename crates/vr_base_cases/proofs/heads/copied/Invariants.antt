use Rattle.std.proofs.Common.{◌≡◌, take, length}
use Rattle.vr_seqset.specs.Writer.{written, intervals_of, block_of}
use Rattle.vr_base_cases.proofs.heads.copied.Given as goal

abbrev pub invariant-loop-i : goal.invariant-loop-i
invariant-loop-i l = record {
  so_far : written l.writer ≡ record l.view { entries = take l.i l.view.entries };
  intervals : intervals_of l.writer ≡ l.intervals;
  size : length (block_of l.writer).now ≡ length l.block;
}
