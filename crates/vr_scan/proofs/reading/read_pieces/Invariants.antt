use Rattle.std.proofs.Common.{◌≡◌, [], length}
use Rattle.vr_scan.specs.Mark.{marks_of}
use Rattle.vr_scan.proofs.Cutting.{CutSoFar}
use Rattle.vr_scan.proofs.reading.read_pieces.Given as goal

abbrev pub invariant-loop-mark : goal.invariant-loop-mark
invariant-loop-mark l = record {
  no_text : l.draft.text ≡ [];
  cut : CutSoFar (marks_of l.fn.lines) l.cursor l.draft.tokens l.begun;
}

abbrev pub decreases-loop-mark : goal.decreases-loop-mark
decreases-loop-mark l = length l.cursor
