use Rattle.std.proofs.Common.{◌≡◌, ◌≤◌, length}
use Rattle.vr_scan.specs.Piece.{after_comment}
use Rattle.vr_scan.proofs.literal.pass_comment.Given as goal

abbrev pub invariant-loop-mark : goal.invariant-loop-mark
invariant-loop-mark l = record {
  same : after_comment l.cursor ≡ after_comment l.initial.cursor;
  shorter : length l.cursor ≤ length l.initial.cursor;
}

abbrev pub decreases-loop-mark : goal.decreases-loop-mark
decreases-loop-mark l = length l.cursor
