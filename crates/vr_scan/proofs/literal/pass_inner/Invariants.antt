use Rattle.std.proofs.Common.{◌≡◌, ◌≤◌, length}
use Rattle.vr_scan.specs.Piece.{after_inner}
use Rattle.vr_scan.proofs.literal.pass_inner.Given as goal

abbrev pub invariant-loop-cursor : goal.invariant-loop-cursor
invariant-loop-cursor l = record {
  same : after_inner l.cursor ≡ after_inner l.initial.cursor;
  shorter : length l.cursor ≤ length l.initial.cursor;
}

abbrev pub decreases-loop-cursor : goal.decreases-loop-cursor
decreases-loop-cursor l = length l.cursor
