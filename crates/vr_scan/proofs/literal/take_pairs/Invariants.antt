use Rattle.std.proofs.Common.{◌≡◌, ◌≤◌, ◌++◌, length}
use Rattle.vr_scan.specs.Piece.{first_bad, inner, after_inner, paired}
use Rattle.vr_scan.proofs.literal.take_pairs.Given as goal

abbrev pub invariant-loop-byte : goal.invariant-loop-byte
invariant-loop-byte l = record {
  bad : first_bad (inner l.cursor) ≡ first_bad (inner l.initial.cursor);
  after : after_inner l.cursor ≡ after_inner l.initial.cursor;
  text : l.draft.text ++ paired (inner l.cursor)
      ≡ l.initial.draft.text ++ paired (inner l.initial.cursor);
  tokens : l.draft.tokens ≡ l.initial.draft.tokens;
  shorter : length l.cursor ≤ length l.initial.cursor;
}

abbrev pub decreases-loop-byte : goal.decreases-loop-byte
decreases-loop-byte l = length l.cursor
