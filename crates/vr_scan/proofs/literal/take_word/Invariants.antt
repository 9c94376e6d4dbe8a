use Rattle.std.proofs.Common.{◌≡◌, ◌≤◌, ◌++◌, length, map}
use Rattle.std.specs.Char.{to_ascii_uppercase}
use Rattle.vr_scan.specs.Piece.{bytes_of, word, after_word}
use Rattle.vr_scan.proofs.literal.take_word.Given as goal

abbrev pub invariant-loop-mark : goal.invariant-loop-mark
invariant-loop-mark l = record {
  rest : after_word l.cursor ≡ after_word l.initial.cursor;
  tokens : l.draft.tokens ≡ l.initial.draft.tokens;
  text : l.draft.text ++ map to_ascii_uppercase (bytes_of (word l.cursor))
      ≡ l.initial.draft.text ++ map to_ascii_uppercase (bytes_of (word l.initial.cursor));
  shorter : length l.cursor ≤ length l.initial.cursor;
}

abbrev pub decreases-loop-mark : goal.decreases-loop-mark
decreases-loop-mark l = length l.cursor
