use Rattle.std.proofs.Common.{◌≡◌, ℕ, ◌≤◌, List, ◌++◌, length}
use Rattle.vr_scan.specs.declared.mark.Mark.{Mark}
use Rattle.vr_scan.specs.Piece.{Spells}
use Rattle.vr_scan.proofs.literal.take_characters.Given as goal

-- What the rest spells from here, the whole spells with the bytes so far before it; and what the
-- whole spells begins with these bytes.
abbrev pub invariant-loop-byte : goal.invariant-loop-byte
invariant-loop-byte l = record {
  tokens : l.draft.tokens ≡ l.initial.draft.tokens;
  so_far : (taken : List ℕ) × (l.draft.text ≡ l.initial.draft.text ++ taken)
      × ((bytes : List ℕ) (rest : List Mark) → Spells l.cursor bytes rest
      → Spells l.initial.cursor (taken ++ bytes) rest);
  whole : (bytes : List ℕ) (rest : List Mark) → Spells l.initial.cursor bytes rest
      → (left : List ℕ) × Spells l.cursor left rest;
  shorter : length l.cursor ≤ length l.initial.cursor;
}

abbrev pub decreases-loop-byte : goal.decreases-loop-byte
decreases-loop-byte l = length l.cursor
