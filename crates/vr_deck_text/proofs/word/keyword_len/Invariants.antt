use Rattle.std.proofs.Common.{◌≡◌, ◌++◌, take, drop}
use Rattle.vr_deck_text.specs.Words.{keyword, value}
use Rattle.vr_deck_text.proofs.word.keyword_len.Given as goal

-- the keyword goes on, and the value follows
abbrev pub invariant-loop-at : goal.invariant-loop-at
invariant-loop-at l = record {
  keyword : keyword l.word ≡ take l.at l.word ++ keyword (drop l.at l.word);
  value : value l.word ≡ value (drop l.at l.word);
}
