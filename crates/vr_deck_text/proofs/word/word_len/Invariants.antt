use Rattle.std.proofs.Common.{◌≡◌, take, drop, false}
use Rattle.vr_deck_text.specs.Words.{words, words_from}
use Rattle.vr_deck_text.proofs.word.word_len.Given as goal

-- the text goes on with the word so far
abbrev pub invariant-loop-at : goal.invariant-loop-at
invariant-loop-at l = record {
  going : words l.text ≡ words_from l.quoted (take l.at l.text) (drop l.at l.text);
  unquoted : l.at ≡ 0 → l.quoted ≡ false;
}
