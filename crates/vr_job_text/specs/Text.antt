-- The lines of a job text, their words and their columns. The rules are this project's own, after
-- those of MVS JCL.
use Rattle.std.specs.Prelude.{ℕ, ◌+◌, ◌-◌, Bool, not, ◌&&◌, nat_le, List, length, map, drop, Option}
use Rattle.std.specs.Prelude.{position, take_while}
use Rattle.std.specs.List.{prefix_len}
use Rattle.bstr.specs.Text.{lines_of, without_terminator}
use Rattle.vr_deck_text.specs.Words.{is_blank}

-- the lines of a text: each is ended by a line feed, the last one perhaps by none; a carriage return
-- before the line feed is dropped
abbrev pub job_lines : List ℕ → List (List ℕ)
job_lines text = map without_terminator (lines_of text)

-- the characters that may stand in a job, X'20' to X'7E'
abbrev pub is_printable : ℕ → Bool
is_printable b = nat_le 32 b && nat_le b 126

-- where the first other one is
abbrev pub first_bad : List ℕ → Option ℕ
first_bad line = position (λ b. not (is_printable b)) line

-- a line from its first byte on that is not a blank
abbrev pub unindented : List ℕ → List ℕ
unindented line = drop (prefix_len is_blank line) line

-- the word that a line begins with: its bytes up to the first blank
abbrev pub word : List ℕ → List ℕ
word line = take_while (λ b. not (is_blank b)) line

-- what follows that word and the blanks after it
abbrev pub after_word : List ℕ → List ℕ
after_word line = unindented (drop (length (word line)) line)

-- the column where the rest of a line begins, counted from 1; that after the line where nothing is
-- left
abbrev pub column_of : List ℕ → List ℕ → ℕ
column_of line rest = length line - length rest + 1
