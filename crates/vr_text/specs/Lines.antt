-- Lines of a job text.
use Rattle.std.specs.Prelude.{ℕ, List, [], slice_index_or}

-- a line: its number in the job text, from 1, and its bytes
pub record Line : Type 0 where
  pub number : ℕ
  pub text : List ℕ

-- the line at a place of a list
abbrev pub line_at : List Line → ℕ → Line
line_at lines i = slice_index_or lines i (record { number = 0; text = [] })
