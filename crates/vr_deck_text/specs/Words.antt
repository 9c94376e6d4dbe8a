-- The words of a line of a deck. The rules are this project's own.
use Rattle.std.specs.Prelude.{ℕ, ◌-◌, Bool, false, not, ◌&&◌, ◌==◌, List, [], ◌∷◌, ◌++◌, length, take}
use Rattle.std.specs.Prelude.{if◌then◌else◌}
use Rattle.std.specs.List.{suffix_len}

-- a blank stands between words, unless it is between quotes
abbrev pub is_gap : Bool → ℕ → Bool
is_gap quoted b = not quoted && b == 32

-- what follows a byte is between quotes
abbrev pub turned : Bool → ℕ → Bool
turned quoted b = if b == 39 then not quoted else quoted

-- a word before others; between two blanks there is none
abbrev pub before : List ℕ → List (List ℕ) → List (List ℕ)
before [] words = words
before (b ∷ bs) words = (b ∷ bs) ∷ words

-- the words of a text that goes on with one of which this was read
abbrev pub words_from : Bool → List ℕ → List ℕ → List (List ℕ)
words_from quoted word [] = before word []
words_from quoted word (b ∷ bs) =
    if is_gap quoted b then before word (words_from false [] bs) else words_from (turned quoted b)
    (word ++ b ∷ []) bs

abbrev pub words : List ℕ → List (List ℕ)
words text = words_from false [] text

-- the keyword of an operand: its bytes up to the first `=`, or all
abbrev pub keyword : List ℕ → List ℕ
keyword [] = []
keyword (b ∷ bs) = if b == 61 then b ∷ [] else b ∷ keyword bs

-- what follows it
abbrev pub value : List ℕ → List ℕ
value [] = []
value (b ∷ bs) = if b == 61 then bs else value bs

abbrev pub is_blank : ℕ → Bool
is_blank b = b == 32

-- a line without the blanks at its end
abbrev pub without_end : List ℕ → List ℕ
without_end text = take (length text - suffix_len is_blank text) text
