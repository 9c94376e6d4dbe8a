-- The commands of the program, and what words ask for. The rules are this project's own.
use Rattle.std.specs.Prelude.{◌≡◌, ◌≢◌, ◌⊎◌, ℕ, ◌≤◌, true, false, ◌&&◌, List, [], ◌∷◌, ◌++◌, length}
use Rattle.std.specs.Prelude.{codes, bytes_eq, Option, Some, None, if◌then◌else◌}
use Rattle.std.specs.Str.Parse.{IsNumeral}
use Rattle.vr_text.specs.Number.{number_of}
use Rattle.vr_job_ends.specs.Asked.{Asked, Run, Format}
use Rattle.vr_job_ends.specs.Words.{is_name, is_name_or_dash, is_numeral, is_count}

-- a word that doesn't begin with `-`
abbrev pub IsName : List ℕ → Type 0
IsName word = (rest : List ℕ) → word ≢ codes "-" ++ rest

-- likewise, or `-` itself
abbrev pub IsNameOrDash : List ℕ → Type 0
IsNameOrDash word = IsName word ⊎ (word ≡ codes "-")

-- 1 to 10 digits that write the number
abbrev pub Writes : List ℕ → ℕ → Type 0
Writes word n = IsNumeral 10 word × (length word ≤ 10) × (n ≡ number_of word)

-- `run JOB DIR` or `trace JOB DIR`
pub record IsRun (words : List (List ℕ)) (verb job dir : List ℕ) : Type 0 where
  pub words_are : words ≡ verb ∷ job ∷ dir ∷ []
  pub job_is : IsNameOrDash job
  pub dir_is : IsNameOrDash dir

-- the numbers of a format after DIR COUNT: none, which stands for volumes of 4,096 bytes a block,
-- 2,048 blocks, 64 of them the log's, and areas of 15
pub record AreDefaults (words : List (List ℕ)) (size blocks log area : ℕ) : Type 0 where
  pub no_words : words ≡ []
  pub size_is : size ≡ 4096
  pub blocks_is : blocks ≡ 2048
  pub log_is : log ≡ 64
  pub area_is : area ≡ 15

-- or all four, SIZE BLOCKS LOG AREA
pub record AreGiven (words : List (List ℕ)) (size blocks log area : ℕ) : Type 0 where
  pub size_word : List ℕ
  pub blocks_word : List ℕ
  pub log_word : List ℕ
  pub area_word : List ℕ
  pub words_are : words ≡ size_word ∷ blocks_word ∷ log_word ∷ area_word ∷ []
  pub size_is : Writes size_word size
  pub blocks_is : Writes blocks_word blocks
  pub log_is : Writes log_word log
  pub area_is : Writes area_word area

-- `format DIR COUNT` or `format DIR COUNT SIZE BLOCKS LOG AREA`
pub record IsFormat (words : List (List ℕ)) (dir : List ℕ) (count size blocks log area : ℕ)
    : Type 0 where
  pub count_word : List ℕ
  pub numbers : List (List ℕ)
  pub words_are : words ≡ codes "format" ∷ dir ∷ count_word ∷ numbers
  pub dir_is : IsName dir
  pub count_is : Writes count_word count
  pub some : 1 ≤ count
  pub few : count ≤ 16
  pub numbers_are : AreDefaults numbers size blocks log area
      ⊎ AreGiven numbers size blocks log area

-- the words are a command that asks for this
abbrev pub Asks : List (List ℕ) → Asked → Type 0
Asks words (Run job dir false) = IsRun words (codes "run") job dir
Asks words (Run job dir true) = IsRun words (codes "trace") job dir
Asks words (Format dir count size blocks log area) = IsFormat words dir count size blocks log area

-- The same as a function. What `format DIR COUNT` asks for:
abbrev pub default_format : List ℕ → List ℕ → Option Asked
default_format dir count =
    if is_name dir && is_count count then Some (Format dir (number_of count) 4096 2048 64 15) else
    None

-- what a verb asks for with JOB and DIR
abbrev pub run_by : List ℕ → List ℕ → List ℕ → Option Asked
run_by verb job dir =
    if bytes_eq verb (codes "run") then Some (Run job dir false) else
    (if bytes_eq verb (codes "trace") then Some (Run job dir true) else None)

-- what three words ask for
abbrev pub by_three : List ℕ → List ℕ → List ℕ → Option Asked
by_three verb first second =
    if bytes_eq verb (codes "format") then default_format first second else
    (if is_name_or_dash first && is_name_or_dash second then run_by verb first second else None)

-- and seven
abbrev pub by_seven : List ℕ → List ℕ → List ℕ → List ℕ → List ℕ → List ℕ → List ℕ
    → Option Asked
by_seven verb dir count size blocks log area =
    if bytes_eq verb (codes "format") && is_name dir && is_count count && is_numeral size
    && is_numeral blocks && is_numeral log && is_numeral area then Some (Format dir
    (number_of count) (number_of size) (number_of blocks) (number_of log) (number_of area)) else None

-- what words ask for, if they are a command
abbrev pub plan_of : List (List ℕ) → Option Asked
plan_of (verb ∷ first ∷ second ∷ []) = by_three verb first second
plan_of (verb ∷ dir ∷ count ∷ size ∷ blocks ∷ log ∷ area ∷ []) =
    by_seven verb dir count size blocks log area
plan_of words = None
