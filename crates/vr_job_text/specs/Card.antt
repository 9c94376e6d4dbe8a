-- Job control cards, after MVS JCL: lines that begin with `//`. JOB, EXEC and DD are words of their
-- own, and nothing is folded. Which cards there are, and which fault each other one has, is this
-- project's own rule.
use Rattle.std.specs.Prelude.{ℕ, ◌==◌, Bool, not, ◌&&◌, ◌||◌, nat_le, List, length, take, drop}
use Rattle.std.specs.Prelude.{codes, slice_index, bytes_eq, take_while, Option, Some, None, Result, Ok, Err}
use Rattle.std.specs.Prelude.{if◌then◌else◌}
use Rattle.std.specs.Char.{is_ascii_digit}
use Rattle.std.specs.List.{list_all}
use Rattle.std.specs.Str.Parse.{digits_value}
use Rattle.vr_text.specs.Words.{is_file_name}
use Rattle.vr_job_text.specs.declared.card.Card.{Card}
use Rattle.vr_job_text.specs.declared.card.Card.TheVariants.{Nothing, Step, Data}
use Rattle.vr_job_text.specs.declared.card.Program.TheVariants.{Decks, Utilities}
use Rattle.vr_job_text.specs.declared.fault.CardCause.TheVariants.{Misspelled, OtherProgram}
use Rattle.vr_job_text.specs.declared.fault.CardCause.TheVariants.{StrayText}
use Rattle.vr_job_text.specs.declared.fault.CardFault.{CardFault}
use Rattle.vr_job_text.specs.Fault.{wrong}
use Rattle.vr_job_text.specs.Text.{unindented, word, after_word, column_of}

-- a line that is a card
abbrev pub is_card : List ℕ → Bool
is_card line = nat_le 2 (length line) && bytes_eq (take 2 line) (codes "//")

-- what follows the slashes of a comment, of a card that goes on, and of a line of slashes alone
abbrev pub is_nothing : List ℕ → Bool
is_nothing rest = length rest == 0 || slice_index rest 0 == 42 || slice_index rest 0 == 32

-- the name of a program: what follows PGM=, up to the first blank or comma
abbrev pub program_name : List ℕ → List ℕ
program_name rest = take_while (λ b. not (b == 32 || b == 44)) rest

-- what follows it and the blanks after it
abbrev pub after_program : List ℕ → List ℕ
after_program rest = unindented (drop (length (program_name rest)) rest)

-- what is wrong with a program: text follows that of decks, there is none, or it is another one
abbrev pub other_program : List ℕ → List ℕ → CardFault
other_program line rest =
    if bytes_eq (program_name rest) (codes "VRMDECK") then wrong StrayText
    (column_of line (after_program rest)) else
    (if length (program_name rest) == 0 then wrong Misspelled (column_of line rest) else
    wrong OtherProgram (column_of line rest))

-- the step of a card by what follows PGM= on it; what follows IDCAMS doesn't count
abbrev pub step_of : List ℕ → List ℕ → Result Card CardFault
step_of line rest =
    if bytes_eq (program_name rest) (codes "IDCAMS") then Ok (Step Utilities) else
    (if bytes_eq rest (codes "VRMDECK") then Ok (Step Decks) else Err (other_program line rest))

-- that of a card by what follows EXEC
abbrev pub step_card : List ℕ → List ℕ → Result Card CardFault
step_card line operand =
    if nat_le 4 (length operand) && bytes_eq (take 4 operand) (codes "PGM=") then step_of line
    (drop 4 operand) else Err (wrong Misspelled (column_of line operand))

-- a DD card has data after it where it has nothing but `*`
abbrev pub data_card : List ℕ → Card
data_card operand = if bytes_eq operand (codes "*") then Data else Nothing

-- a card from its operation on
abbrev pub card_from : List ℕ → List ℕ → Result Card CardFault
card_from line rest =
    if bytes_eq (word rest) (codes "JOB") then Ok Nothing else
    (if bytes_eq (word rest) (codes "EXEC") then step_card line (after_word rest) else
    (if bytes_eq (word rest) (codes "DD") then Ok (data_card (after_word rest)) else
    Err (wrong Misspelled (column_of line rest))))

-- a card from its name on
abbrev pub named_card : List ℕ → List ℕ → Result Card CardFault
named_card line rest =
    if is_file_name (word rest) then card_from line (after_word rest) else Err (wrong Misspelled 3)

-- what a card says, or what is wrong with it
abbrev pub card_of : List ℕ → Result Card CardFault
card_of line =
    if is_nothing (drop 2 line) then Ok Nothing else named_card line (drop 2 line)

-- the name on a card
abbrev pub name_on : List ℕ → List ℕ
name_on line = word (drop 2 line)

-- a name that announces a deck is DECK and a number of 1 to 4 digits
abbrev pub is_deck_name : List ℕ → Bool
is_deck_name name =
    nat_le 5 (length name) && nat_le (length name) 8 && bytes_eq (take 4 name) (codes "DECK")
    && list_all is_ascii_digit (drop 4 name)

-- the number of that deck
abbrev pub deck_number : List ℕ → Option ℕ
deck_number name = if is_deck_name name then Some (digits_value 10 (drop 4 name)) else None
