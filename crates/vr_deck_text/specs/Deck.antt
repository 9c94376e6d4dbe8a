-- The deck that lines say, or their first fault: line by line, and word by word from the left. What
-- is missing is reported last. The requests are those of Using Data Sets; how a deck is written is
-- this project's own.
use Rattle.std.specs.Prelude.{◌≡◌, ℕ, ◌+◌, Bool, not, ◌&&◌, ◌||◌, ◌==◌, nat_le, nat_lt, List, []}
use Rattle.std.specs.Prelude.{◌∷◌, ◌++◌, length, slice_index, bytes_eq, Option, Some, None, Result, Ok, Err}
use Rattle.std.specs.Prelude.{if◌then◌else◌, is_some}
use Rattle.std.specs.Option.{unwrap_or}
use Rattle.vr_types.specs.declared.unit.Integrity.{Integrity}
use Rattle.vr_types.specs.declared.unit.Integrity.TheVariants.{Nri}
use Rattle.vr_text.specs.Lines.{Line}
use Rattle.vr_text.specs.Words.{is_file_name, name_in}
use Rattle.vr_deck_text.specs.declared.fault.DeckCause.{DeckCause}
use Rattle.vr_deck_text.specs.declared.fault.DeckCause.TheVariants as causes
use Rattle.vr_deck_text.specs.declared.fault.DeckFault.{DeckFault}
use Rattle.vr_deck_text.specs.declared.fault.DeckFault.TheVariants.{Text, Memory}
use Rattle.vr_deck_text.specs.declared.fault.LineFault.{LineFault}
use Rattle.vr_deck_text.specs.declared.given.Given.{Given}
use Rattle.vr_deck_text.specs.declared.order.Declared.{Declared}
use Rattle.vr_deck_text.specs.declared.row.FileVerb.{FileVerb}
use Rattle.vr_deck_text.specs.declared.row.FileVerb.TheVariants.{Get, Point, Put, Erase, EndReq}
use Rattle.vr_deck_text.specs.declared.row.Verb.{Verb}
use Rattle.vr_deck_text.specs.declared.row.Verb.TheVariants.{File, Commit, Backout, On}
use Rattle.vr_deck_text.specs.declared.text.Ask.{Ask}
use Rattle.vr_deck_text.specs.declared.text.Ask.TheVariants as asks
use Rattle.vr_deck_text.specs.declared.text.At.{At}
use Rattle.vr_deck_text.specs.declared.text.DeckFile.{DeckFile}
use Rattle.vr_deck_text.specs.declared.text.DeckText.{DeckText}
use Rattle.vr_deck_text.specs.declared.text.Seek.{Seek}
use Rattle.vr_deck_text.specs.declared.text.Seek.TheVariants.{Next, Equal, AtLeast}
use Rattle.vr_deck_text.specs.Operands.{operands_in}
use Rattle.vr_deck_text.specs.Rows.{verb_named, rows_of, needs_of}
use Rattle.vr_deck_text.specs.Tables.{file_rows, settles_nothing}
use Rattle.vr_deck_text.specs.Words.{words, without_end}

-- the causes by number, as listings have them
abbrev pub cause_number : DeckCause → ℕ
cause_number causes.UnknownVerb = 1
cause_number causes.BadFileName = 2
cause_number causes.NotDeclared = 3
cause_number causes.DeclaredTwice = 4
cause_number causes.BadDataSetName = 5
cause_number causes.Operands = 6
cause_number causes.BadLiteral = 7
cause_number causes.BadNumber = 8
cause_number causes.UnknownOperand = 9

-- the file of a name among files numbered from i on
abbrev pub named_from : ℕ → List DeckFile → List ℕ → Option Declared
named_from i [] name = None
named_from i (file ∷ files) name =
    if bytes_eq file.name name then Some (record { slot = i; integrity = file.integrity }) else
    named_from (i + 1) files name

abbrev pub file_named : List DeckFile → List ℕ → Option Declared
file_named files name = named_from 0 files name

-- the file that a word names has to be declared above
abbrev pub if_declared : Option Declared → Result Declared DeckCause
if_declared None = Err causes.NotDeclared
if_declared (Some file) = Ok file

abbrev pub file_at : List DeckFile → List ℕ → Result Declared DeckCause
file_at files word =
    if is_file_name word then if_declared (file_named files word) else Err causes.BadFileName

-- SEQ has no place; GE asks for the first record there or past it
abbrev pub seek_of : Option At → Bool → Seek
seek_of None least = Next
seek_of (Some at) least = if least then AtLeast at else Equal at

-- what a verb asks of a file; a request's own integrity goes before the file's
abbrev pub asked : FileVerb → Declared → Given → Ask
asked Get file given =
    asks.Get file.slot (seek_of given.at given.settles.least) given.settles.update
    (unwrap_or given.integrity file.integrity)
asked Point file given = asks.Point file.slot (seek_of given.at given.settles.least)
asked Put file given =
    if given.settles.update then asks.Update file.slot given.bytes else asks.Add file.slot given.at
    given.bytes
asked Erase file given = asks.Erase file.slot
asked EndReq file given = asks.EndReq file.slot

abbrev pub asked_by : FileVerb → Declared → Result Given DeckCause → Result Ask DeckCause
asked_by verb file (Err cause) = Err cause
asked_by verb file (Ok given) = Ok (asked verb file given)

abbrev pub order_on : FileVerb → Declared → List (List ℕ) → Result Ask DeckCause
order_on verb file words = asked_by verb file (operands_in (rows_of verb) (needs_of verb) words)

abbrev pub order_by : FileVerb → Result Declared DeckCause → List (List ℕ) → Result Ask DeckCause
order_by verb (Err cause) words = Err cause
order_by verb (Ok file) words = order_on verb file words

-- an order on a file names it first
abbrev pub order_in : List DeckFile → FileVerb → List (List ℕ) → Result Ask DeckCause
order_in files verb [] = Err causes.Operands
order_in files verb (name ∷ words) = order_by verb (file_at files name) words

-- COMMIT and BACKOUT have no operand
abbrev pub end_in : Ask → List (List ℕ) → Result Ask DeckCause
end_in ask [] = Ok ask
end_in ask (word ∷ words) = Err causes.UnknownOperand

-- what is wrong with declaring a file of this name after these
abbrev pub name_fault : List DeckFile → List ℕ → Option DeckCause
name_fault files name =
    if is_file_name name then (if nat_le 64 (length files) || is_some (file_named files name) then
    Some causes.DeclaredTwice else None) else Some causes.BadFileName

-- a file's integrity is NRI where none is given
abbrev pub integrity_by : Result Given DeckCause → Result Integrity DeckCause
integrity_by (Err cause) = Err cause
integrity_by (Ok given) = Ok (unwrap_or given.integrity Nri)

abbrev pub integrity_in : List (List ℕ) → Result Integrity DeckCause
integrity_in words = integrity_by (operands_in file_rows settles_nothing words)

abbrev pub file_with : List ℕ → List ℕ → Result Integrity DeckCause → Result DeckFile DeckCause
file_with name data_set (Err cause) = Err cause
file_with name data_set (Ok integrity) =
    Ok (record { name = name; data_set = data_set; integrity = integrity })

abbrev pub file_on : List ℕ → List ℕ → List (List ℕ) → Result DeckFile DeckCause
file_on name data_set words = file_with name data_set (integrity_in words)

abbrev pub file_if : List ℕ → Option (List ℕ) → List (List ℕ) → Result DeckFile DeckCause
file_if name None words = Err causes.BadDataSetName
file_if name (Some data_set) words = file_on name data_set words

-- after its name comes that of its data set
abbrev pub file_of : List ℕ → List (List ℕ) → Result DeckFile DeckCause
file_of name [] = Err causes.Operands
file_of name (word ∷ words) = file_if name (name_in word) words

abbrev pub file_unless : Option DeckCause → List ℕ → List (List ℕ) → Result DeckFile DeckCause
file_unless (Some cause) name words = Err cause
file_unless None name words = file_of name words

abbrev pub file_in : List DeckFile → List (List ℕ) → Result DeckFile DeckCause
file_in files [] = Err causes.Operands
file_in files (name ∷ words) = file_unless (name_fault files name) name words

-- a deck with a file more, and with an order more
abbrev pub file_added : DeckText → DeckFile → DeckText
file_added deck file = record { files = deck.files ++ file ∷ []; orders = deck.orders }

abbrev pub order_added : DeckText → ℕ → Ask → DeckText
order_added deck number ask =
    record { files = deck.files; orders = deck.orders ++ record { line = number; ask = ask } ∷ [] }

abbrev pub with_file : DeckText → Result DeckFile DeckCause → Result DeckText DeckCause
with_file deck (Err cause) = Err cause
with_file deck (Ok file) = Ok (file_added deck file)

abbrev pub with_order : DeckText → ℕ → Result Ask DeckCause → Result DeckText DeckCause
with_order deck number (Err cause) = Err cause
with_order deck number (Ok ask) = Ok (order_added deck number ask)

abbrev pub with_verb : DeckText → ℕ → Verb → List (List ℕ) → Result DeckText DeckCause
with_verb deck number File words = with_file deck (file_in deck.files words)
with_verb deck number Commit words = with_order deck number (end_in asks.Commit words)
with_verb deck number Backout words = with_order deck number (end_in asks.Backout words)
with_verb deck number (On verb) words = with_order deck number (order_in deck.files verb words)

abbrev pub with_named : DeckText → ℕ → Option Verb → List (List ℕ) → Result DeckText DeckCause
with_named deck number None words = Err causes.UnknownVerb
with_named deck number (Some verb) words = with_verb deck number verb words

-- a line without a word is nothing
abbrev pub with_line_words : DeckText → ℕ → List (List ℕ) → Result DeckText DeckCause
with_line_words deck number [] = Ok deck
with_line_words deck number (word ∷ words) = with_named deck number (verb_named word) words

-- blanks at the end of a line don't count
abbrev pub is_long : List ℕ → Bool
is_long text = nat_lt 80000 (length (without_end text))

-- a comment begins with `*`
abbrev pub is_comment : List ℕ → Bool
is_comment text = not (length text == 0) && slice_index text 0 == 42

-- what a line does to the deck of the lines before it
abbrev pub with_line : DeckText → ℕ → List ℕ → Result DeckText DeckCause
with_line deck number text =
    if is_long text then Err causes.UnknownOperand else (if is_comment text then Ok deck else
    with_line_words deck number (words text))

-- a fault is reported with the number of its line
abbrev pub told_at : ℕ → Result DeckText DeckCause → Result DeckText LineFault
told_at number (Err cause) = Err (record { line = number; cause = cause })
told_at number (Ok deck) = Ok deck

-- line by line: the first fault stays
abbrev pub with_lines : Result DeckText LineFault → List Line → Result DeckText LineFault
with_lines (Err fault) lines = Err fault
with_lines (Ok deck) [] = Ok deck
with_lines (Ok deck) (line ∷ lines) =
    with_lines (told_at line.number (with_line deck line.number line.text)) lines

abbrev pub empty_deck : DeckText
empty_deck = record { files = []; orders = [] }

-- the deck of some lines, or their first fault
abbrev pub deck_of : List Line → Result DeckText LineFault
deck_of lines = with_lines (Ok empty_deck) lines

abbrev pub IsDeck : List Line → DeckText → Type 0
IsDeck lines deck = deck_of lines ≡ Ok deck

abbrev pub IsFirstFault : List Line → LineFault → Type 0
IsFirstFault lines fault = deck_of lines ≡ Err fault

-- when each fault comes; memory may run out at any time
abbrev pub FaultBy : Result DeckText LineFault → DeckFault → Type 0
FaultBy outcome (Text fault) = outcome ≡ Err fault
FaultBy outcome Memory = Unit {0}

abbrev pub CauseOf : List Line → DeckFault → Type 0
CauseOf lines fault = FaultBy (deck_of lines) fault
