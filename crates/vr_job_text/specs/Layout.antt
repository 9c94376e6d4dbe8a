-- How a job text is laid out: its steps, and what follows their cards, line by line. Lines are read in
-- order up to the first one that is wrong by itself or after the lines before it. The cards are those
-- of MVS JCL; how decks and the text of IDCAMS stand in a job is this project's own.
use Rattle.std.specs.Prelude.{ℕ, ◌+◌, ◌==◌, Bool, false, not, ◌&&◌, nat_le, nat_lt, List, [], ◌∷◌, ◌++◌}
use Rattle.std.specs.Prelude.{length, codes, bytes_eq, Option, Some, None, Result, Ok, Err}
use Rattle.std.specs.Prelude.{if◌then◌else◌}
use Rattle.std.specs.List.{list_any}
use Rattle.vr_deck_text.specs.Words.{without_end}
use Rattle.vr_job_text.specs.declared.card.Card.{Card}
use Rattle.vr_job_text.specs.declared.card.Card.TheVariants.{Nothing, Step as StepCard, Data as DataCard}
use Rattle.vr_job_text.specs.declared.card.Program.{Program}
use Rattle.vr_job_text.specs.declared.card.Program.TheVariants.{Decks, Utilities}
use Rattle.vr_job_text.specs.declared.fault.CardCause.{CardCause}
use Rattle.vr_job_text.specs.declared.fault.CardCause.TheVariants.{Misspelled, StrayText}
use Rattle.vr_job_text.specs.declared.fault.CardCause.TheVariants.{DeckNumber, Character}
use Rattle.vr_job_text.specs.declared.fault.CardCause.TheVariants.{LongData, TooManyDecks, DataTwice}
use Rattle.vr_job_text.specs.declared.fault.CardFault.{CardFault}
use Rattle.vr_job_text.specs.declared.fault.TextFault.{TextFault}
use Rattle.vr_job_text.specs.declared.reading.Begun.{Begun}
use Rattle.vr_job_text.specs.declared.reading.Part.{Part}
use Rattle.vr_job_text.specs.declared.reading.PartKind.{PartKind}
use Rattle.vr_job_text.specs.declared.reading.PartKind.TheVariants.{Deck, Commands, Data}
use Rattle.vr_job_text.specs.declared.reading.Reading.{Reading}
use Rattle.vr_job_text.specs.declared.reading.StepText.{StepText}
use Rattle.vr_job_text.specs.Card.{is_card, card_of, name_on, deck_number}
use Rattle.vr_job_text.specs.Fault.{wrong, card_fault}
use Rattle.vr_job_text.specs.Text.{job_lines, first_bad, unindented, column_of}

-- before the first line
abbrev pub unread : Reading
unread =
    record { steps = []; begun = None; parts = []; going = None; used = []; fault = None }

-- the fault of a card on a line
abbrev pub faulted : Reading → ℕ → CardFault → Reading
faulted reading number fault =
    record reading { fault = Some (card_fault number fault) }

abbrev pub refused : Reading → ℕ → CardCause → ℕ → Reading
refused reading number cause column = faulted reading number (wrong cause column)

-- what went on is one of the parts of its step
abbrev pub with_open : List Part → Option Part → List Part
with_open parts None = parts
with_open parts (Some part) = parts ++ part ∷ []

-- where nothing goes on
abbrev pub closed : Reading → Reading
closed reading =
    record reading { parts = with_open reading.parts reading.going; going = None }

abbrev pub opened : Reading → Part → Reading
opened reading part = record reading { going = Some part }

-- a line more of what goes on
abbrev pub line_added : Part → ℕ → List ℕ → Part
line_added part number line =
    record part { lines = part.lines ++ record { number = number; text = line } ∷ [] }

-- the step that was begun has ended
abbrev pub step_text : Begun → List Part → StepText
step_text begun parts = record {
  name = begun.name;
  line = begun.line;
  program = begun.program;
  parts = parts;
}

abbrev pub step_added : Reading → Begun → Reading
step_added reading begun = record reading {
  steps = reading.steps ++ step_text begun reading.parts ∷ [];
  begun = None;
  parts = [];
}

abbrev pub ended_by : Reading → Option Begun → Reading
ended_by reading None = reading
ended_by reading (Some begun) = step_added reading begun

abbrev pub ended : Reading → Reading
ended reading = ended_by reading reading.begun

-- commands may follow the card of a step of IDCAMS directly
abbrev pub going_after : Program → Option Part
going_after Decks = None
going_after Utilities = Some (record { kind = Commands; lines = [] })

abbrev pub begun_at : Reading → ℕ → List ℕ → Program → Reading
begun_at reading number name program = record reading {
  begun = Some (record { name = name; line = number; program = program });
  going = going_after program;
}

-- deck numbers are 1 to 99, each once in a job
abbrev pub may_number : List ℕ → ℕ → Bool
may_number used deck = nat_le 1 deck && nat_le deck 99 && not (list_any (λ other. other == deck) used)

abbrev pub announced : Reading → ℕ → Reading
announced reading deck = record reading {
  going = Some (record { kind = Deck deck; lines = [] });
  used = reading.used ++ deck ∷ [];
}

-- a deck of this number is announced on a line; a job has at most 64
abbrev pub with_number : Reading → ℕ → ℕ → Reading
with_number reading line deck =
    if nat_le 64 (length reading.used) then refused reading line TooManyDecks 3 else
    (if may_number reading.used deck then announced reading deck else
    refused reading line DeckNumber 7)

abbrev pub with_deck_card : Reading → ℕ → Option ℕ → Reading
with_deck_card reading line None = refused reading line Misspelled 3
with_deck_card reading line (Some deck) = with_number reading line deck

-- the part is data of this name
abbrev pub is_named : List ℕ → PartKind → Bool
is_named name (Data other) = bytes_eq other name
is_named name (Deck number) = false
is_named name Commands = false

-- data of this name is announced on a line: each name stands once in a step
abbrev pub with_data_name : Reading → ℕ → List ℕ → Reading
with_data_name reading line name =
    if list_any (λ part. is_named name part.kind) reading.parts then
    refused reading line DataTwice 3 else
    opened reading (record { kind = Data name; lines = [] })

-- in a step of IDCAMS commands follow SYSIN, which may stand twice, and data other names
abbrev pub with_dd : Reading → ℕ → List ℕ → Reading
with_dd reading line name =
    if bytes_eq name (codes "SYSIN") then opened reading (record { kind = Commands; lines = [] })
    else with_data_name reading line name

abbrev pub with_data_of : Reading → ℕ → Program → List ℕ → Reading
with_data_of reading line Decks name = with_deck_card reading line (deck_number name)
with_data_of reading line Utilities name = with_dd reading line name

-- data belongs to a step
abbrev pub with_data : Reading → ℕ → Option Begun → List ℕ → Reading
with_data reading line None name = refused reading line Misspelled 3
with_data reading line (Some begun) name = with_data_of reading line begun.program name

-- what a card does; each card ends what goes on
abbrev pub with_card : Reading → ℕ → List ℕ → Result Card CardFault → Reading
with_card reading number line (Err fault) = faulted reading number fault
with_card reading number line (Ok Nothing) = reading
with_card reading number line (Ok (StepCard program)) =
    begun_at (ended reading) number (name_on line) program
with_card reading number line (Ok DataCard) =
    with_data reading number reading.begun (name_on line)

-- a data card has at most 80 characters, and blanks at its end count
abbrev pub is_long : PartKind → List ℕ → Bool
is_long (Data name) whole = nat_lt 80 (length whole)
is_long (Deck number) whole = false
is_long Commands whole = false

-- what is kept of a line, which is handed in whole and without the blanks at its end
abbrev pub text_kept : PartKind → List ℕ → List ℕ → List ℕ
text_kept (Data name) whole line = whole
text_kept (Deck number) whole line = line
text_kept Commands whole line = line

abbrev pub with_part_line : Reading → ℕ → List ℕ → List ℕ → Part → Reading
with_part_line reading number whole line part =
    if is_long part.kind whole then refused reading number LongData 81 else
    opened reading (line_added part number (text_kept part.kind whole line))

-- text may stand where something goes on
abbrev pub with_stray : Reading → ℕ → List ℕ → Reading
with_stray reading number line =
    if length line == 0 then reading else
    refused reading number StrayText (column_of line (unindented line))

abbrev pub with_body : Reading → ℕ → List ℕ → List ℕ → Option Part → Reading
with_body reading number whole line (Some part) =
    with_part_line reading number whole line part
with_body reading number whole line None = with_stray reading number line

-- what a line of right characters does, whole and without the blanks at its end; `/*` ends what goes
-- on
abbrev pub with_text : Reading → ℕ → List ℕ → List ℕ → Reading
with_text reading number whole line =
    if is_card line then with_card (closed reading) number line (card_of line) else
    (if bytes_eq line (codes "/*") then closed reading else
    with_body reading number whole line reading.going)

-- a character that isn't allowed goes before the other faults of its line
abbrev pub unless_bad : Reading → ℕ → List ℕ → Option ℕ → Reading
unless_bad reading number line (Some at) = refused reading number Character (at + 1)
unless_bad reading number line None = with_text reading number line (without_end line)

-- what a line does
abbrev pub with_line : Reading → ℕ → List ℕ → Reading
with_line reading number line = unless_bad reading number line (first_bad line)

-- nothing is read past a fault
abbrev pub with_next : Option TextFault → Reading → ℕ → List ℕ → Reading
with_next (Some fault) reading number line = reading
with_next None reading number line = with_line reading number line

-- lines that are numbered from this number on
abbrev pub with_lines : ℕ → Reading → List (List ℕ) → Reading
with_lines number reading [] = reading
with_lines number reading (line ∷ lines) =
    with_lines (number + 1) (with_next reading.fault reading number line) lines

-- the end of a text ends its last step
abbrev pub finished_by : Option TextFault → Reading → Reading
finished_by (Some fault) reading = reading
finished_by None reading = ended (closed reading)

abbrev pub finished : Reading → Reading
finished reading = finished_by reading.fault reading

-- what a text is laid out as: the steps that end before its first line that is wrong, and the fault of
-- that line; or all of its steps, and no fault
abbrev pub laid : List ℕ → Reading
laid text = finished (with_lines 1 unread (job_lines text))
