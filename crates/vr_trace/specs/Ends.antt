-- The one line of a job that ends otherwise than by its steps. The lines are this project's own.
use Rattle.std.specs.Prelude.{ℕ, List, [], ◌∷◌, ◌++◌, codes}
use Rattle.vr_trace.specs.declared.ending.TextKind.{TextKind}
use Rattle.vr_trace.specs.declared.ending.TextKind.TheVariants.{Card, Scan, Ams, Deck, Form}
use Rattle.vr_trace.specs.declared.ending.EndLine.{EndLine}
use Rattle.vr_trace.specs.declared.ending.EndLine.TheVariants.{NoCommand, ReadFault, InputTooLong}
use Rattle.vr_trace.specs.declared.ending.EndLine.TheVariants.{Refused, DeviceFault, Damaged}
use Rattle.vr_trace.specs.declared.ending.EndLine.TheVariants.{Version, Geometry, Shelf}
use Rattle.vr_trace.specs.declared.ending.EndLine.TheVariants.{StampsUsedUp, Formatted, NoMemory}
use Rattle.vr_trace.specs.Lines.{field}

-- which text is at fault, and the number of the fault
abbrev pub kind_text : TextKind → List ℕ
kind_text (Card number) = field (codes "CARD ") number
kind_text (Scan number) = field (codes "SCAN ") number
kind_text (Ams number) = field (codes "AMS ") number
kind_text (Deck number) = field (codes "DECK ") number
kind_text Form = codes "FORM 0"

abbrev pub position_text : ℕ → ℕ → List ℕ
position_text line column = field (codes " LINE ") line ++ field (codes " COLUMN ") column

-- what the line says, without its line feed
abbrev pub end_text : EndLine → List ℕ
end_text NoCommand = codes "NO COMMAND"
end_text ReadFault = codes "READ FAULT"
end_text InputTooLong = codes "INPUT TOO LONG"
end_text (Refused kind line column) =
    codes "JOB REFUSED " ++ kind_text kind ++ position_text line column
end_text (DeviceFault volume) = field (codes "VOLUME ") volume ++ codes " DEVICE FAULT"
end_text (Damaged volume block rule) =
    field (codes "VOLUME ") volume ++ field (codes " DAMAGED BLOCK ") block
    ++ field (codes " RULE ") rule
end_text (Version volume version) =
    field (codes "VOLUME ") volume ++ field (codes " VERSION ") version
end_text (Geometry volume) = field (codes "VOLUME ") volume ++ codes " GEOMETRY"
end_text (Shelf devices) = field (codes "SHELF ") devices
end_text StampsUsedUp = codes "STAMPS USED UP"
end_text (Formatted volumes) = field (codes "FORMATTED ") volumes
end_text NoMemory = []

-- what such a job prints: a line, or nothing where memory ran out
abbrev pub end_line_of : EndLine → List ℕ
end_line_of NoMemory = []
end_line_of end = end_text end ++ 10 ∷ []

-- the line has a number, so that it takes memory to make it
abbrev pub HasNumber : EndLine → Type 0
HasNumber NoCommand = ⊥
HasNumber ReadFault = ⊥
HasNumber InputTooLong = ⊥
HasNumber (Refused kind line column) = Unit {0}
HasNumber (DeviceFault volume) = Unit {0}
HasNumber (Damaged volume block rule) = Unit {0}
HasNumber (Version volume version) = Unit {0}
HasNumber (Geometry volume) = Unit {0}
HasNumber (Shelf devices) = Unit {0}
HasNumber StampsUsedUp = ⊥
HasNumber (Formatted volumes) = Unit {0}
HasNumber NoMemory = ⊥
