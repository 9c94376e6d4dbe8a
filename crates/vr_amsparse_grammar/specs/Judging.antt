-- What may stand as a value, and the fault of what may not. The kinds of values are those of Access
-- Method Services Commands; what is left out is this project's own choice.
use Rattle.std.specs.Prelude.{ℕ, Bool, ◌&&◌, ◌||◌, ◌==◌, not, nat_le, List, length, codes, bytes_eq}
use Rattle.std.specs.Prelude.{slice_index, Option, Some, None, is_some, if◌then◌else◌}
use Rattle.std.specs.List.{list_any}
use Rattle.vr_text.specs.Words.{name_in, number_in}
use Rattle.vr_scan.specs.declared.token.TokenKind.{TokenKind}
use Rattle.vr_scan.specs.declared.token.TokenKind.TheVariants as kinds
use Rattle.vr_amsparse_grammar.specs.declared.cause.AmsCause.{AmsCause}
use Rattle.vr_amsparse_grammar.specs.declared.cause.AmsCause.TheVariants as causes
use Rattle.vr_amsparse_grammar.specs.declared.row.Range.{Range}
use Rattle.vr_amsparse_grammar.specs.declared.row.Value.{Value}
use Rattle.vr_amsparse_grammar.specs.declared.row.Value.TheVariants as values
use Rattle.vr_amsparse_grammar.specs.Words.{is_class}

-- no fault where a test holds, else this one
abbrev pub unless : Bool → AmsCause → Option AmsCause
unless holds cause = if holds then None else Some cause

-- a data set is named by a word that is its name; one with `*` is left out
abbrev pub name_fault : TokenKind → List ℕ → Option AmsCause
name_fault kinds.Word text =
    if list_any (λ b. b == 42) text then Some causes.LeftOut else unless
    (is_some (name_in text)) causes.BadName
name_fault kind text = Some causes.BadName

-- a class is named by a word that is a name without a dot
abbrev pub class_fault : TokenKind → List ℕ → Option AmsCause
class_fault kinds.Word text = unless (is_class text) causes.BadName
class_fault kind text = Some causes.BadName

-- INFILE names data of the step
abbrev pub data_fault : TokenKind → List ℕ → List (List ℕ) → Option AmsCause
data_fault kinds.Word text names = unless (list_any (λ one. bytes_eq one text) names)
    causes.NoSuchData
data_fault kind text names = Some causes.BadName

-- a serial has 1 to 6 characters
abbrev pub serial_fault : TokenKind → List ℕ → Option AmsCause
serial_fault kinds.Word text = unless (not (length text == 0) && nat_le (length text) 6)
    causes.BadName
serial_fault kind text = Some causes.BadName

-- LOG takes UNDO; NONE and ALL are left out
abbrev pub log_fault : TokenKind → List ℕ → Option AmsCause
log_fault kinds.Word text =
    if bytes_eq text (codes "UNDO") then None else (if bytes_eq text (codes "NONE")
    || bytes_eq text (codes "ALL") then Some causes.LeftOut else Some causes.UnknownParameter)
log_fault kind text = Some causes.UnknownParameter

-- a literal, or a word that stands for its characters
abbrev pub text_fault : TokenKind → Option AmsCause
text_fault kinds.Word = None
text_fault kinds.Characters = None
text_fault kinds.Hex = None
text_fault kind = Some causes.BadLiteral

-- a word that begins with a quote: a literal without its letter
abbrev pub begins_quoted : List ℕ → Bool
begins_quoted text = not (length text == 0) && slice_index text 0 == 39

-- a key is a literal, or a word that stands for its characters
abbrev pub key_fault : TokenKind → List ℕ → Option AmsCause
key_fault kinds.Word text = unless (not (begins_quoted text)) causes.BadLiteral
key_fault kind text = text_fault kind

-- a number within its range
abbrev pub range_fault : Range → Option ℕ → Option AmsCause
range_fault range None = Some causes.BadNumber
range_fault range (Some n) = unless (nat_le range.least n && nat_le n range.most)
    causes.NumberOutOfRange

abbrev pub number_fault : Range → TokenKind → List ℕ → Option AmsCause
number_fault range kinds.Word text = range_fault range (number_in text)
number_fault range kind text = Some causes.BadNumber

-- what is wrong with a token as the value in a place, counted from 0
abbrev pub value_fault : Value → ℕ → TokenKind → List ℕ → List (List ℕ) → Option AmsCause
value_fault values.Name place kind text names = name_fault kind text
value_fault values.Class place kind text names = class_fault kind text
value_fault values.Data place kind text names = data_fault kind text names
value_fault values.Serial place kind text names = serial_fault kind text
value_fault values.Log place kind text names = log_fault kind text
value_fault values.Text place kind text names = text_fault kind
value_fault values.Key place kind text names = key_fault kind text
value_fault (values.Number first second) place kind text names =
    number_fault (if place == 0 then first else second) kind text
