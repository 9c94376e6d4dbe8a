-- The characters of a command text, with their places, once columns and continuations are taken,
-- after Access Method Services Commands. That `+` joins a line to the next line's first character
-- that isn't blank, also where the next line is blank, is this project's own rule.
use Rattle.std.specs.Prelude.{ℕ, ◌+◌, ◌-◌, ◌==◌, Bool, true, false, if◌then◌else◌, nat_lt, Option}
use Rattle.std.specs.Prelude.{Some, None, List, [], ◌∷◌, ◌++◌, length, take, drop, slice_get}
use Rattle.std.specs.List.{prefix_len, suffix_len}
use Rattle.vr_text.specs.Lines.{Line}
use Rattle.vr_scan.specs.declared.mark.Mark.{Mark}
use Rattle.vr_scan.specs.declared.mark.Sign.{Sign}
use Rattle.vr_scan.specs.declared.mark.Sign.TheVariants.{Character, LineEnd, OpenEnd}
use Rattle.vr_scan.specs.declared.mark.Ending.{Ending}
use Rattle.vr_scan.specs.declared.mark.Ending.TheVariants.{Whole, Hyphen, Plus}

abbrev pub is_blank : ℕ → Bool
is_blank b = b == 32

-- a text without the blanks at its end
abbrev pub without_end : List ℕ → List ℕ
without_end text = take (length text - suffix_len is_blank text) text

-- what counts of a line: columns 2 to 72, without the blanks at their end
abbrev pub field : List ℕ → List ℕ
field text = without_end (take 71 (drop 1 text))

-- A field whose last character is `-` goes on in the next line as after a blank; with `+`,
-- directly.
abbrev pub ending_by : Option ℕ → Ending
ending_by None = Whole
ending_by (Some b) = if b == 45 then Hyphen else (if b == 43 then Plus else Whole)

abbrev pub ending_of : List ℕ → Ending
ending_of text = ending_by (slice_get text (length text - 1))

abbrev pub is_joined : Ending → Bool
is_joined Whole = false
is_joined Hyphen = false
is_joined Plus = true

-- a field without the character by which it goes on
abbrev pub own_text : Ending → List ℕ → List ℕ
own_text Whole text = text
own_text Hyphen text = take (length text - 1) text
own_text Plus text = take (length text - 1) text

-- characters of a line from a column on
abbrev pub characters : ℕ → ℕ → List ℕ → List Mark
characters line column [] = []
characters line column (b ∷ text) =
    record { sign = Character b; line = line; column = column } ∷ characters line (column + 1) text

-- What stands at the end of a line, given whether there is a further one: a hyphen is a blank then.
abbrev pub sign_at_end : Ending → Bool → Option Sign
sign_at_end Whole more = Some LineEnd
sign_at_end Hyphen more = if more then Some (Character 32) else Some OpenEnd
sign_at_end Plus more = if more then None else Some OpenEnd

abbrev pub mark_at : Option Sign → ℕ → ℕ → List Mark
mark_at None line column = []
mark_at (Some sign) line column = record { sign = sign; line = line; column = column } ∷ []

-- how many blanks a line that is joined to the one before leaves out
abbrev pub blanks_left_out : Bool → List ℕ → ℕ
blanks_left_out joined text = if joined then prefix_len is_blank text else 0

-- a line, given its own text, how it ends, and whether it is joined and has a further one after it
abbrev pub marks_of_own : Bool → Bool → Ending → List ℕ → ℕ → List Mark
marks_of_own joined more ending text line =
    characters line (2 + blanks_left_out joined text) (drop (blanks_left_out joined text) text)
    ++ mark_at (sign_at_end ending more) line (2 + length text)

abbrev pub marks_of_line : Bool → Bool → Line → List Mark
marks_of_line joined more line =
    let text = field line.text in
    marks_of_own joined more (ending_of text) (own_text (ending_of text) text) line.number

abbrev pub marks_from : Bool → List Line → List Mark
marks_from joined [] = []
marks_from joined (line ∷ lines) =
    marks_of_line joined (nat_lt 0 (length lines)) line
    ++ marks_from (is_joined (ending_of (field line.text))) lines

-- all that the lines of a text give
abbrev pub marks_of : List Line → List Mark
marks_of lines = marks_from false lines
