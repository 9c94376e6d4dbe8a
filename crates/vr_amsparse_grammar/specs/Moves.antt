-- Lists of parameters: what each token does, by the tables. A list stands in parentheses or goes on to
-- the command's end; a parameter is given once, and excludes those of its slot; its values stand in
-- parentheses. The grammar is that of Access Method Services Commands.
use Rattle.std.specs.Prelude.{ℕ, ◌-◌, Bool, true, false, ◌==◌, nat_le, nat_lt, List, Option, Some, None}
use Rattle.std.specs.Prelude.{if◌then◌else◌}
use Rattle.std.specs.List.{find}
use Rattle.vr_scan.specs.declared.token.TokenKind.{TokenKind}
use Rattle.vr_scan.specs.declared.token.TokenKind.TheVariants as kinds
use Rattle.vr_amsparse_grammar.specs.declared.cause.AmsCause.{AmsCause}
use Rattle.vr_amsparse_grammar.specs.declared.cause.AmsCause.TheVariants as causes
use Rattle.vr_amsparse_grammar.specs.declared.given.Given.{Given}
use Rattle.vr_amsparse_grammar.specs.declared.point.Statement.{Statement}
use Rattle.vr_amsparse_grammar.specs.declared.point.Point.{Point}
use Rattle.vr_amsparse_grammar.specs.declared.point.Point.TheVariants.{Head, Opening, Listed}
use Rattle.vr_amsparse_grammar.specs.declared.point.Point.TheVariants.{ValueOpening, Valued}
use Rattle.vr_amsparse_grammar.specs.declared.point.Move.{Move}
use Rattle.vr_amsparse_grammar.specs.declared.point.Move.TheVariants as moves
use Rattle.vr_amsparse_grammar.specs.declared.row.Choice.TheVariants as choices
use Rattle.vr_amsparse_grammar.specs.declared.row.Parameter.{Parameter}
use Rattle.vr_amsparse_grammar.specs.declared.row.Slot.{Slot}
use Rattle.vr_amsparse_grammar.specs.declared.row.Slot.TheVariants as slots
use Rattle.vr_amsparse_grammar.specs.declared.row.Takes.{Takes}
use Rattle.vr_amsparse_grammar.specs.declared.row.Takes.TheVariants as takes
use Rattle.vr_amsparse_grammar.specs.declared.row.Value.TheVariants as values
use Rattle.vr_amsparse_grammar.specs.declared.row.Values.{Values}
use Rattle.vr_amsparse_grammar.specs.declared.section.Section.{Section}
use Rattle.vr_amsparse_grammar.specs.declared.section.Section.TheVariants as lists
use Rattle.vr_amsparse_grammar.specs.Judging.{value_fault}
use Rattle.vr_amsparse_grammar.specs.Rows.{slot_number, choice_number}
use Rattle.vr_amsparse_grammar.specs.Sections.{section_parameter, is_enclosed, section_after}
use Rattle.vr_amsparse_grammar.specs.Sections.{has_parameters}

abbrev pub has_slot : Slot → Given → Bool
has_slot slot one = slot_number one.states.slot == slot_number slot

-- the parameter that states this, if it was given
abbrev pub given_in : List Given → Slot → Option Given
given_in given slot = find (has_slot slot) given

-- the same word, or another one of the slot, was given before
abbrev pub repeated_as : Option Given → Statement → Option AmsCause
repeated_as None states = None
repeated_as (Some before) states =
    if choice_number before.states.choice == choice_number states.choice then Some
    causes.ParameterTwice else Some causes.ParametersExclude

abbrev pub repeated : List Given → Statement → Option AmsCause
repeated given states = repeated_as (given_in given states.slot) states

-- the name or the names before a list
abbrev pub entry_statement : Statement
entry_statement = record { slot = slots.Entry; choice = choices.First }

abbrev pub entry_values : Values
entry_values = record { value = values.Name; least = 1; most = 18446744073709551615 }

abbrev pub head_judged : Section → ℕ → Option AmsCause → Move
head_judged section at (Some cause) = moves.Bad cause
head_judged section at None =
    moves.Give (record { states = entry_statement; opened = at - 1; count = 1 }) (Listed section)

-- DELETE may have its names in parentheses
abbrev pub opens_names : Section → TokenKind → Bool
opens_names lists.Delete kinds.Open = true
opens_names section kind = false

abbrev pub head_move : Section → ℕ → TokenKind → List ℕ → List (List ℕ) → Move
head_move section at kinds.End text names = moves.Missing
head_move section at kind text names =
    if opens_names section kind then moves.Go (Valued section entry_statement entry_values at)
    else head_judged section at (value_fault values.Name 0 kind text names)

-- a list is opened by a parenthesis
abbrev pub opening_move : Section → TokenKind → Move
opening_move section kinds.Open = moves.Go (Listed section)
opening_move section kind = moves.Bad causes.ParenthesisMissing

-- a token that is no word, where a parameter or the end is due
abbrev pub stray_move : Section → AmsCause
stray_move section = if is_enclosed section then causes.UnknownParameter else causes.TextAfterEnd

abbrev pub close_move : Section → Move
close_move section =
    if is_enclosed section then moves.Go (Listed (section_after section)) else moves.Bad
    causes.TextAfterEnd

abbrev pub end_move : Section → Move
end_move section =
    if is_enclosed section then moves.Bad causes.ParenthesisMissing else moves.End section

-- a parameter without values, unless it was given before
abbrev pub given_move : Given → Point → Option AmsCause → Move
given_move given point (Some cause) = moves.Bad cause
given_move given point None = moves.Give given point

-- one with values
abbrev pub valued_move : Section → Statement → Values → Option AmsCause → Move
valued_move section states wanted (Some cause) = moves.Bad cause
valued_move section states wanted None = moves.Go (ValueOpening section states wanted)

-- A parameter: what is left out by name comes first, then that it or one that excludes it was given.
abbrev pub taken_move : Section → ℕ → Statement → Takes → Option AmsCause → Move
taken_move section at states takes.LeftOut again = moves.Bad causes.LeftOut
taken_move section at states takes.Nothing again =
    given_move (record { states = states; opened = at; count = 0 }) (Listed section) again
taken_move section at states (takes.Values wanted) again = valued_move section states wanted again
taken_move section at states (takes.Section inner) again =
    given_move (record { states = states; opened = at; count = 0 }) (Opening inner) again

abbrev pub parameter_move : Section → ℕ → List Given → Parameter → Move
parameter_move section at given parameter =
    let states : Statement = record { slot = parameter.slot; choice = parameter.choice } in
    taken_move section at states parameter.takes (repeated given states)

abbrev pub named_move : Section → ℕ → List Given → Option Parameter → Move
named_move section at given None = moves.Bad causes.UnknownParameter
named_move section at given (Some parameter) = parameter_move section at given parameter

abbrev pub word_move : Section → ℕ → List ℕ → List Given → Move
word_move section at text given =
    if has_parameters section then named_move section at given (section_parameter section text)
    else moves.Bad causes.TextAfterEnd

abbrev pub listed_move : Section → ℕ → TokenKind → List ℕ → List Given → Move
listed_move section at kinds.Word text given = word_move section at text given
listed_move section at kinds.Close text given = close_move section
listed_move section at kinds.End text given = end_move section
listed_move section at kind text given = moves.Bad (stray_move section)

-- values are opened by a parenthesis
abbrev pub value_opening_move : Section → Statement → Values → ℕ → TokenKind → Move
value_opening_move section states wanted at kinds.Open =
    moves.Go (Valued section states wanted at)
value_opening_move section states wanted at kind = moves.Bad causes.ParenthesisMissing

-- how many values came before a token, where another token opened them
abbrev pub values_before : ℕ → ℕ → ℕ
values_before opened at = at - opened - 1

abbrev pub closed_move : Section → Statement → Values → ℕ → ℕ → Move
closed_move section states wanted opened count =
    if nat_lt count wanted.least then moves.Bad causes.WrongCount else moves.Give
    (record { states = states; opened = opened; count = count }) (Listed section)

abbrev pub judged_move : Section → Statement → Values → ℕ → Option AmsCause → Move
judged_move section states wanted opened (Some cause) = moves.Bad cause
judged_move section states wanted opened None = moves.Go (Valued section states wanted opened)

-- a value, or the parenthesis after the values
abbrev pub value_move : Section → Statement → Values → ℕ → ℕ → TokenKind → List ℕ → List (List ℕ)
    → Move
value_move section states wanted opened at kinds.Close text names =
    closed_move section states wanted opened (values_before opened at)
value_move section states wanted opened at kinds.End text names =
    moves.Bad causes.ParenthesisMissing
value_move section states wanted opened at kind text names =
    if nat_le wanted.most (values_before opened at) then moves.Bad causes.WrongCount else judged_move
    section states wanted opened
    (value_fault wanted.value (values_before opened at) kind text names)

-- what a token does at a point, where these parameters were given before
abbrev pub next_move : Point → ℕ → TokenKind → List ℕ → List Given → List (List ℕ) → Move
next_move (Head section) at kind text given names = head_move section at kind text names
next_move (Opening section) at kind text given names = opening_move section kind
next_move (Listed section) at kind text given names = listed_move section at kind text given
next_move (ValueOpening section states wanted) at kind text given names =
    value_opening_move section states wanted at kind
next_move (Valued section states wanted opened) at kind text given names =
    value_move section states wanted opened at kind text names
