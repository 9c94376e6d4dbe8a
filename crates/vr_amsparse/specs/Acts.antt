-- What each token does at a place of a command text: which commands begin with a word, and the forms of
-- IF, SET, THEN, ELSE, DO and END, as Access Method Services Commands has them. At most 10 IFs stand in
-- each other.
use Rattle.std.specs.Prelude.{ℕ, Bool, true, false, nat_le, List, Option, Some, None, is_some, codes, bytes_eq}
use Rattle.std.specs.Prelude.{if◌then◌else◌}
use Rattle.vr_scan.specs.declared.token.TokenKind.{TokenKind}
use Rattle.vr_scan.specs.declared.token.TokenKind.TheVariants as kinds
use Rattle.vr_amsparse_grammar.specs.declared.cause.AmsCause.{AmsCause}
use Rattle.vr_amsparse_grammar.specs.declared.cause.AmsCause.TheVariants as causes
use Rattle.vr_amsparse_grammar.specs.declared.given.Given.{Given}
use Rattle.vr_amsparse_grammar.specs.declared.point.Move.{Move}
use Rattle.vr_amsparse_grammar.specs.declared.point.Move.TheVariants as moves
use Rattle.vr_amsparse_grammar.specs.declared.point.Point.TheVariants as points
use Rattle.vr_amsparse_grammar.specs.declared.row.Range.{Range}
use Rattle.vr_amsparse_grammar.specs.declared.section.Section.{Section}
use Rattle.vr_amsparse_grammar.specs.declared.section.Section.TheVariants as lists
use Rattle.vr_amsparse_grammar.specs.Judging.{number_fault}
use Rattle.vr_amsparse_grammar.specs.Moves.{next_move}
use Rattle.vr_amsparse.specs.declared.act.Act.{Act}
use Rattle.vr_amsparse.specs.declared.act.Act.TheVariants as acts
use Rattle.vr_amsparse.specs.declared.act.Modal.{Modal}
use Rattle.vr_amsparse.specs.declared.act.Modal.TheVariants.{If, Set}
use Rattle.vr_amsparse.specs.declared.act.Place.{Place}
use Rattle.vr_amsparse.specs.declared.act.Place.TheVariants as places
use Rattle.vr_amsparse.specs.declared.command.CodeVariable.{CodeVariable}
use Rattle.vr_amsparse.specs.declared.opens.Open.{Open}
use Rattle.vr_amsparse.specs.declared.opens.Stage.{Stage}
use Rattle.vr_amsparse.specs.declared.opens.Stage.TheVariants.{Single}
use Rattle.vr_amsparse.specs.declared.verb.Verb.{Verb}
use Rattle.vr_amsparse.specs.declared.verb.Verb.TheVariants as verbs
use Rattle.vr_amsparse.specs.Opens.{is_done_stage, is_group_stage}
use Rattle.vr_amsparse.specs.Verbs.{verb_named, object_named, comparison_named, variable_named}

-- the innermost IF's branch of THEN has ended, so that ELSE may come
abbrev pub is_done_top : Option Open → Bool
is_done_top None = false
is_done_top (Some one) = is_done_stage one.stage

abbrev pub is_single_stage : Stage → Bool
is_single_stage Single = true
is_single_stage stage = false

-- THEN or ELSE of the innermost IF came just before, so that DO may come
abbrev pub is_single_top : Option Open → Bool
is_single_top None = false
is_single_top (Some one) = is_single_stage one.stage

-- the innermost IF is in a group, so that END may come
abbrev pub is_group_top : Option Open → Bool
is_group_top None = false
is_group_top (Some one) = is_group_stage one.stage

-- the first word of a command, by the innermost open IF and how many are open
abbrev pub verb_act : Verb → Option Open → ℕ → Act
verb_act verbs.Define top depth = acts.Begin places.Object
verb_act (verbs.Named section) top depth = acts.Begin (places.Within (points.Head section))
verb_act (verbs.Listed section) top depth = acts.Begin (places.Within (points.Listed section))
verb_act verbs.If top depth =
    if nat_le 10 depth then acts.Bad causes.TooManyIfs else acts.Begin (places.Variable If)
verb_act verbs.Set top depth = acts.Begin (places.Variable Set)
verb_act verbs.Else top depth =
    if is_done_top top then acts.Else else acts.Bad causes.ElseAlone
verb_act verbs.Do top depth =
    if is_single_top top then acts.Do else acts.Bad causes.DoOrEndAlone
verb_act verbs.End top depth =
    if is_group_top top then acts.EndGroup else acts.Bad causes.DoOrEndAlone

abbrev pub begun_by : Option Verb → Option Open → ℕ → Act
begun_by None top depth = acts.Bad causes.UnknownCommand
begun_by (Some verb) top depth = verb_act verb top depth

abbrev pub word_act : List ℕ → Option Open → ℕ → Act
word_act word top depth = begun_by (verb_named word) top depth

-- a token where a command is due
abbrev pub command_act : TokenKind → List ℕ → Option Open → ℕ → Act
command_act kinds.End text top depth = acts.Stay
command_act kinds.Word text top depth = word_act text top depth
command_act kind text top depth = acts.Bad causes.UnknownCommand

-- a token after THEN or ELSE: at once the end is an empty command
abbrev pub branch_act : TokenKind → List ℕ → Option Open → ℕ → Act
branch_act kinds.End text top depth = acts.Complete
branch_act kinds.Word text top depth = word_act text top depth
branch_act kind text top depth = acts.Bad causes.UnknownCommand

-- a token after END: the end of the command, or ELSE
abbrev pub group_end_act : TokenKind → List ℕ → Option Open → ℕ → Act
group_end_act kinds.End text top depth = acts.Go places.Command
group_end_act kinds.Word text top depth =
    if bytes_eq text (codes "ELSE") then verb_act verbs.Else top depth else acts.Bad
    causes.TextAfterEnd
group_end_act kind text top depth = acts.Bad causes.TextAfterEnd

-- a token after DEFINE
abbrev pub defined_by : Option Section → Act
defined_by None = acts.Bad causes.UnknownCommand
defined_by (Some section) = acts.Go (places.Within (points.Opening section))

abbrev pub object_act : TokenKind → List ℕ → Act
object_act kinds.End text = acts.Missing
object_act kinds.Word text = defined_by (object_named text)
object_act kind text = acts.Bad causes.UnknownCommand

-- LASTCC or MAXCC of IF and of SET
abbrev pub variable_by : Modal → Option CodeVariable → Act
variable_by modal None = acts.Bad causes.UnknownParameter
variable_by modal (Some variable) = acts.Go (places.Comparison modal)

abbrev pub variable_act : Modal → TokenKind → List ℕ → Act
variable_act modal kinds.End text = acts.Missing
variable_act modal kinds.Word text = variable_by modal (variable_named text)
variable_act modal kind text = acts.Bad causes.UnknownParameter

-- IF has one of the comparisons, SET the sign of equality
abbrev pub is_comparison : Modal → List ℕ → Bool
is_comparison If text = is_some (comparison_named text)
is_comparison Set text = bytes_eq text (codes "=")

abbrev pub compared : Modal → List ℕ → Act
compared modal text =
    if is_comparison modal text then acts.Go (places.Number modal) else acts.Bad
    causes.UnknownParameter

abbrev pub comparison_act : Modal → TokenKind → List ℕ → Act
comparison_act modal kinds.End text = acts.Missing
comparison_act modal kinds.Word text = compared modal text
comparison_act modal kinds.Compare text = compared modal text
comparison_act modal kind text = acts.Bad causes.UnknownParameter

-- the number of IF is below 2 to the 32; that of SET is any
abbrev pub range_of : Modal → Range
range_of If = record { least = 0; most = 4294967295 }
range_of Set = record { least = 0; most = 18446744073709551615 }

abbrev pub after_number : Modal → Place
after_number If = places.Then
after_number Set = places.Within (points.Listed lists.SetEnd)

abbrev pub numbered_by : Modal → Option AmsCause → Act
numbered_by modal (Some cause) = acts.Bad cause
numbered_by modal None = acts.Go (after_number modal)

abbrev pub number_act : Modal → TokenKind → List ℕ → Act
number_act modal kinds.End text = acts.Missing
number_act modal kind text = numbered_by modal (number_fault (range_of modal) kind text)

-- THEN
abbrev pub then_act : TokenKind → List ℕ → Act
then_act kinds.Word text =
    if bytes_eq text (codes "THEN") then acts.Condition else acts.Bad causes.ThenMissing
then_act kind text = acts.Bad causes.ThenMissing

-- a token of a command with lists of parameters
abbrev pub within_act : Move → Act
within_act (moves.Go point) = acts.Go (places.Within point)
within_act (moves.Give given point) = acts.Give given point
within_act (moves.End section) = acts.Finish section
within_act moves.Missing = acts.Missing
within_act (moves.Bad cause) = acts.Bad cause

-- what a token does at a place
abbrev pub act_at : Place → ℕ → TokenKind → List ℕ → List Given → List (List ℕ) → Option Open → ℕ → Act
act_at places.Command at kind text given names top depth = command_act kind text top depth
act_at places.Branch at kind text given names top depth = branch_act kind text top depth
act_at places.GroupEnd at kind text given names top depth = group_end_act kind text top depth
act_at places.Object at kind text given names top depth = object_act kind text
act_at (places.Within point) at kind text given names top depth =
    within_act (next_move point at kind text given names)
act_at (places.Variable modal) at kind text given names top depth = variable_act modal kind text
act_at (places.Comparison modal) at kind text given names top depth =
    comparison_act modal kind text
act_at (places.Number modal) at kind text given names top depth = number_act modal kind text
act_at places.Then at kind text given names top depth = then_act kind text
