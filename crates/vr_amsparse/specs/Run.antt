-- The commands of a list of tokens, or its first fault: the tokens are taken in order, each leads from
-- one state to the next or is the first fault.
use Rattle.std.specs.Prelude.{ℕ, ◌+◌, Bool, true, false, min, List, [], ◌∷◌, ◌++◌, length, Option, Some, None}
use Rattle.std.specs.Prelude.{codes, bytes_eq, if◌then◌else◌}
use Rattle.std.specs.Option.{unwrap_or}
use Rattle.vr_text.specs.Words.{number_in}
use Rattle.vr_scan.specs.declared.token.TokenKind.{TokenKind}
use Rattle.vr_scan.specs.declared.token.TokenKind.TheVariants as kinds
use Rattle.vr_scan.specs.Token.{Token, token_at}
use Rattle.vr_amsparse_grammar.specs.declared.cause.AmsCause.{AmsCause}
use Rattle.vr_amsparse_grammar.specs.declared.cause.AmsCause.TheVariants as causes
use Rattle.vr_amsparse_grammar.specs.declared.given.Given.{Given}
use Rattle.vr_amsparse_grammar.specs.declared.point.Point.{Point}
use Rattle.vr_amsparse_grammar.specs.declared.section.Section.{Section}
use Rattle.vr_amsparse_grammar.specs.declared.section.Section.TheVariants as lists
use Rattle.vr_amsparse.specs.declared.act.Act.{Act}
use Rattle.vr_amsparse.specs.declared.act.Act.TheVariants as acts
use Rattle.vr_amsparse.specs.declared.act.Place.{Place}
use Rattle.vr_amsparse.specs.declared.act.Place.TheVariants as places
use Rattle.vr_amsparse.specs.declared.command.Branch.TheVariants.{Then, Else}
use Rattle.vr_amsparse.specs.declared.command.CodeVariable.{CodeVariable}
use Rattle.vr_amsparse.specs.declared.command.CodeVariable.TheVariants.{LastCode}
use Rattle.vr_amsparse.specs.declared.command.Command.{Command}
use Rattle.vr_amsparse.specs.declared.command.Command.TheVariants as commands
use Rattle.vr_amsparse.specs.declared.command.Comparison.{Comparison}
use Rattle.vr_amsparse.specs.declared.command.Comparison.TheVariants.{Equal}
use Rattle.vr_amsparse.specs.declared.command.Condition.{Condition}
use Rattle.vr_amsparse.specs.declared.command.Node.{Node}
use Rattle.vr_amsparse.specs.declared.command.Setting.{Setting}
use Rattle.vr_amsparse.specs.declared.command.Within.{Within}
use Rattle.vr_amsparse.specs.declared.opens.Open.{Open}
use Rattle.vr_amsparse.specs.declared.opens.Stage.{Stage}
use Rattle.vr_amsparse.specs.declared.opens.Stage.TheVariants.{Single, Group}
use Rattle.vr_amsparse.specs.declared.state.State.{State}
use Rattle.vr_amsparse.specs.Acts.{act_at}
use Rattle.vr_amsparse.specs.Opens.{top_of, completed, settled, last_group}
use Rattle.vr_amsparse.specs.Orders.{command_of}
use Rattle.vr_amsparse.specs.Values.{text_at}
use Rattle.vr_amsparse.specs.Verbs.{variable_named, comparison_named}

-- what a step or a run comes to: another state, or a fault and its token
pub data Stepped : Type 0 where
  Went : State → Stepped
  Failed : AmsCause → ℕ → Stepped

-- before a command
abbrev pub first_state : State
first_state = record { place = places.Command; start = 0; given = []; nodes = []; opens = [] }

-- IF: its variable, comparison and number are the three tokens after its word
abbrev pub variable_at : List Token → ℕ → CodeVariable
variable_at tokens at = unwrap_or (variable_named (text_at tokens at)) LastCode

abbrev pub number_at : List Token → ℕ → ℕ
number_at tokens at = unwrap_or (number_in (text_at tokens at)) 0

abbrev pub comparison_at : List Token → ℕ → Comparison
comparison_at tokens at = unwrap_or (comparison_named (text_at tokens at)) Equal

abbrev pub condition_at : List Token → ℕ → Condition
condition_at tokens start = record {
  variable = variable_at tokens (start + 1);
  comparison = comparison_at tokens (start + 2);
  number = number_at tokens (start + 3);
}

-- SET: a number above 16 counts as 16
abbrev pub setting_at : List Token → ℕ → Setting
setting_at tokens start = record {
  variable = variable_at tokens (start + 1);
  code = min 16 (number_at tokens (start + 3));
}

-- the branch that a command stands in
abbrev pub within_of : Option Open → Option Within
within_of None = None
within_of (Some one) = Some (record { node = one.node; branch = one.branch })

-- a command in its place
abbrev pub node_of : List Token → State → Command → Node
node_of tokens s command = record {
  line = (token_at tokens s.start).line;
  within = within_of (top_of s.opens);
  command = command;
}

-- the command that ends with this list of parameters
abbrev pub ended_command : Section → List Token → State → Option Command
ended_command lists.SetEnd tokens s = Some (commands.Set (setting_at tokens s.start))
ended_command section tokens s = command_of section tokens s.given

abbrev pub with_node : List Token → State → Command → State
with_node tokens s command = record s { nodes = s.nodes ++ node_of tokens s command ∷ [] }

-- the end of a command: it is complete, and perhaps IFs are
abbrev pub with_command : List Token → State → Command → State
with_command tokens s command = record {
  place = places.Command;
  start = s.start;
  given = s.given;
  nodes = s.nodes ++ node_of tokens s command ∷ [];
  opens = completed s.opens;
}

-- where not all is given that the command has to have, its first word is at fault
abbrev pub finished : List Token → State → Option Command → Stepped
finished tokens s None = Failed causes.ParameterMissing s.start
finished tokens s (Some command) = Went (with_command tokens s command)

-- the innermost IF in another stage
abbrev pub restaged : Stage → List Open → List Open
restaged stage [] = []
restaged stage (one ∷ opens) =
    record { node = one.node; branch = one.branch; stage = stage } ∷ opens

-- and in the branch of ELSE
abbrev pub in_else : List Open → List Open
in_else [] = []
in_else (one ∷ opens) = record { node = one.node; branch = Else; stage = Single } ∷ opens

-- DO: the first command of the group may follow at once
abbrev pub grouped : State → ℕ → State
grouped s at = record s { place = places.Command; opens = restaged (Group at) s.opens }

-- END: the group is complete, and perhaps IFs are
abbrev pub group_ended : State → State
group_ended s =
    record s { place = places.GroupEnd; opens = completed (restaged Single s.opens) }

-- the condition of IF is complete
abbrev pub branched : List Token → State → State
branched tokens s = record {
  place = places.Branch;
  start = s.start;
  given = s.given;
  nodes = s.nodes ++ node_of tokens s (commands.If (condition_at tokens s.start)) ∷ [];
  opens = record { node = length s.nodes; branch = Then; stage = Single } ∷ s.opens;
}

-- a command begins
abbrev pub begun : State → ℕ → Place → State
begun s at place = record s { place = place; start = at; given = [] }

-- a parameter is given
abbrev pub granted : State → Given → Point → State
granted s given point =
    record s { place = places.Within point; given = s.given ++ given ∷ [] }

-- what a token does to the state
abbrev pub applied : List Token → State → ℕ → Act → Stepped
applied tokens s at acts.Stay = Went s
applied tokens s at acts.Complete =
    Went (record s { place = places.Command; opens = completed s.opens })
applied tokens s at (acts.Go place) = Went (record s { place = place })
applied tokens s at (acts.Begin place) = Went (begun s at place)
applied tokens s at (acts.Give given point) = Went (granted s given point)
applied tokens s at acts.Else =
    Went (record s { place = places.Branch; opens = in_else s.opens })
applied tokens s at acts.Do = Went (grouped s at)
applied tokens s at acts.EndGroup = Went (group_ended s)
applied tokens s at (acts.Finish section) =
    finished tokens s (ended_command section tokens s)
applied tokens s at acts.Condition = Went (branched tokens s)
applied tokens s at acts.Missing = Failed causes.ParameterMissing s.start
applied tokens s at (acts.Bad cause) = Failed cause at

-- neither an end nor ELSE
abbrev pub is_other : TokenKind → List ℕ → Bool
is_other kinds.End text = false
is_other kinds.Word text = if bytes_eq text (codes "ELSE") then false else true
is_other kind text = true

-- where something else than ELSE follows, IFs that it might have followed are complete
abbrev pub ready : State → TokenKind → List ℕ → State
ready s kind text =
    if is_other kind text then record s { opens = settled s.opens } else s

-- what a token does, by the state
abbrev pub act_for : List (List ℕ) → State → ℕ → TokenKind → List ℕ → Act
act_for names s at kind text =
    act_at s.place at kind text s.given names (top_of s.opens) (length s.opens)

abbrev pub ready_step : List Token → List (List ℕ) → State → ℕ → TokenKind → List ℕ → Stepped
ready_step tokens names s at kind text =
    applied tokens s at (act_for names s at kind text)

-- the step of a token
unfoldable pub step : List Token → List (List ℕ) → State → ℕ → TokenKind → List ℕ → Stepped
step tokens names s at kind text = ready_step tokens names (ready s kind text) at kind text

-- the text ends, and no DO is without END
abbrev pub closed : State → Option ℕ → Stepped
closed s None = Went s
closed s (Some at) = Failed causes.DoOrEndAlone at

abbrev pub closed_after : Stepped → Stepped
closed_after (Failed cause at) = Failed cause at
closed_after (Went s) = closed s (last_group s.opens)

-- the end of the tokens ends a command too, if one is under way
abbrev pub ended : List Token → List (List ℕ) → State → ℕ → Stepped
ended tokens names s at = closed_after (step tokens names s at kinds.End [])

-- The steps of the tokens that are left, of which the first is token `at`.
unfoldable pub run : List Token → List (List ℕ) → Stepped → ℕ → List Token → Stepped
run tokens names (Failed cause there) at rest = Failed cause there
run tokens names (Went s) at [] = ended tokens names s at
run tokens names (Went s) at (token ∷ rest) =
    run tokens names (step tokens names s at token.kind token.text) (at + 1) rest

-- what a list of tokens comes to, where these are the names of the step's data
abbrev pub read : List Token → List (List ℕ) → Stepped
read tokens names = run tokens names (Went first_state) 0 tokens

-- the commands of a state that was reached
abbrev pub nodes_in : Stepped → Option (List Node)
nodes_in (Failed cause at) = None
nodes_in (Went s) = Some s.nodes
