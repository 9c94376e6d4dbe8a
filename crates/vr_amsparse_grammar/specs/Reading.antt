-- Which parameters tokens give, by the moves of a reader; and how a parameter with its values is
-- spelled: its word, and the values in parentheses.
use Rattle.std.specs.Prelude.{◌≡◌, ℕ, ◌+◌, ◌≤◌, Bool, true, false, List, [], ◌∷◌, ◌++◌, length, Option, Some, None}
use Rattle.vr_scan.specs.declared.token.TokenKind.{TokenKind}
use Rattle.vr_scan.specs.declared.token.TokenKind.TheVariants as kinds
use Rattle.vr_scan.specs.Token.{Token}
use Rattle.vr_amsparse_grammar.specs.declared.given.Given.{Given}
use Rattle.vr_amsparse_grammar.specs.declared.point.Statement.{Statement}
use Rattle.vr_amsparse_grammar.specs.declared.point.Point.{Point}
use Rattle.vr_amsparse_grammar.specs.declared.point.Move.{Move}
use Rattle.vr_amsparse_grammar.specs.declared.point.Move.TheVariants as moves
use Rattle.vr_amsparse_grammar.specs.declared.row.Takes.TheVariants as takes
use Rattle.vr_amsparse_grammar.specs.declared.row.Value.{Value}
use Rattle.vr_amsparse_grammar.specs.declared.row.Values.{Values}
use Rattle.vr_amsparse_grammar.specs.declared.section.Section.{Section}
use Rattle.vr_amsparse_grammar.specs.Judging.{value_fault}
use Rattle.vr_amsparse_grammar.specs.Moves.{next_move, given_in}
use Rattle.vr_amsparse_grammar.specs.Sections.{section_parameter, has_parameters}

-- a point, and the parameters that were given before it
pub record Reach : Type 0 where
  pub point : Point
  pub given : List Given

abbrev pub reach_by : Move → List Given → Option Reach
reach_by (moves.Go point) given = Some (record { point = point; given = given })
reach_by (moves.Give one point) given = Some (record { point = point; given = given ++ one ∷ [] })
reach_by move given = None

-- what tokens lead to, the first of them token `at`; None where one is at fault or the list ends
abbrev pub reached : List (List ℕ) → Option Reach → ℕ → List Token → Option Reach
reached names None at tokens = None
reached names (Some reach) at [] = Some reach
reached names (Some reach) at (token ∷ tokens) =
    reached names (reach_by (next_move reach.point at token.kind token.text reach.given names)
    reach.given) (at + 1) tokens

-- a token that may be a value
abbrev pub is_value_kind : TokenKind → Bool
is_value_kind kinds.Close = false
is_value_kind kinds.End = false
is_value_kind kind = true

-- tokens that are values of a kind, the first of them in this place
abbrev pub AreValues : List (List ℕ) → Value → ℕ → List Token → Type 0
AreValues names value place [] = Unit {0}
AreValues names value place (token ∷ tokens) =
    (is_value_kind token.kind ≡ true)
    × (value_fault value place token.kind token.text names ≡ None)
    × AreValues names value (place + 1) tokens

-- A parameter of a list with its values, as tokens: its word, and in parentheses as many values as it
-- takes. It, and what excludes it, wasn't given before.
pub record IsParameter (names : List (List ℕ)) (section : Section) (given : List Given)
    (word : Token) (before : Token) (values : List Token) (after : Token) (states : Statement) :
    Type 0 where
  pub wanted : Values
  pub is_word : word.kind ≡ kinds.Word
  pub has_rows : has_parameters section ≡ true
  pub named : section_parameter section word.text
      ≡ Some (record { slot = states.slot; choice = states.choice; takes = takes.Values wanted })
  pub new : given_in given states.slot ≡ None
  pub opens : before.kind ≡ kinds.Open
  pub closes : after.kind ≡ kinds.Close
  pub least : wanted.least ≤ length values
  pub most : length values ≤ wanted.most
  pub right : AreValues names wanted.value 0 values
