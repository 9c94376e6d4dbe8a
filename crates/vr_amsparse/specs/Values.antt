-- The values of given parameters: what the tokens between their parentheses stand for.
use Rattle.std.specs.Prelude.{ℕ, zero, suc, ◌+◌, Bool, true, false, nat_lt, List, [], ◌∷◌, ◌++◌, Option, Some}
use Rattle.std.specs.Prelude.{None, if◌then◌else◌}
use Rattle.std.specs.Option.{option_map, unwrap_or}
use Rattle.vr_text.specs.Words.{name_in, number_in}
use Rattle.vr_scan.specs.Token.{Token, token_at}
use Rattle.vr_amsparse_grammar.specs.declared.given.Given.{Given}
use Rattle.vr_amsparse_grammar.specs.declared.row.Choice.{Choice}
use Rattle.vr_amsparse_grammar.specs.declared.row.Choice.TheVariants.{First, Second, Third}
use Rattle.vr_amsparse_grammar.specs.declared.row.Slot.{Slot}
use Rattle.vr_amsparse_grammar.specs.Moves.{given_in}

-- the text of a token
abbrev pub text_at : List Token → ℕ → List ℕ
text_at tokens i = (token_at tokens i).text

-- the text of a value, counted from 0
abbrev pub value_text : List Token → Given → ℕ → List ℕ
value_text tokens given place = text_at tokens (given.opened + 1 + place)

-- a number, or the default where it wasn't given
abbrev pub number_value : List Token → Option Given → ℕ → ℕ → ℕ
number_value tokens None place default = default
number_value tokens (Some given) place default =
    if nat_lt place given.count then unwrap_or (number_in (value_text tokens given place)) 0 else
    default

abbrev pub number_for : List Token → List Given → Slot → ℕ → ℕ → ℕ
number_for tokens given slot place default = number_value tokens (given_in given slot) place default

-- the name of a parameter, in capitals, if it was given
abbrev pub name_value : List Token → Option Given → Option (List ℕ)
name_value tokens None = None
name_value tokens (Some given) = name_in (value_text tokens given 0)

abbrev pub name_for : List Token → List Given → Slot → Option (List ℕ)
name_for tokens given slot = name_value tokens (given_in given slot)

-- a text, if it was given
abbrev pub text_if : List Token → List Given → Slot → Option (List ℕ)
text_if tokens given slot = option_map (λ one. value_text tokens one 0) (given_in given slot)

-- a text, or the empty one where none was given
abbrev pub text_value : List Token → Option Given → List ℕ
text_value tokens None = []
text_value tokens (Some given) = value_text tokens given 0

abbrev pub text_for : List Token → List Given → Slot → List ℕ
text_for tokens given slot = text_value tokens (given_in given slot)

-- a list of one name or none
abbrev pub listed : Option (List ℕ) → List (List ℕ)
listed None = []
listed (Some name) = name ∷ []

-- the first `count` names of a parameter
abbrev pub names_below : List Token → Given → ℕ → List (List ℕ)
names_below tokens given zero = []
names_below tokens given (suc n) =
    names_below tokens given n ++ listed (name_in (value_text tokens given n))

abbrev pub names_value : List Token → Option Given → List (List ℕ)
names_value tokens None = []
names_value tokens (Some given) = names_below tokens given given.count

-- all names of a parameter
abbrev pub names_for : List Token → List Given → Slot → List (List ℕ)
names_for tokens given slot = names_value tokens (given_in given slot)

-- which of the words of a slot was given
abbrev pub choice_for : List Given → Slot → Option Choice
choice_for given slot = option_map (λ one. one.states.choice) (given_in given slot)

-- the first of the words was given
abbrev pub is_first : Option Choice → Bool
is_first None = false
is_first (Some First) = true
is_first (Some Second) = false
is_first (Some Third) = false

abbrev pub is_second : Option Choice → Bool
is_second None = false
is_second (Some First) = false
is_second (Some Second) = true
is_second (Some Third) = false
