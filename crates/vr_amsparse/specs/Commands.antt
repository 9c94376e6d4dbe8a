-- Which commands a list of tokens is, and its first fault where it is none.
use Rattle.std.specs.Prelude.{◌≡◌, ℕ, List, Option, Some, None}
use Rattle.vr_scan.specs.Token.{Token, token_at}
use Rattle.vr_amsparse_grammar.specs.declared.cause.AmsCause.{AmsCause}
use Rattle.vr_amsparse.specs.declared.command.Node.{Node}
use Rattle.vr_amsparse.specs.declared.fault.AmsFault.{AmsFault}
use Rattle.vr_amsparse.specs.declared.fault.AmsFault.TheVariants.{Text, Memory}
use Rattle.vr_amsparse.specs.declared.fault.CommandFault.{CommandFault}
use Rattle.vr_amsparse.specs.Run.{Stepped, Went, Failed, read, nodes_in}

-- the tokens are these commands
abbrev pub IsCommands : List Token → List (List ℕ) → List Node → Type 0
IsCommands tokens names commands = nodes_in (read tokens names) ≡ Some commands

-- a fault has the line and the column of its token
abbrev pub fault_at : List Token → AmsCause → ℕ → CommandFault
fault_at tokens cause at = record {
  cause = cause;
  line = (token_at tokens at).line;
  column = (token_at tokens at).column;
}

abbrev pub fault_in : List Token → Stepped → Option CommandFault
fault_in tokens (Failed cause at) = Some (fault_at tokens cause at)
fault_in tokens (Went s) = None

-- the first fault of the tokens
abbrev pub IsFirstFault : List Token → List (List ℕ) → CommandFault → Type 0
IsFirstFault tokens names fault = fault_in tokens (read tokens names) ≡ Some fault

-- when each fault comes; memory may run out at any time
abbrev pub CauseOf : List Token → List (List ℕ) → AmsFault → Type 0
CauseOf tokens names (Text fault) = IsFirstFault tokens names fault
CauseOf tokens names Memory = Unit {0}
