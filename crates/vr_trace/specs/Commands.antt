-- What a command of IDCAMS leaves, and the line that says so. The line is this project's own.
use Rattle.std.specs.Prelude.{ℕ, List, [], ◌∷◌, ◌++◌, codes, Option, Some, None}
use Rattle.vr_trace.specs.Lines.{field}
use Rattle.vr_trace.specs.declared.command.Failure.{Failure}
use Rattle.vr_trace.specs.declared.command.Outcome.{Outcome}

-- a command that is refused has no detail line
abbrev pub refused : Failure → Outcome
refused failure = record { lines = []; code = failure.code; fault = Some failure.fault }

-- one that isn't refused has code 0
abbrev pub done : List ℕ → Outcome
done lines = record { lines = lines; code = 0; fault = None }

abbrev pub outcome_by : Option Failure → List ℕ → Outcome
outcome_by (Some failure) lines = refused failure
outcome_by None lines = done lines

-- the number of the fault, where there is one
abbrev pub fault_text : Option ℕ → List ℕ
fault_text None = []
fault_text (Some fault) = field (codes " FAULT ") fault

-- the line of a command with this name, whose first word is on line `line` of the job
abbrev pub command_line : ℕ → List ℕ → Outcome → List ℕ
command_line line name outcome =
    field (codes "LINE ") line ++ codes " " ++ name ++ field (codes " CODE ") outcome.code
    ++ fault_text outcome.fault ++ 10 ∷ []

-- its detail lines come first
abbrev pub command_lines : ℕ → List ℕ → Outcome → List ℕ
command_lines line name outcome = outcome.lines ++ command_line line name outcome
