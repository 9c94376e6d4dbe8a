-- What a step of IDCAMS has: its commands, and data cards that REPRO may read as a file by the name on
-- their DD card. The commands are those of Access Method Services Commands.
use Rattle.std.specs.Prelude.{◌⊎◌, ℕ, ◌-◌, List, [], ◌∷◌, ◌++◌, length, map, replicate}
use Rattle.std.specs.List.{flat_map}
use Rattle.vr_text.specs.Lines.{Line}
use Rattle.vr_scan.specs.Token.{Token}
use Rattle.vr_scan.specs.Scan as scan
use Rattle.vr_amsparse.specs.Commands as ams
use Rattle.vr_amsparse.specs.declared.command.Node.{Node}
use Rattle.vr_job_text.specs.declared.fault.JobFault.{JobFault}
use Rattle.vr_job_text.specs.declared.fault.JobFault.TheVariants.{Text, Memory}
use Rattle.vr_job_text.specs.declared.fault.Kind.{Kind}
use Rattle.vr_job_text.specs.declared.fault.Kind.TheVariants.{Card, Scan, Ams, Form, Deck as OfDeck}
use Rattle.vr_job_text.specs.declared.fault.TextFault.{TextFault}
use Rattle.vr_job_text.specs.declared.job.DataCards.{DataCards}
use Rattle.vr_job_text.specs.declared.reading.Part.{Part}
use Rattle.vr_job_text.specs.declared.reading.PartKind.{PartKind}
use Rattle.vr_job_text.specs.declared.reading.PartKind.TheVariants.{Deck, Commands, Data}

-- the lines of the commands of a step: what follows its EXEC card directly, and each SYSIN
abbrev pub lines_of_kind : PartKind → List Line → List Line
lines_of_kind Commands lines = lines
lines_of_kind (Deck number) lines = []
lines_of_kind (Data name) lines = []

abbrev pub command_lines : List Part → List Line
command_lines parts = flat_map (λ part. lines_of_kind part.kind part.lines) parts

-- the names of its data
abbrev pub names_of_kind : PartKind → List (List ℕ)
names_of_kind (Data name) = name ∷ []
names_of_kind (Deck number) = []
names_of_kind Commands = []

abbrev pub data_names : List Part → List (List ℕ)
data_names parts = flat_map (λ part. names_of_kind part.kind) parts

-- a data card is filled with blanks to 80 characters
abbrev pub padded : List ℕ → List ℕ
padded card = card ++ replicate (80 - length card) 32

abbrev pub cards_of : List Line → List (List ℕ)
cards_of lines = map (λ line. padded line.text) lines

abbrev pub data_of_kind : PartKind → List Line → List DataCards
data_of_kind (Data name) lines = record { name = name; cards = cards_of lines } ∷ []
data_of_kind (Deck number) lines = []
data_of_kind Commands lines = []

-- its data
abbrev pub data_of : List Part → List DataCards
data_of parts = flat_map (λ part. data_of_kind part.kind part.lines) parts

-- lines have no tokens for this fault, whose place is that of the job text
abbrev pub IsScanFaultBy : List Line → Kind → ℕ → ℕ → Type 0
IsScanFaultBy lines (Scan cause) line column =
    scan.IsFirstFault lines (record { cause = cause; line = line; column = column })
IsScanFaultBy lines (Card cause) line column = ⊥
IsScanFaultBy lines (Ams cause) line column = ⊥
IsScanFaultBy lines (OfDeck cause) line column = ⊥
IsScanFaultBy lines Form line column = ⊥

abbrev pub IsScanFault : List Line → TextFault → Type 0
IsScanFault lines fault = IsScanFaultBy lines fault.kind fault.line fault.column

-- tokens are no commands for this fault
abbrev pub IsTokenFaultBy : List Token → List (List ℕ) → Kind → ℕ → ℕ → Type 0
IsTokenFaultBy tokens names (Ams cause) line column =
    ams.IsFirstFault tokens names (record { cause = cause; line = line; column = column })
IsTokenFaultBy tokens names (Card cause) line column = ⊥
IsTokenFaultBy tokens names (Scan cause) line column = ⊥
IsTokenFaultBy tokens names (OfDeck cause) line column = ⊥
IsTokenFaultBy tokens names Form line column = ⊥

abbrev pub IsTokenFault : List Token → List (List ℕ) → TextFault → Type 0
IsTokenFault tokens names fault = IsTokenFaultBy tokens names fault.kind fault.line fault.column

-- lines are these commands, where these are the names of the data of their step
pub record AreCommands (lines : List Line) (names : List (List ℕ)) (commands : List Node)
    : Type 0 where
  pub tokens : List Token
  pub spelled : scan.IsTokens lines tokens
  pub are : ams.IsCommands tokens names commands

-- lines have tokens that are no commands, for this fault
pub record IsCommandFault (lines : List Line) (names : List (List ℕ)) (fault : TextFault)
    : Type 0 where
  pub tokens : List Token
  pub spelled : scan.IsTokens lines tokens
  pub first : IsTokenFault tokens names fault

-- The first fault of the commands of a step: one of its tokens goes before all of its commands.
abbrev pub IsUtilityFault : List Line → List (List ℕ) → TextFault → Type 0
IsUtilityFault lines names fault =
    IsScanFault lines fault ⊎ IsCommandFault lines names fault

-- when each fault comes; memory may run out at any time
abbrev pub ScanFaultBy : List Line → JobFault → Type 0
ScanFaultBy lines (Text fault) = IsScanFault lines fault
ScanFaultBy lines Memory = Unit {0}

abbrev pub TokenFaultBy : List Token → List (List ℕ) → JobFault → Type 0
TokenFaultBy tokens names (Text fault) = IsTokenFault tokens names fault
TokenFaultBy tokens names Memory = Unit {0}

abbrev pub UtilityFaultBy : List Line → List (List ℕ) → JobFault → Type 0
UtilityFaultBy lines names (Text fault) = IsUtilityFault lines names fault
UtilityFaultBy lines names Memory = Unit {0}
