-- What REPRO comes to over volumes, after Access Method Services Commands: when it is refused, what
-- it puts into its target else, and its lines. Which faults there are, their order, and the lines,
-- are this project's own.
use Rattle.std.specs.Prelude.{◌≡◌, ◌⊎◌, ℕ, ◌==◌, ◌&&◌, Bool, true, false, if◌then◌else◌, not, nat_lt}
use Rattle.std.specs.Prelude.{List, [], ◌∷◌, ◌++◌, codes, map, Option, Some, None, Ok, Err}
use Rattle.std.specs.Prelude.{slice_get, slice_set}
use Rattle.vr_types.specs.declared.unit.Kind.{Kind}
use Rattle.vr_catalog.specs.declared.fault.CatFault.TheVariants.{NotTogether, WrongKind}
use Rattle.vr_amsparse.specs.declared.command.ReproCommand.{ReproCommand}
use Rattle.vr_amsparse.specs.declared.command.Source.{Source}
use Rattle.vr_amsparse.specs.declared.command.Source.TheVariants.{Data, DataSet}
use Rattle.vr_trace.specs.Commands.{refused}
use Rattle.vr_trace.specs.Lines.{field}
use Rattle.vr_trace.specs.Shown.{Shown}
use Rattle.vr_trace.specs.declared.command.Failure.{Failure}
use Rattle.vr_trace.specs.declared.command.Outcome.{Outcome}
use Rattle.vr_ams_define.specs.Answers.{Answering}
use Rattle.vr_ams_define.specs.Failures.{catalog_failure}
use Rattle.vr_ams_print.specs.Printed.{has_keys}
use Rattle.vr_ams_print.specs.Sources.{source_kind}
use Rattle.vr_ams_print.specs.Steps.{IsSource, last_key}
use Rattle.vr_ams_print.specs.declared.source.FoundCluster.{FoundCluster}
use Rattle.vr_ams_repro.specs.Fed.{IsCommittedIf}
use Rattle.vr_ams_repro.specs.Pieces.{AreFedAt, ArePieces, first_cursor, is_over, of_cards}
use Rattle.vr_ams_repro.specs.Progress.{begun}
use Rattle.vr_ams_repro.specs.Replies.{Replying}
use Rattle.vr_ams_repro.specs.declared.cursor.Cursor.{Cursor}
use Rattle.vr_ams_repro.specs.declared.ends.Ends.{Ends}
use Rattle.vr_ams_repro.specs.declared.load.Load.{Load}
use Rattle.vr_ams_repro.specs.declared.progress.FirstRefused.{FirstRefused}
use Rattle.vr_ams_repro.specs.declared.progress.Progress.{Progress}
use Rattle.vr_ams_repro.specs.declared.progress.Tally.{Tally}

-- ---- source and target

-- The source is the cluster of its name, or data cards, which have no keys.
abbrev pub IsSourceOf : Bool → List Shown → Source → Option FoundCluster → Type 0
IsSourceOf keyed volumes (DataSet name) (Some source) = IsSource keyed volumes name source
IsSourceOf keyed volumes (DataSet name) None = ⊥
IsSourceOf keyed volumes (Data cards) (Some source) = ⊥
IsSourceOf keyed volumes (Data cards) None = keyed ≡ false

-- why there is none: 2, 903 and 3, in this order
abbrev pub IsSourceRefused : Bool → List Shown → Source → Failure → Type 0
IsSourceRefused keyed volumes (DataSet name) failure = source_kind keyed volumes name ≡ Err failure
IsSourceRefused keyed volumes (Data cards) failure =
    (keyed ≡ true) × (failure ≡ catalog_failure WrongKind)

-- the source and the target are one cluster
abbrev pub is_same : Option FoundCluster → FoundCluster → Bool
is_same None target = false
is_same (Some source) target =
    source.place == target.place && source.entry.part.0 == target.entry.part.0

pub record AreEnds (volumes : List Shown) (command : ReproCommand) (ends : Ends) : Type 0 where
  pub source : IsSourceOf (has_keys command.from command.to) volumes command.source ends.source
  pub target : IsSource false volumes command.target ends.target

-- ---- refused

pub record IsTargetRefused (volumes : List Shown) (command : ReproCommand) (failure : Failure)
    : Type 0 where
  pub source : Option FoundCluster
  pub source_is : IsSourceOf (has_keys command.from command.to) volumes command.source source
  pub target : source_kind false volumes command.target ≡ Err failure

-- 12: they are the same cluster
pub record AreSame (volumes : List Shown) (command : ReproCommand) (failure : Failure) : Type 0
  where
    pub ends : Ends
    pub ends_are : AreEnds volumes command ends
    pub same : is_same ends.source ends.target ≡ true
    pub failure_is : failure ≡ catalog_failure NotTogether

-- Why it is refused before a volume is asked: the causes of the source, those of the target, and
-- 12, in this order.
abbrev pub IsCause : List Shown → ReproCommand → Failure → Type 0
IsCause volumes command failure =
    IsSourceRefused (has_keys command.from command.to) volumes command.source failure
    ⊎ (IsTargetRefused volumes command failure ⊎ AreSame volumes command failure)

pub record IsRefused {V : Type 0} (shown : V → Shown) (command : ReproCommand) (old new : List V)
    (outcome : Outcome) : Type 0 where
  pub failure : Failure
  pub cause : IsCause (map shown old) command failure
  pub outcome_is : outcome ≡ refused failure
  pub same : new ≡ old

-- ---- the lines

abbrev pub tally_line : Tally → List ℕ
tally_line tally = field (codes "READ ") tally.read ++ field (codes " ADDED ") tally.added
    ++ field (codes " REPLACED ") tally.replaced ++ field (codes " REFUSED ") tally.refused
    ++ 10 ∷ []

-- the first record that was refused, where there is one
abbrev pub first_line : Option FirstRefused → List ℕ
first_line None = []
first_line (Some first) =
    field (codes "FIRST REFUSED ") first.number ++ field (codes " FB=") first.feedback ++ 10 ∷ []

abbrev pub report : Tally → List ℕ
report tally = tally_line tally ++ first_line tally.first

-- 12 with a fault, 8 where a record was refused
abbrev pub code_with : Option ℕ → ℕ → ℕ
code_with (Some fault) refused = 12
code_with None refused = if nat_lt 0 refused then 8 else 0

abbrev pub code_of : Progress → ℕ
code_of progress = code_with progress.fault progress.tally.refused

abbrev pub outcome_of : Progress → Outcome
outcome_of progress = record {
  lines = report progress.tally;
  code = code_of progress;
  fault = progress.fault;
}

-- ---- run

abbrev pub kind_of : Option FoundCluster → Option Kind
kind_of None = None
kind_of (Some source) = Some source.kind

-- how the target is filled on a line
abbrev pub load_of : ℕ → ReproCommand → Ends → Load
load_of line command ends = record {
  line = line;
  source = kind_of ends.source;
  target = ends.target;
  replace = command.replace;
}

module _ {V : Type 0} (shown : V → Shown) (answers : Answering V) (replies : Replying V)
    (load : Load) where
  -- The records of a data set were read in pieces, to the last.
  pub record IsReadThrough (source : FoundCluster) (command : ReproCommand) (old : List V)
      (last : Progress) (new : List V) : Type 0 where
    pub cursor : Cursor
    pub pieces : ArePieces answers replies load source (last_key command.to)
        (first_cursor command.from command.to) begun old cursor last new
    pub over : is_over cursor last ≡ true

  -- The target was filled from the data set, or from the data cards.
  abbrev pub IsFilled : Option FoundCluster → ReproCommand → List (List ℕ) → List V → Progress
      → List V → Type 0
  IsFilled (Some source) command cards old last new = IsReadThrough source command old last new
  IsFilled None command cards old last new = AreFedAt answers replies load
      (of_cards command.from command.to cards) begun old last new

  -- At the end comes a COMMIT, where something was entered that none has followed, unless the
  -- volume has stopped.
  pub record IsEnded (progress : Progress) (old : List V) (last : Progress) (new : List V) : Type 0
    where
      pub before : V
      pub before_is : slice_get old load.target.place ≡ Some before
      pub after : V
      pub commit : IsCommittedIf answers replies load
          (progress.asked && not (shown before).stopped) progress before last after
      pub others : new ≡ slice_set old load.target.place after

  -- It was filled, and what was put committed.
  pub record IsRunWith (source : Option FoundCluster) (command : ReproCommand)
      (cards : List (List ℕ)) (old new : List V) (outcome : Outcome) : Type 0 where
    pub progress : Progress
    pub between : List V
    pub filled : IsFilled source command cards old progress between
    pub last : Progress
    pub ended : IsEnded progress between last new
    pub outcome_is : outcome ≡ outcome_of last

-- It isn't refused, and was run.
pub record IsRun {V : Type 0} (shown : V → Shown) (answers : Answering V) (replies : Replying V)
    (line : ℕ) (command : ReproCommand) (cards : List (List ℕ)) (old new : List V)
    (outcome : Outcome) : Type 0 where
  pub ends : Ends
  pub ends_are : AreEnds (map shown old) command ends
  pub apart : is_same ends.source ends.target ≡ false
  pub run : IsRunWith shown answers replies (load_of line command ends) ends.source command cards
      old new outcome

-- A REPRO on a line, with these data cards, over volumes that show this and answer and reply so,
-- leaves these volumes with this outcome.
abbrev pub IsReproBy : {V : Type 0} → (V → Shown) → Answering V → Replying V → ℕ → ReproCommand
    → List (List ℕ) → List V → List V → Outcome → Type 0
IsReproBy shown answers replies line command cards old new outcome =
    IsRefused shown command old new outcome
    ⊎ IsRun shown answers replies line command cards old new outcome
