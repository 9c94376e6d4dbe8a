-- Which commands of a step run, what each leaves of the volumes, and the report of the step: IF
-- and SET after Access Method Services Commands. That a SET to 16 leaves the later steps is this
-- project's own.
use Rattle.std.specs.Prelude.{◌≡◌, ℕ, Bool, true, false, not, ◌&&◌, List, []}
use Rattle.std.specs.Prelude.{◌∷◌, ◌++◌, codes, map, slice_get, Option, Some, None}
use Rattle.vr_types.specs.declared.geometry.Geometry.{Geometry}
use Rattle.vr_amsparse.specs.declared.command.Branch.{Branch}
use Rattle.vr_amsparse.specs.declared.command.Branch.TheVariants.{Then, Else}
use Rattle.vr_amsparse.specs.declared.command.Command.{Command}
use Rattle.vr_amsparse.specs.declared.command.Command.TheVariants as commands
use Rattle.vr_amsparse.specs.declared.command.Condition.{Condition}
use Rattle.vr_amsparse.specs.declared.command.DefineCommand.{DefineCommand}
use Rattle.vr_amsparse.specs.declared.command.DeleteCommand.{DeleteCommand}
use Rattle.vr_amsparse.specs.declared.command.ListCommand.{ListCommand}
use Rattle.vr_amsparse.specs.declared.command.Node.{Node}
use Rattle.vr_amsparse.specs.declared.command.PrintCommand.{PrintCommand}
use Rattle.vr_amsparse.specs.declared.command.Setting.{Setting}
use Rattle.vr_amsparse.specs.declared.command.Within.{Within}
use Rattle.vr_trace.specs.Commands.{command_lines}
use Rattle.vr_trace.specs.Shown.{Shown}
use Rattle.vr_trace.specs.declared.command.Outcome.{Outcome}
use Rattle.vr_trace.specs.declared.report.StepReport.{StepReport}
use Rattle.vr_ams_list.specs.Outcomes.{listed}
use Rattle.vr_catalog.specs.declared.order.Alter.{Alter}
use Rattle.vr_catalog.specs.declared.order.NewEntry.{NewEntry}
use Rattle.vr_catalog.specs.declared.order.NewEntry.TheVariants.{Cluster, Alternate, Path}
use Rattle.vr_ams_define.specs.Altered.{IsAlteredBy}
use Rattle.vr_ams_define.specs.Answers.{Answering}
use Rattle.vr_ams_define.specs.Deleted.{IsDeletedBy}
use Rattle.vr_ams_define.specs.Outcomes.{IsDefined}
use Rattle.vr_ams_define.specs.Over.{IsDefinedOver}
use Rattle.vr_ams_define.specs.Runs.{is_run as is_entry_run}
use Rattle.vr_ams_print.specs.Outcomes.{IsPrintedBy, IsVerifiedBy}
use Rattle.vr_ams_run.specs.declared.going.Going.{Going}
use Rattle.vr_ams_run.specs.ListedAll.{IsListedAll}
use Rattle.vr_ams_run.specs.Codes.{no_codes, holds, with_code, set_by, ends}

-- the commands that are run yet
abbrev pub is_run : Command → Bool
is_run (commands.Define command) = is_entry_run command.order.what
is_run (commands.Alter order) = true
is_run (commands.Delete command) = true
is_run (commands.Repro command) = false
is_run (commands.BuildIndex command) = false
is_run (commands.Print command) = true
is_run (commands.ListCatalog command) = true
is_run (commands.Verify name) = true
is_run (commands.Examine name) = false
is_run (commands.If condition) = true
is_run (commands.Set setting) = true

-- whether two branches are the same
abbrev pub same_branch : Branch → Branch → Bool
same_branch Then Then = true
same_branch Then Else = false
same_branch Else Then = false
same_branch Else Else = true

-- whether an IF was reached and took this branch
abbrev pub has_taken : Option (Option Branch) → Branch → Bool
has_taken (Some (Some taken)) branch = same_branch taken branch
has_taken (Some None) branch = false
has_taken None branch = false

-- a command in no branch is reached, and one in the branch that its IF took
abbrev pub reaches : List (Option Branch) → Option Within → Bool
reaches took None = true
reaches took (Some within) = has_taken (slice_get took within.node) within.branch

-- the branch that an IF takes
abbrev pub branch_for : Bool → Branch
branch_for true = Then
branch_for false = Else

-- before the first command
abbrev pub first_going : Going
first_going = record { codes = no_codes; over = false; took = []; lines = [] }

-- what a command that isn't reached does, and one that isn't run yet
abbrev pub passed : Going → Going
passed going = record {
  codes = going.codes;
  over = going.over;
  took = going.took ++ None ∷ [];
  lines = going.lines;
}

-- IF takes a branch, and leaves the codes
abbrev pub branched : Condition → Going → Going
branched condition going = record {
  codes = going.codes;
  over = going.over;
  took = going.took ++ Some (branch_for (holds condition going.codes)) ∷ [];
  lines = going.lines;
}

-- SET changes the codes, and may end the step
abbrev pub changed : Setting → Going → Going
changed setting going = record {
  codes = set_by setting going.codes;
  over = ends setting;
  took = going.took ++ None ∷ [];
  lines = going.lines;
}

-- a command that has a name ended
abbrev pub ended : ℕ → List ℕ → Outcome → Going → Going
ended line name outcome going = record {
  codes = with_code outcome.code going.codes;
  over = going.over;
  took = going.took ++ None ∷ [];
  lines = going.lines ++ command_lines line name outcome;
}

-- LISTCAT with NAME
abbrev pub list_run : List Shown → Going → ℕ → ListCommand → Going
list_run volumes going line command =
    ended line (codes "LISTCAT") (listed volumes command.entries) going

-- a command that is reached and leaves the volumes as they were
abbrev pub command_run : List Shown → Going → ℕ → Command → Going
command_run volumes going line (commands.Define command) = passed going
command_run volumes going line (commands.Alter command) = passed going
command_run volumes going line (commands.Delete command) = passed going
command_run volumes going line (commands.Repro command) = passed going
command_run volumes going line (commands.BuildIndex command) = passed going
command_run volumes going line (commands.Print command) = passed going
command_run volumes going line (commands.ListCatalog command) = list_run volumes going line command
command_run volumes going line (commands.Verify name) = passed going
command_run volumes going line (commands.Examine name) = passed going
command_run volumes going line (commands.If condition) = branched condition going
command_run volumes going line (commands.Set setting) = changed setting going

-- ---- commands over volumes, of which each shows this, has this shape, and answers so

-- how far the step has come, and the volumes
pub record Stage (V : Type 0) : Type 0 where
  pub volumes : List V
  pub going : Going

-- the volumes are as they were
pub record IsQuiet {V : Type 0} (to : Going) (old new : Stage V) : Type 0 where
  pub volumes : new.volumes ≡ old.volumes
  pub going : new.going ≡ to

-- DEFINE of a cluster came to an outcome
pub record IsDefinedAs {V : Type 0} (shown : V → Shown) (geometry : V → Geometry)
    (answers : Answering V) (line : ℕ) (command : DefineCommand) (old new : Stage V) : Type 0 where
  pub outcome : Outcome
  pub defined : IsDefined shown geometry answers old.volumes line command.order command.volume
      new.volumes outcome
  pub going : new.going ≡ ended line (codes "DEFINE CLUSTER") outcome old.going

-- DEFINE of an alternate index or a path, which has this name in the report, came to an outcome
pub record IsOverAs {V : Type 0} (shown : V → Shown) (geometry : V → Geometry)
    (answers : Answering V) (name : List ℕ) (line : ℕ) (command : DefineCommand)
    (old new : Stage V) : Type 0 where
  pub outcome : Outcome
  pub defined : IsDefinedOver shown geometry answers line command.order command.volume old.volumes
      new.volumes outcome
  pub going : new.going ≡ ended line name outcome old.going

-- DEFINE; a spanned cluster, which isn't run yet, is passed over
abbrev pub DefineRun : {V : Type 0} → (V → Shown) → (V → Geometry) → Answering V → NewEntry → ℕ
    → DefineCommand → Stage V → Stage V → Type 0
DefineRun shown geometry answers (Cluster kind false options) line command old new =
    IsDefinedAs shown geometry answers line command old new
DefineRun shown geometry answers (Cluster kind true options) line command old new =
    IsQuiet (passed old.going) old new
DefineRun shown geometry answers (Alternate related unique options) line command old new =
    IsOverAs shown geometry answers (codes "DEFINE ALTERNATEINDEX") line command old new
DefineRun shown geometry answers (Path related) line command old new =
    IsOverAs shown geometry answers (codes "DEFINE PATH") line command old new

-- LISTCAT ALL came to an outcome
pub record IsListedAs {V : Type 0} (shown : V → Shown) (answers : Answering V) (line : ℕ)
    (command : ListCommand) (old new : Stage V) : Type 0 where
  pub outcome : Outcome
  pub is_listed : IsListedAll shown answers line command.entries old.volumes new.volumes outcome
  pub going : new.going ≡ ended line (codes "LISTCAT") outcome old.going

-- LISTCAT with ALL, which has the volumes counted, or with NAME
abbrev pub ListRun : {V : Type 0} → (V → Shown) → Answering V → Bool → ℕ → ListCommand → Stage V
    → Stage V → Type 0
ListRun shown answers true line command old new =
    IsListedAs shown answers line command old new
ListRun shown answers false line command old new =
    IsQuiet (list_run (map shown old.volumes) old.going line command) old new

-- ALTER came to an outcome
pub record IsAlteredAs {V : Type 0} (shown : V → Shown) (answers : Answering V) (line : ℕ)
    (order : Alter) (old new : Stage V) : Type 0 where
  pub outcome : Outcome
  pub altered : IsAlteredBy shown answers line order old.volumes new.volumes outcome
  pub going : new.going ≡ ended line (codes "ALTER") outcome old.going

-- DELETE came to an outcome
pub record IsDeletedAs {V : Type 0} (shown : V → Shown) (answers : Answering V) (line : ℕ)
    (command : DeleteCommand) (old new : Stage V) : Type 0 where
  pub outcome : Outcome
  pub deleted : IsDeletedBy shown answers line command.kind command.names old.volumes new.volumes
      outcome
  pub going : new.going ≡ ended line (codes "DELETE") outcome old.going

-- PRINT came to an outcome
pub record IsPrintedAs {V : Type 0} (shown : V → Shown) (answers : Answering V) (line : ℕ)
    (command : PrintCommand) (old new : Stage V) : Type 0 where
  pub outcome : Outcome
  pub printed : IsPrintedBy shown answers line command old.volumes new.volumes outcome
  pub going : new.going ≡ ended line (codes "PRINT") outcome old.going

-- VERIFY came to an outcome
pub record IsVerifiedAs {V : Type 0} (shown : V → Shown) (answers : Answering V) (line : ℕ)
    (name : List ℕ) (old new : Stage V) : Type 0 where
  pub outcome : Outcome
  pub verified : IsVerifiedBy shown answers line name old.volumes new.volumes outcome
  pub going : new.going ≡ ended line (codes "VERIFY") outcome old.going

-- a command that leaves the volumes as they were
abbrev pub QuietRun : {V : Type 0} → (V → Shown) → ℕ → Command → Stage V → Stage V → Type 0
QuietRun shown line command old new =
    IsQuiet (command_run (map shown old.volumes) old.going line command) old new

-- a command that is reached
abbrev pub CommandRun : {V : Type 0} → (V → Shown) → (V → Geometry) → Answering V → ℕ → Command
    → Stage V → Stage V → Type 0
CommandRun shown geometry answers line (commands.Define command) old new =
    DefineRun shown geometry answers command.order.what line command old new
CommandRun shown geometry answers line (commands.ListCatalog command) old new =
    ListRun shown answers command.all line command old new
CommandRun shown geometry answers line (commands.Alter order) old new =
    IsAlteredAs shown answers line order old new
CommandRun shown geometry answers line (commands.Delete command) old new =
    IsDeletedAs shown answers line command old new
CommandRun shown geometry answers line (commands.Print command) old new =
    IsPrintedAs shown answers line command old new
CommandRun shown geometry answers line (commands.Verify name) old new =
    IsVerifiedAs shown answers line name old new
CommandRun shown geometry answers line command old new = QuietRun shown line command old new

-- one command more, where it is reached
abbrev pub NodeRunWhere : {V : Type 0} → (V → Shown) → (V → Geometry) → Answering V → Bool → Node
    → Stage V → Stage V → Type 0
NodeRunWhere shown geometry answers true node old new =
    CommandRun shown geometry answers node.line node.command old new
NodeRunWhere shown geometry answers false node old new = IsQuiet (passed old.going) old new

-- nothing runs once the step is over
abbrev pub NodeRun : {V : Type 0} → (V → Shown) → (V → Geometry) → Answering V → Node → Stage V
    → Stage V → Type 0
NodeRun shown geometry answers node old new = NodeRunWhere shown geometry answers
    (not old.going.over && reaches old.going.took node.within) node old new

-- the commands of a step, in order
abbrev pub NodesRun : {V : Type 0} → (V → Shown) → (V → Geometry) → Answering V → List Node
    → Stage V → Stage V → Type 0
NodesRun shown geometry answers [] old new = new ≡ old
NodesRun {V} shown geometry answers (node ∷ nodes) old new = (between : Stage V)
    × NodeRun shown geometry answers node old between
    × NodesRun shown geometry answers nodes between new

-- the code of the step is the greatest
abbrev pub report_in : Going → StepReport
report_in going = record { lines = going.lines; code = going.codes.greatest }

-- before the first command
abbrev pub first_stage : {V : Type 0} → List V → Stage V
first_stage volumes = record { volumes = volumes; going = first_going }

-- The report of these commands over volumes, and what they left of them.
pub record IsReport {V : Type 0} (shown : V → Shown) (geometry : V → Geometry)
    (answers : Answering V) (commands : List Node) (old new : List V) (report : StepReport)
    : Type 0 where
  pub going : Going
  pub ran : NodesRun shown geometry answers commands (first_stage old)
      (record { volumes = new; going = going })
  pub is : report ≡ report_in going

-- the lines of the first words of commands
abbrev pub lines_of : List Node → List ℕ
lines_of nodes = map (λ (node : Node). node.line) nodes
