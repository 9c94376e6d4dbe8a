-- The job that a text says, or its first fault. A text is laid out first; the text of each step is read
-- where the step ends, at the next EXEC card or at the end of the text, so its fault goes before the
-- faults of later cards.
use Rattle.std.specs.Prelude.{◌≡◌, ◌⊎◌, ℕ, Bool, true, false, not, if◌then◌else◌}
use Rattle.std.specs.Prelude.{List, [], ◌∷◌, length, sum_by, Option, Some, None, Ok, Err}
use Rattle.vr_amsparse.specs.declared.command.Command.{Command}
use Rattle.vr_amsparse.specs.declared.command.Command.TheVariants.{Define, Alter, Delete, Repro}
use Rattle.vr_amsparse.specs.declared.command.Command.TheVariants.{BuildIndex, Print, ListCatalog}
use Rattle.vr_amsparse.specs.declared.command.Command.TheVariants.{Verify, Examine, If, Set}
use Rattle.vr_amsparse.specs.declared.command.Node.{Node}
use Rattle.vr_catalog.specs.declared.order.NewEntry.{NewEntry}
use Rattle.vr_catalog.specs.declared.order.NewEntry.TheVariants.{Cluster, Alternate, Path}
use Rattle.vr_job_text.specs.declared.card.Program.{Program}
use Rattle.vr_job_text.specs.declared.card.Program.TheVariants as programs
use Rattle.vr_job_text.specs.declared.fault.JobFault.{JobFault}
use Rattle.vr_job_text.specs.declared.fault.JobFault.TheVariants.{Text, Memory}
use Rattle.vr_job_text.specs.declared.fault.TextFault.{TextFault}
use Rattle.vr_job_text.specs.declared.job.Job.{Job}
use Rattle.vr_job_text.specs.declared.job.JobStep.{JobStep}
use Rattle.vr_job_text.specs.declared.job.JobStep.TheVariants.{Decks, Utilities}
use Rattle.vr_job_text.specs.declared.job.UtilityStep.{UtilityStep}
use Rattle.vr_job_text.specs.declared.reading.Part.{Part}
use Rattle.vr_job_text.specs.declared.reading.StepText.{StepText}
use Rattle.vr_job_text.specs.declared.text.Step.{Step}
use Rattle.vr_job_text.specs.Decks.{decks_in}
use Rattle.vr_job_text.specs.Fault.{form_fault, FaultBy}
use Rattle.vr_job_text.specs.Layout.{laid}
use Rattle.vr_job_text.specs.Utilities.{AreCommands, IsUtilityFault, UtilityFaultBy, command_lines}
use Rattle.vr_job_text.specs.Utilities.{data_names, data_of}

-- the step of a text of decks
pub record IsDeckStep (text : StepText) (step : Step) : Type 0 where
  pub name : step.name ≡ text.name
  pub line : step.line ≡ text.line
  pub decks : decks_in text.parts ≡ Ok step.decks

-- the step of a text of IDCAMS
pub record IsUtilityStep (text : StepText) (step : UtilityStep) : Type 0 where
  pub name : step.name ≡ text.name
  pub line : step.line ≡ text.line
  pub commands : AreCommands (command_lines text.parts) (data_names text.parts) step.commands
  pub inputs : step.inputs ≡ data_of text.parts

abbrev pub IsStepOf : Program → StepText → JobStep → Type 0
IsStepOf programs.Decks text (Decks step) = IsDeckStep text step
IsStepOf programs.Utilities text (Utilities step) = IsUtilityStep text step
IsStepOf programs.Decks text (Utilities step) = ⊥
IsStepOf programs.Utilities text (Decks step) = ⊥

-- the step that a text says
abbrev pub IsStep : StepText → JobStep → Type 0
IsStep text step = IsStepOf text.program text step

abbrev pub IsStepFaultOf : Program → List Part → TextFault → Type 0
IsStepFaultOf programs.Decks parts fault = decks_in parts ≡ Err fault
IsStepFaultOf programs.Utilities parts fault =
    IsUtilityFault (command_lines parts) (data_names parts) fault

-- the first fault of the text of a step
abbrev pub IsStepFault : StepText → TextFault → Type 0
IsStepFault text fault = IsStepFaultOf text.program text.parts fault

-- the steps of texts, one of each
abbrev pub AreSteps : List StepText → List JobStep → Type 0
AreSteps [] [] = Unit {0}
AreSteps [] (step ∷ steps) = ⊥
AreSteps (text ∷ texts) [] = ⊥
AreSteps (text ∷ texts) (step ∷ steps) = IsStep text step × AreSteps texts steps

-- The fault of the first text that has one; where none has, that of the layout.
abbrev pub IsFirstOf : List StepText → Option TextFault → TextFault → Type 0
IsFirstOf [] last fault = last ≡ Some fault
IsFirstOf (text ∷ texts) last fault = IsStepFault text fault
    ⊎ ((step : JobStep) × IsStep text step × IsFirstOf texts last fault)

-- the text is this job
pub record IsJob (text : List ℕ) (job : Job) : Type 0 where
  pub right : (laid text).fault ≡ None
  pub steps : AreSteps (laid text).steps job.steps

abbrev pub IsFirstFault : List ℕ → TextFault → Type 0
IsFirstFault text fault = IsFirstOf (laid text).steps (laid text).fault fault

-- when each fault comes; memory may run out at any time
abbrev pub StepFaultOf : Program → List Part → JobFault → Type 0
StepFaultOf programs.Decks parts fault = FaultBy (decks_in parts) fault
StepFaultOf programs.Utilities parts fault =
    UtilityFaultBy (command_lines parts) (data_names parts) fault

abbrev pub StepFaultBy : StepText → JobFault → Type 0
StepFaultBy text fault = StepFaultOf text.program text.parts fault

abbrev pub FirstBy : List StepText → Option TextFault → JobFault → Type 0
FirstBy texts last (Text fault) = IsFirstOf texts last fault
FirstBy texts last Memory = Unit {0}

abbrev pub CauseOf : List ℕ → JobFault → Type 0
CauseOf text fault = FirstBy (laid text).steps (laid text).fault fault

-- the steps of decks among those of a job, in order
abbrev pub deck_steps : List JobStep → List Step
deck_steps [] = []
deck_steps (Decks step ∷ steps) = step ∷ deck_steps steps
deck_steps (Utilities step ∷ steps) = deck_steps steps

-- each but a spanned cluster
abbrev pub is_entry_run : NewEntry → Bool
is_entry_run (Cluster kind spanned options) = not spanned
is_entry_run (Alternate related unique options) = true
is_entry_run (Path related) = true

-- the commands that are run: DEFINE but of a spanned cluster, ALTER, DELETE, PRINT, LISTCAT, VERIFY, and the modal commands IF and SET
abbrev pub is_run : Command → Bool
is_run (Define define) = is_entry_run define.order.what
is_run (Alter order) = true
is_run (Delete delete) = true
is_run (Repro repro) = false
is_run (BuildIndex build) = false
is_run (Print print) = true
is_run (ListCatalog list) = true
is_run (Verify name) = true
is_run (Examine name) = false
is_run (If condition) = true
is_run (Set setting) = true

-- the first command of a step that isn't run yet, whether or not it stands in a branch
abbrev pub unrun_in : List Node → Option TextFault
unrun_in [] = None
unrun_in (node ∷ nodes) =
    if is_run node.command then unrun_in nodes else Some (form_fault node.line)

-- of two faults the first, where there is one
abbrev pub first_of : Option TextFault → Option TextFault → Option TextFault
first_of None later = later
first_of (Some fault) later = Some fault

-- what isn't run yet of a job: the first such command of its steps of IDCAMS
abbrev pub unrun : List JobStep → Option TextFault
unrun [] = None
unrun (Decks step ∷ steps) = unrun steps
unrun (Utilities step ∷ steps) = first_of (unrun_in step.commands) (unrun steps)

-- The text is this job, and it is run: each command of its steps of IDCAMS is.
pub record IsRunJob (text : List ℕ) (job : Job) : Type 0 where
  pub is : IsJob text job
  pub runs : unrun job.steps ≡ None

-- the text is a job that isn't run yet, for this command
pub record IsUnrun (text : List ℕ) (fault : TextFault) : Type 0 where
  pub whole : Job
  pub is : IsJob text whole
  pub first : unrun whole.steps ≡ Some fault

-- the text is no job that is run: its first fault, or where it has none, what isn't run yet
abbrev pub IsRefused : List ℕ → TextFault → Type 0
IsRefused text fault = IsFirstFault text fault ⊎ IsUnrun text fault

abbrev pub RefusedBy : List ℕ → JobFault → Type 0
RefusedBy text (Text fault) = IsRefused text fault
RefusedBy text Memory = Unit {0}

-- how many orders the decks of a job have
abbrev pub order_count : List Step → ℕ
order_count steps = sum_by (λ step. sum_by (λ deck. length deck.text.orders) step.decks) steps
