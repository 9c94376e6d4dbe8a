-- A text is a job or has a first fault, one of them, and never both.
use Rattle.std.proofs.Common.{◌≡◌, ◌⊎◌, inl, inr, ℕ, List, [], ◌∷◌, Option, Some, None, Result, Ok, Err}
use Rattle.std.proofs.Common.{refl, sym, ap, subst, ◌∙◌}
use Rattle.vr_text.specs.Lines.{Line}
use Rattle.vr_scan.specs.Token.{Token}
use Rattle.vr_scan.specs.Scan as scan
use Rattle.vr_scan.specs.declared.fault.FormFault.{FormFault}
use Rattle.vr_scan.proofs.CallerLemmas.{one_list_of_tokens, no_tokens_at_a_fault, one_first_fault}
use Rattle.vr_scan.proofs.CallerLemmas.{tokens_or_a_fault}
use Rattle.vr_amsparse.specs.Commands as ams
use Rattle.vr_amsparse.specs.Run.{Stepped, Went, Failed, read, nodes_in}
use Rattle.vr_amsparse.specs.declared.command.Node.{Node}
use Rattle.vr_amsparse.specs.declared.fault.CommandFault.{CommandFault}
use Rattle.vr_job_text.specs.declared.card.Program.{Program}
use Rattle.vr_job_text.specs.declared.card.Program.TheVariants as programs
use Rattle.vr_job_text.specs.declared.fault.Kind.{Kind}
use Rattle.vr_job_text.specs.declared.fault.Kind.TheVariants.{Card, Scan, Ams, Form, Deck as OfDeck}
use Rattle.vr_job_text.specs.declared.fault.TextFault.{TextFault}
use Rattle.vr_job_text.specs.declared.job.DataCards.{DataCards}
use Rattle.vr_job_text.specs.declared.job.Job.{Job}
use Rattle.vr_job_text.specs.declared.job.JobStep.{JobStep}
use Rattle.vr_job_text.specs.declared.job.JobStep.TheVariants.{Decks, Utilities}
use Rattle.vr_job_text.specs.declared.job.UtilityStep.{UtilityStep}
use Rattle.vr_job_text.specs.declared.reading.Part.{Part}
use Rattle.vr_job_text.specs.declared.reading.StepText.{StepText}
use Rattle.vr_job_text.specs.declared.text.Deck.{Deck}
use Rattle.vr_job_text.specs.declared.text.Step.{Step}
use Rattle.vr_job_text.specs.Decks.{decks_in}
use Rattle.vr_job_text.specs.Fault.{scan_fault, ams_fault}
use Rattle.vr_job_text.specs.Job.{IsDeckStep, IsUtilityStep, IsStepOf, IsStep, IsStepFaultOf}
use Rattle.vr_job_text.specs.Job.{IsStepFault, AreSteps, IsFirstOf, IsJob, IsFirstFault}
use Rattle.vr_job_text.specs.Layout.{laid}
use Rattle.vr_job_text.specs.Utilities.{AreCommands, IsCommandFault, IsUtilityFault, IsScanFault}
use Rattle.vr_job_text.specs.Utilities.{IsScanFaultBy, IsTokenFault, IsTokenFaultBy, command_lines}
use Rattle.vr_job_text.specs.Utilities.{data_names, data_of}

-- values by their fields
abbrev fault_with : Kind → ℕ → ℕ → TextFault
fault_with kind line column = record { kind = kind; line = line; column = column }

abbrev deck_step_with : List ℕ → ℕ → List Deck → Step
deck_step_with name line decks = record { name = name; line = line; decks = decks }

abbrev utility_step_with : List ℕ → ℕ → List Node → List DataCards → UtilityStep
utility_step_with name line commands inputs =
    record { name = name; line = line; commands = commands; inputs = inputs }

abbrev job_with : List JobStep → Job
job_with steps = record { steps = steps }

-- a fault of lines or of tokens is one of vr_scan or of vr_amsparse
form_by : (lines : List Line) (kind : Kind) (line column : ℕ)
    → IsScanFaultBy lines kind line column
    → (form : FormFault) × scan.IsFirstFault lines form
    × (fault_with kind line column ≡ scan_fault form)
form_by lines (Scan cause) line column h =
    let form : FormFault = record { cause = cause; line = line; column = column } in
    (form, h, refl)
form_by lines (Card cause) line column h = absurd h
form_by lines (Ams cause) line column h = absurd h
form_by lines (OfDeck cause) line column h = absurd h
form_by lines Form line column h = absurd h

form_of : (lines : List Line) (fault : TextFault) → IsScanFault lines fault
    → (form : FormFault) × scan.IsFirstFault lines form × (fault ≡ scan_fault form)
form_of lines fault h = form_by lines fault.kind fault.line fault.column h

command_by : (tokens : List Token) (names : List (List ℕ)) (kind : Kind) (line column : ℕ)
    → IsTokenFaultBy tokens names kind line column
    → (bad : CommandFault) × ams.IsFirstFault tokens names bad
    × (fault_with kind line column ≡ ams_fault bad)
command_by tokens names (Ams cause) line column h =
    let bad : CommandFault = record { cause = cause; line = line; column = column } in
    (bad, h, refl)
command_by tokens names (Card cause) line column h = absurd h
command_by tokens names (Scan cause) line column h = absurd h
command_by tokens names (OfDeck cause) line column h = absurd h
command_by tokens names Form line column h = absurd h

command_of : (tokens : List Token) (names : List (List ℕ)) (fault : TextFault)
    → IsTokenFault tokens names fault
    → (bad : CommandFault) × ams.IsFirstFault tokens names bad × (fault ≡ ams_fault bad)
command_of tokens names fault h =
    command_by tokens names fault.kind fault.line fault.column h

-- the commands of lines
one_commands : (lines : List Line) (names : List (List ℕ)) (one other : List Node)
    → AreCommands lines names one → AreCommands lines names other → one ≡ other
one_commands lines names one other h g =
    let tokens : h.tokens ≡ g.tokens =
    one_list_of_tokens lines g.tokens h.tokens g.spelled h.spelled in
    let first : nodes_in (read g.tokens names) ≡ Some one =
    subst (λ (t : List Token). nodes_in (read t names) ≡ Some one) tokens h.are in
    let second : nodes_in (read g.tokens names) ≡ Some other = g.are in
    cc

commands_clash_by : (tokens : List Token) (read : Stepped) (commands : List Node)
    (bad : CommandFault) → nodes_in read ≡ Some commands → ams.fault_in tokens read ≡ Some bad → ⊥
commands_clash_by tokens (Went s) commands bad h g = cc
commands_clash_by tokens (Failed cause at) commands bad h g = cc

commands_clash : (lines : List Line) (names : List (List ℕ)) (commands : List Node)
    (fault : TextFault) → AreCommands lines names commands → IsUtilityFault lines names fault → ⊥
commands_clash lines names commands fault h g =
    elim g [
      | inl form ↦
          let it = form_of lines fault form in
          no_tokens_at_a_fault lines h.tokens it.0 h.spelled it.1
      | inr bad ↦
          let tokens : h.tokens ≡ bad.tokens =
          one_list_of_tokens lines bad.tokens h.tokens bad.spelled h.spelled in
          let it = command_of bad.tokens names fault bad.first in
          commands_clash_by bad.tokens (read bad.tokens names) commands it.0
          (subst (λ (t : List Token). nodes_in (read t names) ≡ Some commands) tokens h.are) it.1
    ]

one_form : (lines : List Line) (one other : TextFault) → IsScanFault lines one
    → IsScanFault lines other → one ≡ other
one_form lines one other h g =
    let first = form_of lines one h in
    let second = form_of lines other g in
    first.2 ∙ ap scan_fault (sym (one_first_fault lines first.0 second.0 first.1 second.1))
    ∙ sym second.2

one_bad : (lines : List Line) (names : List (List ℕ)) (one other : TextFault)
    → IsCommandFault lines names one → IsCommandFault lines names other → one ≡ other
one_bad lines names one other h g =
    let tokens : h.tokens ≡ g.tokens =
    one_list_of_tokens lines g.tokens h.tokens g.spelled h.spelled in
    let first = command_of g.tokens names one
    (subst (λ (t : List Token). IsTokenFault t names one) tokens h.first) in
    let second = command_of g.tokens names other g.first in
    let same : first.0 ≡ second.0 =
    let a : ams.fault_in g.tokens (read g.tokens names) ≡ Some first.0 = first.1 in
    let b : ams.fault_in g.tokens (read g.tokens names) ≡ Some second.0 = second.1 in cc in
    first.2 ∙ ap ams_fault same ∙ sym second.2

form_clash : (lines : List Line) (names : List (List ℕ)) (one other : TextFault)
    → IsScanFault lines one → IsCommandFault lines names other → ⊥
form_clash lines names one other h g =
    let it = form_of lines one h in
    no_tokens_at_a_fault lines g.tokens it.0 g.spelled it.1

one_utility_fault : (lines : List Line) (names : List (List ℕ)) (one other : TextFault)
    → IsUtilityFault lines names one → IsUtilityFault lines names other → one ≡ other
one_utility_fault lines names one other h g =
    elim h [
      | inl first ↦
          elim g [
            | inl second ↦ one_form lines one other first second
            | inr bad ↦ absurd (form_clash lines names one other first bad)
          ]
      | inr bad ↦
          elim g [
            | inl second ↦ absurd (form_clash lines names other one second bad)
            | inr last ↦ one_bad lines names one other bad last
          ]
    ]

-- the step of a text
same_deck_step : (one other : Step) → one.name ≡ other.name → one.line ≡ other.line
    → one.decks ≡ other.decks → one ≡ other
same_deck_step one other name line decks =
    ap (λ (n : List ℕ). deck_step_with n one.line one.decks) name
    ∙ ap (λ (l : ℕ). deck_step_with other.name l one.decks) line
    ∙ ap (λ (d : List Deck). deck_step_with other.name other.line d) decks

one_deck_step : (text : StepText) (one other : Step) → IsDeckStep text one
    → IsDeckStep text other → one ≡ other
one_deck_step text one other h g =
    let a = h.decks in let b = g.decks in
    let decks : one.decks ≡ other.decks = cc in
    same_deck_step one other (h.name ∙ sym g.name) (h.line ∙ sym g.line) decks

same_utility_step : (one other : UtilityStep) → one.name ≡ other.name → one.line ≡ other.line
    → one.commands ≡ other.commands → one.inputs ≡ other.inputs → one ≡ other
same_utility_step one other name line commands inputs =
    ap (λ (n : List ℕ). utility_step_with n one.line one.commands one.inputs) name
    ∙ ap (λ (l : ℕ). utility_step_with other.name l one.commands one.inputs) line
    ∙ ap (λ (c : List Node). utility_step_with other.name other.line c one.inputs) commands
    ∙ ap (λ (d : List DataCards). utility_step_with other.name other.line other.commands d) inputs

one_utility_step : (text : StepText) (one other : UtilityStep) → IsUtilityStep text one
    → IsUtilityStep text other → one ≡ other
one_utility_step text one other h g =
    same_utility_step one other (h.name ∙ sym g.name) (h.line ∙ sym g.line)
    (one_commands (command_lines text.parts) (data_names text.parts) one.commands other.commands
    h.commands g.commands) (h.inputs ∙ sym g.inputs)

one_step_of : (program : Program) (text : StepText) (one other : JobStep)
    → IsStepOf program text one → IsStepOf program text other → one ≡ other
one_step_of programs.Decks text (Decks one) (Decks other) h g =
    ap Decks (one_deck_step text one other h g)
one_step_of programs.Decks text (Decks one) (Utilities other) h g = absurd g
one_step_of programs.Decks text (Utilities one) other h g = absurd h
one_step_of programs.Utilities text (Utilities one) (Utilities other) h g =
    ap Utilities (one_utility_step text one other h g)
one_step_of programs.Utilities text (Utilities one) (Decks other) h g = absurd g
one_step_of programs.Utilities text (Decks one) other h g = absurd h

one_steps : (texts : List StepText) (one other : List JobStep) → AreSteps texts one
    → AreSteps texts other → one ≡ other
one_steps [] [] [] h g = refl
one_steps [] [] (step ∷ other) h g = absurd g
one_steps [] (step ∷ one) other h g = absurd h
one_steps (text ∷ texts) [] other h g = absurd h
one_steps (text ∷ texts) (step ∷ one) [] h g = absurd g
one_steps (text ∷ texts) (first ∷ one) (second ∷ other) h g =
    let head = one_step_of text.program text first second h.0 g.0 in
    let tail = one_steps texts one other h.1 g.1 in cc

pub one_job : (text : List ℕ) (one other : Job) → IsJob text one → IsJob text other → one ≡ other
one_job text one other h g =
    ap job_with (one_steps (laid text).steps one.steps other.steps h.steps g.steps)

-- the fault of a text
one_fault_of : (program : Program) (parts : List Part) (one other : TextFault)
    → IsStepFaultOf program parts one → IsStepFaultOf program parts other → one ≡ other
one_fault_of programs.Decks parts one other h g = cc
one_fault_of programs.Utilities parts one other h g =
    one_utility_fault (command_lines parts) (data_names parts) one other h g

step_clash_by : (program : Program) (text : StepText) (step : JobStep) (fault : TextFault)
    → IsStepOf program text step → IsStepFaultOf program text.parts fault → ⊥
step_clash_by programs.Decks text (Decks step) fault h g =
    let a = h.decks in cc
step_clash_by programs.Decks text (Utilities step) fault h g = h
step_clash_by programs.Utilities text (Decks step) fault h g = h
step_clash_by programs.Utilities text (Utilities step) fault h g =
    commands_clash (command_lines text.parts) (data_names text.parts) step.commands fault
    h.commands g

step_clash : (text : StepText) (step : JobStep) (fault : TextFault) → IsStep text step
    → IsStepFault text fault → ⊥
step_clash text step fault h g = step_clash_by text.program text step fault h g

one_first : (texts : List StepText) (last : Option TextFault) (one other : TextFault)
    → IsFirstOf texts last one → IsFirstOf texts last other → one ≡ other
one_first [] last one other h g = cc
one_first (text ∷ texts) last one other h g =
    elim h [
      | inl first ↦
          elim g [
            | inl second ↦ one_fault_of text.program text.parts one other first second
            | inr later ↦ absurd (step_clash text later.0 one later.1 first)
          ]
      | inr after ↦
          elim g [
            | inl second ↦ absurd (step_clash text after.0 other after.1 second)
            | inr later ↦ one_first texts last one other after.2 later.2
          ]
    ]

pub one_fault : (text : List ℕ) (one other : TextFault) → IsFirstFault text one
    → IsFirstFault text other → one ≡ other
one_fault text one other h g =
    one_first (laid text).steps (laid text).fault one other h g

steps_clash : (texts : List StepText) (last : Option TextFault) (steps : List JobStep)
    (fault : TextFault) → AreSteps texts steps → last ≡ None → IsFirstOf texts last fault → ⊥
steps_clash [] last [] fault all none h = cc
steps_clash [] last (step ∷ steps) fault all none h = all
steps_clash (text ∷ texts) last [] fault all none h = all
steps_clash (text ∷ texts) last (step ∷ steps) fault all none h =
    elim h [
      | inl first ↦ step_clash text step fault all.0 first
      | inr later ↦ steps_clash texts last steps fault all.1 none later.2
    ]

pub job_clash : (text : List ℕ) (job : Job) (fault : TextFault) → IsJob text job
    → IsFirstFault text fault → ⊥
job_clash text job fault h g =
    steps_clash (laid text).steps (laid text).fault job.steps fault h.steps h.right g

-- there is one or the other
decks_either : (text : StepText) (decks : Result (List Deck) TextFault)
    → decks_in text.parts ≡ decks
    → ((step : JobStep) × IsStepOf programs.Decks text step)
    ⊎ ((fault : TextFault) × IsStepFaultOf programs.Decks text.parts fault)
decks_either text (Ok decks) is =
    let step : Step = record { name = text.name; line = text.line; decks = decks } in
    inl (Decks step, record { name = refl; line = refl; decks = is })
decks_either text (Err fault) is = inr (fault, is)

commands_either : (tokens : List Token) (names : List (List ℕ)) (all : Stepped)
    → read tokens names ≡ all
    → ((commands : List Node) × ams.IsCommands tokens names commands)
    ⊎ ((fault : TextFault) × IsTokenFault tokens names fault)
commands_either tokens names (Went s) is = inl (s.nodes, ap nodes_in is)
commands_either tokens names (Failed cause at) is =
    inr (ams_fault (ams.fault_at tokens cause at), ap (ams.fault_in tokens) is)

lines_either : (lines : List Line) (names : List (List ℕ))
    → ((commands : List Node) × AreCommands lines names commands)
    ⊎ ((fault : TextFault) × IsUtilityFault lines names fault)
lines_either lines names =
    elim (tokens_or_a_fault lines) [
      | inl some ↦
          elim (commands_either some.0 names (read some.0 names) refl) [
            | inl right ↦
                inl (right.0, record { tokens = some.0; spelled = some.1; are = right.1 })
            | inr bad ↦
                inr (bad.0, inr (record { tokens = some.0; spelled = some.1; first = bad.1 }))
          ]
      | inr form ↦ inr (scan_fault form.0, inl form.1)
    ]

utilities_either : (text : StepText)
    → ((step : JobStep) × IsStepOf programs.Utilities text step)
    ⊎ ((fault : TextFault) × IsStepFaultOf programs.Utilities text.parts fault)
utilities_either text =
    elim (lines_either (command_lines text.parts) (data_names text.parts)) [
      | inl some ↦
          let step : UtilityStep = record {
            name = text.name;
            line = text.line;
            commands = some.0;
            inputs = data_of text.parts;
          } in
          inl (
            Utilities step,
            record { name = refl; line = refl; commands = some.1; inputs = refl },
          )
      | inr bad ↦ inr (bad.0, bad.1)
    ]

step_either_by : (program : Program) (text : StepText)
    → ((step : JobStep) × IsStepOf program text step)
    ⊎ ((fault : TextFault) × IsStepFaultOf program text.parts fault)
step_either_by programs.Decks text = decks_either text (decks_in text.parts) refl
step_either_by programs.Utilities text = utilities_either text

steps_either : (texts : List StepText) (last : Option TextFault)
    → ((steps : List JobStep) × AreSteps texts steps
    × ((fault : TextFault) → last ≡ Some fault → IsFirstOf texts last fault))
    ⊎ ((fault : TextFault) × IsFirstOf texts last fault)
steps_either [] last = inl ([], tt, λ fault is. is)
steps_either (text ∷ texts) last =
    elim (step_either_by text.program text) [
      | inl one ↦
          elim (steps_either texts last) [
            | inl all ↦
                inl (
                  one.0 ∷ all.0,
                  (one.1, all.1),
                  λ fault is. inr (one.0, one.1, all.2 fault is),
                )
            | inr later ↦ inr (later.0, inr (one.0, one.1, later.1))
          ]
      | inr bad ↦ inr (bad.0, inl bad.1)
    ]

last_by : (text : List ℕ) (last : Option TextFault) → (laid text).fault ≡ last
    → (steps : List JobStep) → AreSteps (laid text).steps steps
    → ((fault : TextFault) → (laid text).fault ≡ Some fault
    → IsFirstOf (laid text).steps (laid text).fault fault)
    → ((job : Job) × IsJob text job) ⊎ ((fault : TextFault) × IsFirstFault text fault)
last_by text None is steps all first =
    inl (record { steps = steps }, record { right = is; steps = all })
last_by text (Some fault) is steps all first = inr (fault, first fault is)

either_by : (text : List ℕ) (last : Option TextFault) → (laid text).fault ≡ last
    → ((job : Job) × IsJob text job) ⊎ ((fault : TextFault) × IsFirstFault text fault)
either_by text last is =
    elim (steps_either (laid text).steps (laid text).fault) [
      | inl all ↦ last_by text last is all.0 all.1 all.2
      | inr first ↦ inr (first.0, first.1)
    ]

pub either_in : (text : List ℕ)
    → ((job : Job) × IsJob text job) ⊎ ((fault : TextFault) × IsFirstFault text fault)
either_in text = either_by text (laid text).fault refl
