-- The faults of a job text: what is wrong, in which line and column. The numbers of the causes are
-- those that reports show.
use Rattle.std.specs.Prelude.{◌≡◌, ℕ, Result, Err}
use Rattle.vr_scan.specs.declared.fault.FormCause.{FormCause}
use Rattle.vr_scan.specs.declared.fault.FormCause.TheVariants.{OpenComment, OpenLiteral, Digit}
use Rattle.vr_scan.specs.declared.fault.FormCause.TheVariants.{Continuation}
use Rattle.vr_scan.specs.declared.fault.FormFault.{FormFault}
use Rattle.vr_amsparse.specs.declared.fault.CommandFault.{CommandFault}
use Rattle.vr_deck_text.specs.declared.fault.DeckCause.{DeckCause}
use Rattle.vr_job_text.specs.declared.fault.CardCause.{CardCause}
use Rattle.vr_job_text.specs.declared.fault.CardCause.TheVariants.{Misspelled, OtherProgram}
use Rattle.vr_job_text.specs.declared.fault.CardCause.TheVariants.{StrayText, DeckNumber, Character}
use Rattle.vr_job_text.specs.declared.fault.CardCause.TheVariants.{LongData, TooManyDecks, DataTwice}
use Rattle.vr_job_text.specs.declared.fault.CardFault.{CardFault}
use Rattle.vr_job_text.specs.declared.fault.JobFault.{JobFault}
use Rattle.vr_job_text.specs.declared.fault.JobFault.TheVariants.{Text, Memory}
use Rattle.vr_job_text.specs.declared.fault.Kind.TheVariants.{Card, Scan, Ams, Deck, Form}
use Rattle.vr_job_text.specs.declared.fault.TextFault.{TextFault}

abbrev pub cause_number : CardCause → ℕ
cause_number Misspelled = 1
cause_number OtherProgram = 2
cause_number StrayText = 3
cause_number DeckNumber = 4
cause_number Character = 5
cause_number LongData = 6
cause_number TooManyDecks = 7
cause_number DataTwice = 8

-- the causes for which the text of a step has no tokens, in the order in which vr_scan has them
abbrev pub scan_number : FormCause → ℕ
scan_number OpenComment = 1
scan_number OpenLiteral = 2
scan_number Digit = 3
scan_number Continuation = 4

-- what is wrong with a card, and the column where the wrong thing begins
abbrev pub wrong : CardCause → ℕ → CardFault
wrong cause column = record { cause = cause; column = column }

-- the fault of a card on a line
abbrev pub card_fault : ℕ → CardFault → TextFault
card_fault line fault = record { kind = Card fault.cause; line = line; column = fault.column }

-- a fault of the tokens of a step of IDCAMS, and one of its commands: their places are those of the
-- job text
abbrev pub scan_fault : FormFault → TextFault
scan_fault fault = record { kind = Scan fault.cause; line = fault.line; column = fault.column }

abbrev pub ams_fault : CommandFault → TextFault
ams_fault fault = record { kind = Ams fault.cause; line = fault.line; column = fault.column }

-- a fault of a deck is reported at its line, in column 1
abbrev pub deck_fault : ℕ → DeckCause → TextFault
deck_fault line cause = record { kind = Deck cause; line = line; column = 1 }

-- and so is what is right and isn't run yet
abbrev pub form_fault : ℕ → TextFault
form_fault line = record { kind = Form; line = line; column = 1 }

-- when each fault comes, by what the definition gives; memory may run out at any time
abbrev pub FaultBy : {T : Type 0} → Result T TextFault → JobFault → Type 0
FaultBy outcome (Text fault) = outcome ≡ Err fault
FaultBy outcome Memory = Unit {0}
