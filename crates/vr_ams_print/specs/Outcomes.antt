-- What PRINT and VERIFY come to over volumes, after Access Method Services Commands. That VERIFY
-- reads the data set through, and the line that it prints, are this project's own.
use Rattle.std.specs.Prelude.{◌≡◌, ◌⊎◌, ℕ, Bool, false, List, [], ◌∷◌, ◌++◌, codes, map, Some}
use Rattle.std.specs.Prelude.{Ok, Err, slice_get, slice_set}
use Rattle.vr_types.specs.declared.unit.Kind.{Kind}
use Rattle.vr_catalog.specs.declared.entry.CatEntry.{CatEntry}
use Rattle.vr_amsparse.specs.declared.command.PrintCommand.{PrintCommand}
use Rattle.vr_trace.specs.Commands.{done, refused}
use Rattle.vr_trace.specs.Lines.{field}
use Rattle.vr_trace.specs.Shown.{Shown}
use Rattle.vr_trace.specs.Visitors.{Visited}
use Rattle.vr_trace.specs.declared.command.Failure.{Failure}
use Rattle.vr_trace.specs.declared.command.Outcome.{Outcome}
use Rattle.vr_ams_define.specs.Altered.{entry_at, place_of}
use Rattle.vr_ams_define.specs.Answers.{Answering, Exchange}
use Rattle.vr_ams_define.specs.Answers.Exchange.{Counting, Reading}
use Rattle.vr_ams_define.specs.Failures.{fault_failure}
use Rattle.vr_ams_define.specs.declared.answer.Counted.{Counted}
use Rattle.vr_ams_define.specs.declared.answer.Counted.TheVariants as counts
use Rattle.vr_ams_define.specs.declared.answer.ReadBack.{ReadBack}
use Rattle.vr_ams_define.specs.declared.answer.ReadBack.TheVariants as reads
use Rattle.vr_ams_print.specs.Printed.{first_place, has_keys, print_lines, printed}
use Rattle.vr_ams_print.specs.Sources.{source_kind}

-- The command is refused by its first cause, and no volume is asked.
pub record IsRefused {V : Type 0} (shown : V → Shown) (keyed : Bool) (name : List ℕ)
    (old new : List V) (outcome : Outcome) : Type 0 where
  pub failure : Failure
  pub first_is : source_kind keyed (map shown old) name ≡ Err failure
  pub outcome_is : outcome ≡ refused failure
  pub same : new ≡ old

-- It isn't, and the lowest volume with the name was asked about its entry, which is that of a
-- cluster of this kind, and answered; the others are as they were.
pub record IsAsked {V : Type 0} (shown : V → Shown) (answers : Answering V) (line : ℕ)
    (keyed : Bool) (name : List ℕ) (kind : Kind) (exchange : CatEntry → Exchange)
    (old new : List V) : Type 0 where
  pub kind_is : source_kind keyed (map shown old) name ≡ Ok kind
  pub place : ℕ
  pub place_is : place_of (map shown old) name ≡ Some place
  pub entry : CatEntry
  pub entry_is : entry_at (map shown old) place name ≡ Some entry
  pub before : V
  pub before_is : slice_get old place ≡ Some before
  pub after : V
  pub answered : answers before line (exchange entry) after
  pub others : new ≡ slice_set old place after

-- ---- PRINT

-- the lines of the records that are printed of those that were read; 904 and 905 where the device
-- failed, without a line
abbrev pub print_outcome : ReadBack → Kind → PrintCommand → List Visited → Outcome
print_outcome reads.Done kind command records =
    done (print_lines kind command.form (printed command.from command.to records))
print_outcome (reads.Fault fault) kind command records = refused (fault_failure fault)

abbrev pub reading : PrintCommand → List Visited → ReadBack → CatEntry → Exchange
reading command records answer entry =
    Reading entry (first_place command.from) records answer

-- The data set was read, and the outcome is by that.
pub record IsPrintAnswered {V : Type 0} (shown : V → Shown) (answers : Answering V) (line : ℕ)
    (command : PrintCommand) (old new : List V) (outcome : Outcome) : Type 0 where
  pub kind : Kind
  pub records : List Visited
  pub answer : ReadBack
  pub asked : IsAsked shown answers line (has_keys command.from command.to) command.source kind
      (reading command records answer) old new
  pub outcome_is : outcome ≡ print_outcome answer kind command records

-- A PRINT on a line, over volumes that show this and answer so, leaves these volumes with this
-- outcome.
abbrev pub IsPrintedBy : {V : Type 0} → (V → Shown) → Answering V → ℕ → PrintCommand → List V
    → List V → Outcome → Type 0
IsPrintedBy shown answers line command old new outcome =
    IsRefused shown (has_keys command.from command.to) command.source old new outcome
    ⊎ IsPrintAnswered shown answers line command old new outcome

-- ---- VERIFY

-- how many records the data set has
abbrev pub records_line : ℕ → List ℕ
records_line count = field (codes "RECORDS ") count ++ 10 ∷ []

abbrev pub verify_outcome : Counted → Outcome
verify_outcome (counts.Done numbers) = done (records_line numbers.records)
verify_outcome (counts.Fault fault) = refused (fault_failure fault)

abbrev pub counting : Counted → CatEntry → Exchange
counting answer entry = Counting entry answer

-- The records of the data set were counted, and the outcome is by that.
pub record IsVerifyAnswered {V : Type 0} (shown : V → Shown) (answers : Answering V) (line : ℕ)
    (name : List ℕ) (old new : List V) (outcome : Outcome) : Type 0 where
  pub kind : Kind
  pub answer : Counted
  pub asked : IsAsked shown answers line false name kind (counting answer) old new
  pub outcome_is : outcome ≡ verify_outcome answer

-- A VERIFY on a line, over volumes that show this and answer so, leaves these volumes with this
-- outcome.
abbrev pub IsVerifiedBy : {V : Type 0} → (V → Shown) → Answering V → ℕ → List ℕ → List V → List V
    → Outcome → Type 0
IsVerifiedBy shown answers line name old new outcome =
    IsRefused shown false name old new outcome
    ⊎ IsVerifyAnswered shown answers line name old new outcome
