-- What LISTCAT ALL of Access Method Services Commands comes to over volumes: each cluster that it
-- lists is counted, one after another. The faults are this project's own.
use Rattle.std.specs.Prelude.{◌≡◌, ℕ, Bool, true, false, List, [], ◌∷◌, ◌++◌, ◌⊎◌, Some, None, map}
use Rattle.std.specs.Prelude.{slice_get, slice_set}
use Rattle.vr_types.specs.declared.fault.DeviceFault.{DeviceFault}
use Rattle.vr_catalog.specs.declared.entry.EntryKind.{EntryKind}
use Rattle.vr_catalog.specs.declared.entry.EntryKind.TheVariants.{Cluster, Alternate, Path}
use Rattle.vr_trace.specs.Commands.{done, refused}
use Rattle.vr_trace.specs.Shown.{Shown}
use Rattle.vr_trace.specs.declared.command.Failure.{Failure}
use Rattle.vr_trace.specs.declared.command.Outcome.{Outcome}
use Rattle.vr_trace.specs.declared.statistics.Statistics.{Statistics}
use Rattle.vr_ams_list.specs.Faults.{failure_of}
use Rattle.vr_ams_list.specs.declared.listed.Listed.{Listed}
use Rattle.vr_ams_list.specs.Listing.{all_lines, listed_entries}
use Rattle.vr_ams_define.specs.Answers.{Answering}
use Rattle.vr_ams_define.specs.Answers.Exchange.{Counting}
use Rattle.vr_ams_define.specs.Failures.{fault_failure}
use Rattle.vr_ams_define.specs.declared.answer.Counted.{Counted}
use Rattle.vr_ams_define.specs.declared.answer.Counted.TheVariants.{Done, Fault}

-- Clusters are counted. An alternate index that isn't built and a path have no records of their own
-- to count, and one that is built isn't served yet.
abbrev pub is_counted : EntryKind → Bool
is_counted Cluster = true
is_counted Alternate = false
is_counted Path = false

abbrev pub no_numbers : Statistics
no_numbers = record { records = 0; areas = 0; interval_splits = 0; area_splits = 0 }

-- The volume of the entry was asked, and the others are as they were.
pub record IsAsked {V : Type 0} (answers : Answering V) (line : ℕ) (listed : Listed)
    (old new : List V) (counted : Counted) : Type 0 where
  pub before : V
  pub before_is : slice_get old listed.volume ≡ Some before
  pub after : V
  pub answered : answers before line (Counting listed.entry counted) after
  pub others : new ≡ slice_set old listed.volume after

-- one entry was counted, where it is
abbrev pub CountRunWhere : {V : Type 0} → Bool → Answering V → ℕ → Listed → List V → List V
    → Statistics → Type 0
CountRunWhere true answers line listed old new numbers =
    IsAsked answers line listed old new (Done numbers)
CountRunWhere false answers line listed old new numbers = (new ≡ old) × (numbers ≡ no_numbers)

abbrev pub CountRun : {V : Type 0} → Answering V → ℕ → Listed → List V → List V → Statistics
    → Type 0
CountRun answers line listed old new numbers =
    CountRunWhere (is_counted listed.entry.entry_kind) answers line listed old new numbers

-- these entries were counted, one after another
abbrev pub CountsRun : {V : Type 0} → Answering V → ℕ → List Listed → List V → List V
    → List Statistics → Type 0
CountsRun answers line [] old new numbers = (new ≡ old) × (numbers ≡ [])
CountsRun answers line (listed ∷ others) old new [] = ⊥
CountsRun {V} answers line (listed ∷ others) old new (numbers ∷ more) = (between : List V)
    × CountRun answers line listed old between numbers
    × CountsRun answers line others between new more

-- The command is refused by its first cause, and no volume is asked.
pub record IsRefusedAll {V : Type 0} (shown : V → Shown) (names : List (List ℕ)) (old new : List V)
    (outcome : Outcome) : Type 0 where
  pub failure : Failure
  pub first_is : failure_of (map shown old) names ≡ Some failure
  pub outcome_is : outcome ≡ refused failure
  pub same : new ≡ old

-- All entries that are listed were counted: the lines are theirs.
pub record IsCountedAll {V : Type 0} (shown : V → Shown) (answers : Answering V) (line : ℕ)
    (names : List (List ℕ)) (old new : List V) (outcome : Outcome) : Type 0 where
  pub first_is : failure_of (map shown old) names ≡ None
  pub numbers : List Statistics
  pub ran : CountsRun answers line (listed_entries (map shown old) names) old new numbers
  pub outcome_is : outcome ≡ done (all_lines (map shown old) names numbers)

-- The device failed as one of them was counted: there is no detail line, and none after it is
-- counted.
pub record IsFailedAt {V : Type 0} (shown : V → Shown) (answers : Answering V) (line : ℕ)
    (names : List (List ℕ)) (old new : List V) (outcome : Outcome) : Type 0 where
  pub first_is : failure_of (map shown old) names ≡ None
  pub first : List Listed
  pub one : Listed
  pub rest : List Listed
  pub listed_are : listed_entries (map shown old) names ≡ first ++ one ∷ rest
  pub numbers : List Statistics
  pub between : List V
  pub ran : CountsRun answers line first old between numbers
  pub counted_is : is_counted one.entry.entry_kind ≡ true
  pub fault : DeviceFault
  pub failed : IsAsked answers line one between new (Fault fault)
  pub outcome_is : outcome ≡ refused (fault_failure fault)

-- LISTCAT ALL on a line of these names, or of all entries, over volumes that show this and answer
-- so, leaves these volumes with this outcome.
abbrev pub IsListedAll : {V : Type 0} → (V → Shown) → Answering V → ℕ → List (List ℕ) → List V
    → List V → Outcome → Type 0
IsListedAll shown answers line names old new outcome =
    IsRefusedAll shown names old new outcome
    ⊎ (IsCountedAll shown answers line names old new outcome
    ⊎ IsFailedAt shown answers line names old new outcome)
