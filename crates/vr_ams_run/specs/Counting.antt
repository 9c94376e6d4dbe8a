-- What the steps of LISTCAT ALL say to one another. The rules are this project's own.
use Rattle.std.specs.Prelude.{◌≡◌, ◌⊎◌, ℕ, true, List, ◌∷◌, ◌++◌, length, map, Option, Some, None}
use Rattle.vr_types.specs.declared.fault.DeviceFault.{DeviceFault}
use Rattle.vr_trace.specs.Commands.{done, refused}
use Rattle.vr_trace.specs.Shown.{Shown}
use Rattle.vr_trace.specs.declared.command.Outcome.{Outcome}
use Rattle.vr_trace.specs.declared.statistics.Statistics.{Statistics}
use Rattle.vr_ams_list.specs.declared.listed.Listed.{Listed}
use Rattle.vr_ams_list.specs.Listing.{all_full_lines, full_lines, total_line}
use Rattle.vr_ams_define.specs.Answers.{Answering}
use Rattle.vr_ams_define.specs.Failures.{fault_failure}
use Rattle.vr_ams_define.specs.declared.answer.Counted.{Counted}
use Rattle.vr_ams_define.specs.declared.answer.Counted.TheVariants.{Done, Fault}
use Rattle.vr_ams_run.specs.ListedAll.{CountRun, CountsRun, IsAsked, is_counted}

-- A fault came as the volume of an entry was asked.
pub record HasFailed {V : Type 0} (answers : Answering V) (line : ℕ) (listed : Listed)
    (old new : List V) (fault : DeviceFault) : Type 0 where
  pub counted_is : is_counted listed.entry.entry_kind ≡ true
  pub asked : IsAsked answers line listed old new (Fault fault)

-- An entry was counted, and the volumes show what they showed.
pub record HasCounted {V : Type 0} (shown : V → Shown) (answers : Answering V) (line : ℕ)
    (listed : Listed) (old new : List V) (numbers : Statistics) : Type 0 where
  pub ran : CountRun answers line listed old new numbers
  pub same : map shown new ≡ map shown old

-- what counting an entry came to
abbrev pub IsCounted : {V : Type 0} → (V → Shown) → Answering V → ℕ → Listed → List V → List V
    → Counted → Type 0
IsCounted shown answers line listed old new (Done numbers) =
    HasCounted shown answers line listed old new numbers
IsCounted shown answers line listed old new (Fault fault) =
    HasFailed answers line listed old new fault

-- An entry was counted, and has its lines.
pub record HasListed {V : Type 0} (shown : V → Shown) (answers : Answering V) (line : ℕ)
    (listed : Listed) (old new : List V) (before after : List ℕ) : Type 0 where
  pub numbers : Statistics
  pub counted : HasCounted shown answers line listed old new numbers
  pub lines : after ≡ before ++ full_lines (map shown old) listed numbers

-- what listing an entry came to, where a fault may have come
abbrev pub IsListedOne : {V : Type 0} → (V → Shown) → Answering V → ℕ → Listed → List V → List V
    → List ℕ → List ℕ → Option DeviceFault → Type 0
IsListedOne shown answers line listed old new before after None =
    HasListed shown answers line listed old new before after
IsListedOne shown answers line listed old new before after (Some fault) =
    HasFailed answers line listed old new fault

-- Entries were counted, one after another, and have their lines.
pub record HaveListed {V : Type 0} (shown : V → Shown) (answers : Answering V) (line : ℕ)
    (entries : List Listed) (old new : List V) (before after : List ℕ) : Type 0 where
  pub numbers : List Statistics
  pub ran : CountsRun answers line entries old new numbers
  pub lines : after ≡ before ++ all_full_lines (map shown old) entries numbers

-- A fault came at one of the entries, after those before it were counted.
pub record HasFailedAmong {V : Type 0} (answers : Answering V) (line : ℕ)
    (entries : List Listed) (old new : List V) (fault : DeviceFault) : Type 0 where
  pub first : List Listed
  pub one : Listed
  pub rest : List Listed
  pub entries_are : entries ≡ first ++ one ∷ rest
  pub numbers : List Statistics
  pub between : List V
  pub ran : CountsRun answers line first old between numbers
  pub failed : HasFailed answers line one between new fault

-- what listing entries came to
abbrev pub AreListed : {V : Type 0} → (V → Shown) → Answering V → ℕ → List Listed → List V → List V
    → List ℕ → List ℕ → Option DeviceFault → Type 0
AreListed shown answers line entries old new before after None =
    HaveListed shown answers line entries old new before after
AreListed shown answers line entries old new before after (Some fault) =
    HasFailedAmong answers line entries old new fault

-- All entries were counted, and the outcome has their lines.
pub record IsEndOfAll {V : Type 0} (shown : V → Shown) (answers : Answering V) (line : ℕ)
    (entries : List Listed) (old new : List V) (outcome : Outcome) : Type 0 where
  pub numbers : List Statistics
  pub ran : CountsRun answers line entries old new numbers
  pub outcome_is : outcome
      ≡ done (all_full_lines (map shown old) entries numbers ++ total_line (length entries))

-- A fault came, and the command is refused with it.
pub record IsEndByFault {V : Type 0} (answers : Answering V) (line : ℕ) (entries : List Listed)
    (old new : List V) (outcome : Outcome) : Type 0 where
  pub fault : DeviceFault
  pub failed : HasFailedAmong answers line entries old new fault
  pub outcome_is : outcome ≡ refused (fault_failure fault)

-- the outcome of these entries
abbrev pub IsEndOf : {V : Type 0} → (V → Shown) → Answering V → ℕ → List Listed → List V → List V
    → Outcome → Type 0
IsEndOf shown answers line entries old new outcome =
    IsEndOfAll shown answers line entries old new outcome
    ⊎ IsEndByFault answers line entries old new outcome
