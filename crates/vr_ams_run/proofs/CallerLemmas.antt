-- What crates above cite of reports: the code of a step is 16 at most.
use Rattle.std.proofs.Common.{◌≡◌, ◌≤◌, ℕ, Bool, true, false, List, [], ◌∷◌, Option, Some, None}
use Rattle.std.proofs.Common.{arith, inl, inr, map, subst, sym, Result, Ok, Err, IfErr}
use Rattle.std.specs.Prelude.{codes, not, ◌&&◌, length, if◌then◌else◌, IfSome, slice_get}
use Rattle.std.specs.Option.{option_and_then, option_map, option_or}
use Rattle.std.proofs.Math.Nat.{max-le, min-le_right}
use Rattle.vr_types.specs.declared.fault.DeviceFault.{DeviceFault}
use Rattle.vr_types.specs.declared.fault.DeviceFault.TheVariants.{Read, Write}
use Rattle.vr_types.specs.declared.geometry.Geometry.{Geometry}
use Rattle.vr_types.specs.declared.unit.Kind.{Kind}
use Rattle.vr_types.specs.declared.reply.Refusal.TheVariants.{Stopped}
use Rattle.vr_catalog.specs.Alter.{altered as altered_entry}
use Rattle.vr_catalog.specs.Define.{define_fault, is_path_kind, new_entry, related_name}
use Rattle.vr_catalog.specs.Entry.{is_entry}
use Rattle.vr_catalog.specs.Fault.{fault_code}
use Rattle.vr_catalog.specs.declared.entry.CatEntry.{CatEntry}
use Rattle.vr_catalog.specs.declared.entry.EntryKind.{EntryKind}
use Rattle.vr_catalog.specs.declared.fault.CatFault.{CatFault}
use Rattle.vr_catalog.specs.declared.fault.CatFault.TheVariants as faults
use Rattle.vr_catalog.specs.declared.order.Alter.{Alter}
use Rattle.vr_catalog.specs.declared.order.Define.{Define}
use Rattle.vr_catalog.specs.declared.order.NewEntry.{NewEntry}
use Rattle.vr_catalog.specs.declared.order.NewEntry.TheVariants.{Cluster, Alternate, Path}
use Rattle.vr_edits.specs.declared.edit.CatalogEdit.{CatalogEdit}
use Rattle.vr_amsparse.specs.declared.command.CodeVariable.{CodeVariable}
use Rattle.vr_amsparse.specs.declared.command.CodeVariable.TheVariants.{LastCode, MaxCode}
use Rattle.vr_amsparse.specs.declared.command.Command.{Command}
use Rattle.vr_amsparse.specs.declared.command.Command.TheVariants as commands
use Rattle.vr_amsparse.specs.declared.command.DefineCommand.{DefineCommand}
use Rattle.vr_amsparse.specs.declared.command.ListCommand.{ListCommand}
use Rattle.vr_amsparse.specs.declared.command.Node.{Node}
use Rattle.vr_amsparse.specs.declared.command.PrintCommand.{PrintCommand}
use Rattle.vr_trace.specs.Commands.{outcome_by}
use Rattle.vr_trace.specs.Shown.{Shown, is_known}
use Rattle.vr_trace.specs.Visitors.{Visited}
use Rattle.vr_trace.specs.declared.command.Failure.{Failure}
use Rattle.vr_trace.specs.declared.command.Outcome.{Outcome}
use Rattle.vr_trace.specs.declared.report.StepReport.{StepReport}
use Rattle.vr_ams_list.specs.Faults.{failure_of, has_stopped, is_missing, not_found, stopped}
use Rattle.vr_ams_list.specs.Listing.{detail_lines}
use Rattle.vr_ams_list.specs.Outcomes.{listed}
use Rattle.vr_ams_define.specs.declared.answer.Changed.{Changed}
use Rattle.vr_ams_define.specs.declared.answer.Changed.TheVariants as changes
use Rattle.vr_ams_define.specs.declared.answer.Counted.{Counted}
use Rattle.vr_ams_define.specs.declared.answer.Counted.TheVariants as numbers
use Rattle.vr_ams_define.specs.declared.answer.ReadBack.{ReadBack}
use Rattle.vr_ams_define.specs.declared.answer.ReadBack.TheVariants as reads
use Rattle.vr_ams_define.specs.declared.answer.Defined.{Defined}
use Rattle.vr_ams_define.specs.declared.answer.Defined.TheVariants.{Done, Again, NoArea, NoRoom}
use Rattle.vr_ams_define.specs.declared.answer.Defined.TheVariants.{Held, Full, Fault}
use Rattle.vr_ams_define.specs.Altered as altered
use Rattle.vr_ams_define.specs.Asked as asked
use Rattle.vr_ams_define.specs.Answers.{Answering}
use Rattle.vr_ams_define.specs.Chosen.{chosen}
use Rattle.vr_ams_define.specs.Deleted as deleted
use Rattle.vr_ams_define.specs.Failures.{catalog_failure, early_failure, failure_at, failure_if}
use Rattle.vr_ams_define.specs.Failures.{failure_on, fault_failure, name_failure, record_failure}
use Rattle.vr_ams_define.specs.Failures.{stopped_failure, volume_at, volume_failure}
use Rattle.vr_ams_define.specs.Outcomes.{IsDefined, IsOutcome}
use Rattle.vr_ams_define.specs.Over as over
use Rattle.vr_ams_print.specs.Outcomes.{IsPrintedBy, IsRefused, IsVerifiedBy, print_outcome}
use Rattle.vr_ams_print.specs.Outcomes.{verify_outcome}
use Rattle.vr_ams_print.specs.Printed.{has_keys}
use Rattle.vr_ams_print.specs.Sources as sources
use Rattle.vr_ams_run.specs.declared.codes.Codes.{Codes}
use Rattle.vr_ams_run.specs.declared.going.Going.{Going}
use Rattle.vr_ams_run.specs.Codes.{set_to}
use Rattle.vr_ams_run.specs.ListedAll.{IsListedAll}
use Rattle.vr_ams_run.specs.Running.{CommandRun, DefineRun, IsAlteredAs, IsOverAs, IsReport, ListRun}
use Rattle.vr_ams_run.specs.Running.{NodeRunWhere, NodesRun, Stage, first_stage, list_run}
use Rattle.vr_ams_run.specs.Running.{reaches}

-- ---- failures

abbrev IsMild : Failure → Type 0
IsMild failure = failure.code ≤ 16

fault-mild : (fault : CatFault) → fault_code fault ≤ 16
fault-mild faults.NameTaken = omega arith
fault-mild faults.NotFound = omega arith
fault-mild faults.WrongKind = omega arith
fault-mild faults.NoVolume = omega arith
fault-mild faults.KeyPastRecord = omega arith
fault-mild faults.RecordSize = omega arith
fault-mild faults.FewIntervals = omega arith
fault-mild faults.NoArea = omega arith
fault-mild faults.WrongBase = omega arith
fault-mild faults.TooManyAlternates = omega arith
fault-mild faults.AlreadyBuilt = omega arith
fault-mild faults.NotTogether = omega arith
fault-mild faults.DuplicateKey = omega arith
fault-mild faults.CatalogFull = omega arith
fault-mild faults.Memory = omega arith

-- the first of two, where each is mild
first-mild : (one other : Option Failure) → IfSome one IsMild → IfSome other IsMild
    → IfSome (option_or one other) IsMild
first-mild None other mild others = others
first-mild (Some failure) other mild others = mild

if-mild : (cause : Bool) (failure : Failure) → IsMild failure
    → IfSome (failure_if cause failure) IsMild
if-mild true failure mild = mild
if-mild false failure mild = tt

stopped-mild : (volume : Option Shown) → IfSome (option_and_then stopped_failure volume) IsMild
stopped-mild None = tt
stopped-mild (Some volume) = if-mild volume.stopped (volume_failure (Stopped 0)) (omega arith)

catalog-mild : (fault : Option CatFault) → IfSome (option_map catalog_failure fault) IsMild
catalog-mild None = tt
catalog-mild (Some fault) = fault-mild fault

record-mild : (entry : CatEntry) → IfSome (record_failure entry) IsMild
record-mild entry = by (is_entry entry)
  where
    by : (spelled : Bool)
        → IfSome (if spelled then None else Some (catalog_failure faults.CatalogFull)) IsMild
    by true = tt
    by false = omega arith

on-mild : (volume : Option Shown) (geometry : Option Geometry) (order : Define)
    → IfSome (failure_on volume geometry order) IsMild
on-mild None geometry order = omega arith
on-mild (Some volume) None order = omega arith
on-mild (Some volume) (Some geometry) order =
    first-mild (option_map catalog_failure (define_fault volume.catalog order geometry))
    (record_failure (new_entry volume.catalog order))
    (catalog-mild (define_fault volume.catalog order geometry))
    (record-mild (new_entry volume.catalog order))

early-mild : (volumes : List Shown) (number : Option ℕ) (name : List ℕ)
    → IfSome (early_failure volumes number name) IsMild
early-mild volumes number name =
    first-mild (option_and_then stopped_failure (volume_at volumes number))
    (name_failure volumes name) (stopped-mild (volume_at volumes number))
    (if-mild (is_known volumes name) (catalog_failure faults.NameTaken) (omega arith))

-- whatever a DEFINE of a cluster is refused for
failure-mild : (volumes : List Shown) (geometries : List Geometry) (number : Option ℕ)
    (order : Define) → IfSome (failure_at volumes geometries number order) IsMild
failure-mild volumes geometries number order =
    first-mild (early_failure volumes number order.name)
    (failure_on (volume_at volumes number) (volume_at geometries number) order)
    (early-mild volumes number order.name)
    (on-mild (volume_at volumes number) (volume_at geometries number) order)

-- ---- outcomes

code-of : (outcome other : Outcome) → outcome ≡ other → other.code ≤ 16 → outcome.code ≤ 16
code-of outcome other is few = subst (λ (it : Outcome). it.code ≤ 16) (sym is) few

device-few : (fault : DeviceFault) (outcome : Outcome) → IsOutcome (Fault fault) outcome
    → outcome.code ≤ 16
device-few Read outcome is = code-of outcome _ is (omega arith)
device-few Write outcome is = code-of outcome _ is (omega arith)

answer-few : (answer : Defined) (outcome : Outcome) → IsOutcome answer outcome
    → outcome.code ≤ 16
answer-few (Done area) outcome is = code-of outcome _ is (omega arith)
answer-few Again outcome is = absurd is
answer-few NoArea outcome is = code-of outcome _ is (omega arith)
answer-few NoRoom outcome is = code-of outcome _ is (omega arith)
answer-few Held outcome is = code-of outcome _ is (omega arith)
answer-few Full outcome is = code-of outcome _ is (omega arith)
answer-few (Fault fault) outcome is = device-few fault outcome is

defined-few : {V : Type 0} (shown : V → Shown) (geometry : V → Geometry) (answers : Answering V)
    (volumes : List V) (line : ℕ) (order : Define) (volume : Option (List ℕ)) (after : List V)
    (outcome : Outcome)
    → IsDefined shown geometry answers volumes line order volume after outcome
    → outcome.code ≤ 16
defined-few shown geometry answers volumes line order volume after outcome defined =
    elim defined [
      | inl refused ↦ code-of outcome _ refused.outcome_is
          (subst (λ (first : Option Failure). IfSome first IsMild) refused.first_is
          (failure-mild (map shown volumes) (map geometry volumes)
          (chosen (length (map shown volumes)) volume) order))
      | inr answered ↦ answer-few answered.answer outcome answered.outcome_is
    ]

listed-few : (volumes : List Shown) (command : ListCommand)
    → (listed volumes command.entries).code ≤ 16
listed-few volumes command =
    by (is_missing volumes command.entries) (has_stopped volumes command.entries)
  where
    by : (missing halted : Bool) → (outcome_by (if missing then Some not_found else (if halted then
        Some stopped else None)) (detail_lines volumes command.entries)).code ≤ 16
    by true halted = omega arith
    by false true = omega arith
    by false false = omega arith

-- whatever a LISTCAT is refused for
list-mild : (volumes : List Shown) (names : List (List ℕ))
    → IfSome (failure_of volumes names) IsMild
list-mild volumes names = by (is_missing volumes names) (has_stopped volumes names)
  where
    by : (missing halted : Bool) → IfSome (if missing then Some not_found else (if halted then
        Some stopped else None)) IsMild
    by true halted = omega arith
    by false true = omega arith
    by false false = tt

all-few : {V : Type 0} (shown : V → Shown) (answers : Answering V) (line : ℕ)
    (names : List (List ℕ)) (old new : List V) (outcome : Outcome)
    → IsListedAll shown answers line names old new outcome → outcome.code ≤ 16
all-few shown answers line names old new outcome came = elim came [
  | inl refused ↦ code-of outcome _ refused.outcome_is
      (subst (λ (first : Option Failure). IfSome first IsMild) refused.first_is
      (list-mild (map shown old) names))
  | inr asked ↦ elim asked [
    | inl counted ↦ code-of outcome _ counted.outcome_is (omega arith)
    | inr failed ↦ device-few failed.fault outcome failed.outcome_is
  ]
]

-- ---- edits of a catalog

sound-mild : (entries : List CatEntry) (entry : CatEntry)
    → IfSome (altered.unsound_failure entries entry) IsMild
sound-mild entries entry = if-mild (not (altered.is_sound entries entry))
    (catalog_failure faults.WrongKind) (omega arith)

entry-mild : (volume : Option Shown) (entry : Option CatEntry)
    → IfSome (altered.failure_on volume entry) IsMild
entry-mild None entry = omega arith
entry-mild (Some volume) None = omega arith
entry-mild (Some volume) (Some entry) =
    first-mild (stopped_failure volume) (altered.unsound_failure volume.catalog entry)
    (if-mild volume.stopped (volume_failure (Stopped 0)) (omega arith))
    (sound-mild volume.catalog entry)

target-mild : (volumes : List Shown) (place : Option ℕ) (name : List ℕ)
    → IfSome (altered.target_failure volumes place name) IsMild
target-mild volumes None name = omega arith
target-mild volumes (Some place) name =
    entry-mild (slice_get volumes place) (altered.entry_at volumes place name)

named-mild : (volumes : List Shown) (name : List ℕ)
    → IfSome (altered.name_failure volumes name) IsMild
named-mild volumes name = target-mild volumes (altered.place_of volumes name) name

taken-mild : (volumes : List Shown) (name : List ℕ)
    → IfSome (name_failure volumes name) IsMild
taken-mild volumes name =
    if-mild (is_known volumes name) (catalog_failure faults.NameTaken) (omega arith)

new-name-mild : (volumes : List Shown) (name : Option (List ℕ))
    → IfSome (altered.new_name_failure volumes name) IsMild
new-name-mild volumes None = tt
new-name-mild volumes (Some name) = taken-mild volumes name

given-mild : (volumes : List Shown) (entry : Option CatEntry) (order : Alter)
    → IfSome (altered.given_failure volumes entry order) IsMild
given-mild volumes None order = tt
given-mild volumes (Some entry) order =
    first-mild (altered.early_failure volumes entry order) (altered.altered_failure entry order)
    (first-mild (failure_if (altered.is_path_altered entry order)
    (catalog_failure faults.WrongKind)) (altered.new_name_failure volumes order.new_name)
    (if-mild (altered.is_path_altered entry order) (catalog_failure faults.WrongKind)
    (omega arith)) (new-name-mild volumes order.new_name))
    (if-mild (not (is_entry (altered_entry entry order))) (catalog_failure faults.CatalogFull)
    (omega arith))

-- whatever an ALTER is refused for
alter-mild : (volumes : List Shown) (order : Alter)
    → IfSome (altered.alter_failure volumes order) IsMild
alter-mild volumes order = first-mild (altered.name_failure volumes order.name)
    (altered.given_failure volumes (altered.entry_of_name volumes order.name) order)
    (named-mild volumes order.name)
    (given-mild volumes (altered.entry_of_name volumes order.name) order)

base-mild : (volumes : List Shown) (name : Option (List ℕ))
    → IfSome (over.base_failure volumes name) IsMild
base-mild volumes None = omega arith
base-mild volumes (Some name) = named-mild volumes name

over-on-mild : (volumes : List Shown) (geometries : List Geometry) (base : Option CatEntry)
    (place : Option ℕ) (order : Define) (volume : Option (List ℕ))
    → IfSome (over.over_failure_on volumes geometries base place order volume) IsMild
over-on-mild volumes geometries None place order volume = tt
over-on-mild volumes geometries (Some base) None order volume = tt
over-on-mild volumes geometries (Some base) (Some place) order volume =
    first-mild (over.early_failure volumes base place order volume)
    (failure_on (slice_get volumes place) (slice_get geometries place) order)
    (first-mild (over.path_failure base)
    (option_or (name_failure volumes order.name) (over.volume_failure volume place))
    (if-mild (is_path_kind base.entry_kind) (catalog_failure faults.WrongKind) (omega arith))
    (first-mild (name_failure volumes order.name) (over.volume_failure volume place)
    (taken-mild volumes order.name)
    (if-mild (not (over.is_volume_of volume place)) (catalog_failure faults.NoVolume)
    (omega arith))))
    (on-mild (slice_get volumes place) (slice_get geometries place) order)

-- whatever a DEFINE of an alternate index or a path is refused for
over-mild : (volumes : List Shown) (geometries : List Geometry) (order : Define)
    (volume : Option (List ℕ)) → IfSome (over.over_failure volumes geometries order volume) IsMild
over-mild volumes geometries order volume =
    first-mild (over.base_failure volumes (related_name order.what))
    (over.over_failure_on volumes geometries
    (option_and_then (altered.entry_of_name volumes) (related_name order.what))
    (over.base_place volumes order) order volume)
    (base-mild volumes (related_name order.what))
    (over-on-mild volumes geometries
    (option_and_then (altered.entry_of_name volumes) (related_name order.what))
    (over.base_place volumes order) order volume)

kind-mild : (kind : Option EntryKind) (entry : Option CatEntry)
    → IfSome (deleted.kind_failure kind entry) IsMild
kind-mild kind None = tt
kind-mild kind (Some entry) = if-mild (not (deleted.allows kind entry.entry_kind))
    (catalog_failure faults.WrongKind) (omega arith)

gone-mild : (entries : Option (List CatEntry)) (name : List ℕ)
    → IfSome (deleted.gone_failure entries name) IsMild
gone-mild None name = tt
gone-mild (Some entries) name =
    if-mild (not (deleted.may_go entries (deleted.gone_with entries name)))
    (catalog_failure faults.WrongKind) (omega arith)

-- whatever the deletion of a name is refused for
delete-mild : (volumes : List Shown) (kind : Option EntryKind) (name : List ℕ)
    → IfSome (deleted.delete_failure volumes kind name) IsMild
delete-mild volumes kind name = first-mild (altered.name_failure volumes name)
    (option_or (deleted.kind_failure kind (altered.entry_of_name volumes name))
    (deleted.gone_failure (deleted.catalog_of volumes name) name)) (named-mild volumes name)
    (first-mild (deleted.kind_failure kind (altered.entry_of_name volumes name))
    (deleted.gone_failure (deleted.catalog_of volumes name) name)
    (kind-mild kind (altered.entry_of_name volumes name))
    (gone-mild (deleted.catalog_of volumes name) name))

fault-few : (fault : DeviceFault) → IsMild (fault_failure fault)
fault-few Read = omega arith
fault-few Write = omega arith

-- whatever a volume refuses an edit for
changed-mild : (answer : Changed) → IfSome (asked.failure_by answer) IsMild
changed-mild changes.Done = tt
changed-mild changes.Again = tt
changed-mild changes.NoRoom = omega arith
changed-mild changes.Held = omega arith
changed-mild changes.Live = omega arith
changed-mild changes.Full = omega arith
changed-mild (changes.Fault fault) = fault-few fault

told-few : (failure : Option Failure) → IfSome failure IsMild
    → (asked.outcome_by failure).code ≤ 16
told-few None mild = omega arith
told-few (Some failure) mild = mild

mild-as : (failure other : Option Failure) → failure ≡ other → IfSome other IsMild
    → IfSome failure IsMild
mild-as failure other is mild =
    subst (λ (first : Option Failure). IfSome first IsMild) (sym is) mild

module _ {V : Type 0} (shown : V → Shown) (answers : Answering V) (line : ℕ)
    (first : Option Failure) (number : Option ℕ) (edit : Option CatalogEdit) (old new : List V)
    (mild : IfSome first IsMild) where
  edited-mild : (why : Option Failure)
      → asked.IsEditedBy shown answers line first number edit old new why → IfSome why IsMild
  edited-mild why came = elim came [
    | inl kept ↦ mild-as why (Some kept.failure) kept.why_is
        (subst (λ (it : Option Failure). IfSome it IsMild) kept.first_is mild)
    | inr allowed ↦ elim allowed [
      | inl nothing ↦ mild-as why None nothing.why_is tt
      | inr one ↦ mild-as why (asked.failure_by one.answer) one.why_is
          (changed-mild one.answer)
    ]
  ]

  edited-few : (outcome : Outcome)
      → asked.IsEdited shown answers line first number edit old new outcome → outcome.code ≤ 16
  edited-few outcome came = code-of outcome _ came.outcome_is
      (told-few came.why (edited-mild came.why came.ended))

-- each of these is mild
abbrev AreMild : List (Option Failure) → Type 0
AreMild [] = Unit {0}
AreMild (failure ∷ failures) = IfSome failure IsMild × AreMild failures

code-few : (failure : Option Failure) → IfSome failure IsMild → deleted.code_of failure ≤ 16
code-few None mild = omega arith
code-few (Some failure) mild = mild

-- the greatest code of names that are each refused for something mild, or not
worst-few : (failures : List (Option Failure)) → AreMild failures
    → deleted.worst_code failures ≤ 16
worst-few [] mild = omega arith
worst-few (failure ∷ failures) (mild, more) =
    max-le (code-few failure mild) (worst-few failures more)

module _ {V : Type 0} (shown : V → Shown) (answers : Answering V) (line : ℕ)
    (kind : Option EntryKind) where
  each-mild : (names : List (List ℕ)) (old new : List V) (failures : List (Option Failure))
      (lines : List ℕ) → deleted.AreDeleted shown answers line kind names old new failures lines
      → AreMild failures
  each-mild [] old new failures lines (same, none, no-lines) = subst AreMild (sym none) tt
  each-mild (name ∷ names) old new [] lines ran = absurd ran
  each-mild (name ∷ names) old new (failure ∷ failures) lines
      (between, first, rest, one, more, is) = (
        edited-mild shown answers line (deleted.delete_failure (map shown old) kind name)
            (altered.place_of (map shown old) name) (deleted.delete_edit (map shown old) name) old
            between (delete-mild (map shown old) kind name) failure one.ended,
        each-mild names between new failures rest more,
      )

  delete-few : (names : List (List ℕ)) (old new : List V) (outcome : Outcome)
      → deleted.IsDeletedBy shown answers line kind names old new outcome → outcome.code ≤ 16
  delete-few names old new outcome came = code-of outcome _ came.outcome_is
      (worst-few came.failures (each-mild names old new came.failures came.lines came.ran))

-- ---- PRINT and VERIFY

read-mild : (keyed : Bool) (kind : Option Kind) → IfErr (sources.kind_read keyed kind) IsMild
read-mild keyed None = omega arith
read-mild keyed (Some kind) = by (sources.is_readable keyed kind)
  where
    by : (readable : Bool) → IfErr (if readable then Ok kind
        else Err (catalog_failure faults.WrongKind)) IsMild
    by true = tt
    by false = omega arith

unless-mild : (failure : Option Failure) (kind : Result Kind Failure) → IfSome failure IsMild
    → IfErr kind IsMild → IfErr (sources.unless failure kind) IsMild
unless-mild None kind mild rest = rest
unless-mild (Some failure) kind mild rest = mild

found-mild : (keyed : Bool) (volume : Option Shown) (entry : Option CatEntry)
    → IfErr (sources.kind_of_found keyed volume entry) IsMild
found-mild keyed None entry = omega arith
found-mild keyed (Some volume) None = omega arith
found-mild keyed (Some volume) (Some entry) =
    unless-mild (stopped_failure volume) (sources.kind_read keyed (sources.cluster_kind entry))
    (if-mild volume.stopped (volume_failure (Stopped 0)) (omega arith))
    (read-mild keyed (sources.cluster_kind entry))

place-mild : (keyed : Bool) (volumes : List Shown) (place : Option ℕ) (name : List ℕ)
    → IfErr (sources.kind_at keyed volumes place name) IsMild
place-mild keyed volumes None name = omega arith
place-mild keyed volumes (Some place) name =
    found-mild keyed (slice_get volumes place) (altered.entry_at volumes place name)

-- whatever a data set isn't read for
refused-few : {V : Type 0} (shown : V → Shown) (keyed : Bool) (name : List ℕ) (old new : List V)
    (outcome : Outcome) → IsRefused shown keyed name old new outcome → outcome.code ≤ 16
refused-few shown keyed name old new outcome refused = code-of outcome _ refused.outcome_is
    (subst (λ (first : Result Kind Failure). IfErr first IsMild) refused.first_is
    (place-mild keyed (map shown old) (altered.place_of (map shown old) name) name))

print-few : {V : Type 0} (shown : V → Shown) (answers : Answering V) (line : ℕ)
    (command : PrintCommand) (old new : List V) (outcome : Outcome)
    → IsPrintedBy shown answers line command old new outcome → outcome.code ≤ 16
print-few shown answers line command old new outcome came = elim came [
  | inl refused ↦ refused-few shown (has_keys command.from command.to) command.source old new
      outcome refused
  | inr read ↦ by read.answer read.kind read.records read.outcome_is
]
  where
    by : (answer : ReadBack) (kind : Kind) (records : List Visited)
        → outcome ≡ print_outcome answer kind command records → outcome.code ≤ 16
    by reads.Done kind records is = code-of outcome _ is (omega arith)
    by (reads.Fault fault) kind records is = device-few fault outcome is

verify-few : {V : Type 0} (shown : V → Shown) (answers : Answering V) (line : ℕ)
    (name : List ℕ) (old new : List V) (outcome : Outcome)
    → IsVerifiedBy shown answers line name old new outcome → outcome.code ≤ 16
verify-few shown answers line name old new outcome came = elim came [
  | inl refused ↦ refused-few shown false name old new outcome refused
  | inr counted ↦ by counted.answer counted.outcome_is
]
  where
    by : (answer : Counted) → outcome ≡ verify_outcome answer → outcome.code ≤ 16
    by (numbers.Done count) is = code-of outcome _ is (omega arith)
    by (numbers.Fault fault) is = device-few fault outcome is

-- ---- commands

abbrev IsFew : Going → Type 0
IsFew going = going.codes.greatest ≤ 16

few-as : (going other : Going) → going ≡ other → IsFew other → IsFew going
few-as going other is few = subst IsFew (sym is) few

set-few : (variable : CodeVariable) (code : ℕ) (before : Codes) → code ≤ 16
    → before.greatest ≤ 16 → (set_to variable code before).greatest ≤ 16
set-few LastCode code before most few = max-le few most
set-few MaxCode code before most few = most

list-few : (volumes : List Shown) (going : Going) (line : ℕ) (command : ListCommand) → IsFew going
    → IsFew (list_run volumes going line command)
list-few volumes going line command few = max-le few (listed-few volumes command)

module _ {V : Type 0} (shown : V → Shown) (geometry : V → Geometry) (answers : Answering V) where
  over-few : (name : List ℕ) (line : ℕ) (command : DefineCommand) (old new : Stage V)
      → IsFew old.going → IsOverAs shown geometry answers name line command old new
      → IsFew new.going
  over-few name line command old new few run = few-as new.going _ run.going (max-le few
      (edited-few shown answers line (over.over_failure (map shown old.volumes)
      (map geometry old.volumes) command.order command.volume)
      (over.base_place (map shown old.volumes) command.order)
      (over.over_edit (map shown old.volumes) command.order) old.volumes new.volumes
      (over-mild (map shown old.volumes) (map geometry old.volumes) command.order command.volume)
      run.outcome run.defined))

  define-few : (what : NewEntry) (line : ℕ) (command : DefineCommand) (old new : Stage V)
      → IsFew old.going → DefineRun shown geometry answers what line command old new
      → IsFew new.going
  define-few (Cluster kind false options) line command old new few run = few-as new.going _
      run.going (max-le few (defined-few shown geometry answers old.volumes line command.order
      command.volume new.volumes run.outcome run.defined))
  define-few (Cluster kind true options) line command old new few run =
      few-as new.going _ run.going few
  define-few (Alternate related unique options) line command old new few run =
      over-few (codes "DEFINE ALTERNATEINDEX") line command old new few run
  define-few (Path related) line command old new few run =
      over-few (codes "DEFINE PATH") line command old new few run

  list-run-few : (all : Bool) (line : ℕ) (command : ListCommand) (old new : Stage V)
      → IsFew old.going → ListRun shown answers all line command old new → IsFew new.going
  list-run-few true line command old new few run = few-as new.going _ run.going (max-le few
      (all-few shown answers line command.entries old.volumes new.volumes run.outcome
      run.is_listed))
  list-run-few false line command old new few run = few-as new.going _ run.going
      (list-few (map shown old.volumes) old.going line command few)

  alter-run-few : (line : ℕ) (order : Alter) (old new : Stage V)
      → IsFew old.going → IsAlteredAs shown answers line order old new → IsFew new.going
  alter-run-few line order old new few run = few-as new.going _ run.going (max-le few
      (edited-few shown answers line (altered.alter_failure (map shown old.volumes) order)
      (altered.place_of (map shown old.volumes) order.name)
      (altered.alter_edit (map shown old.volumes) order) old.volumes new.volumes
      (alter-mild (map shown old.volumes) order) run.outcome run.altered))

  command-few : (line : ℕ) (command : Command) (old new : Stage V) → IsFew old.going
      → CommandRun shown geometry answers line command old new → IsFew new.going
  command-few line (commands.Define command) old new few run =
      define-few command.order.what line command old new few run
  command-few line (commands.Alter order) old new few run =
      alter-run-few line order old new few run
  command-few line (commands.Delete command) old new few run = few-as new.going _ run.going (max-le
      few (delete-few shown answers line command.kind command.names old.volumes new.volumes
      run.outcome run.deleted))
  command-few line (commands.Repro command) old new few run = few-as new.going _ run.going few
  command-few line (commands.BuildIndex command) old new few run = few-as new.going _ run.going few
  command-few line (commands.Print command) old new few run = few-as new.going _ run.going (max-le
      few (print-few shown answers line command old.volumes new.volumes run.outcome run.printed))
  command-few line (commands.ListCatalog command) old new few run =
      list-run-few command.all line command old new few run
  command-few line (commands.Verify name) old new few run = few-as new.going _ run.going (max-le
      few (verify-few shown answers line name old.volumes new.volumes run.outcome run.verified))
  command-few line (commands.Examine name) old new few run = few-as new.going _ run.going few
  command-few line (commands.If condition) old new few run = few-as new.going _ run.going few
  command-few line (commands.Set setting) old new few run = few-as new.going _ run.going
      (set-few setting.variable _ old.going.codes (min-le_right setting.code 16) few)

  where-few : (runs : Bool) (node : Node) (old new : Stage V) → IsFew old.going
      → NodeRunWhere shown geometry answers runs node old new → IsFew new.going
  where-few true node old new few run = command-few node.line node.command old new few run
  where-few false node old new few run = few-as new.going _ run.going few

  nodes-few : (nodes : List Node) (old new : Stage V) → IsFew old.going
      → NodesRun shown geometry answers nodes old new → IsFew new.going
  nodes-few [] old new few run = subst (λ (stage : Stage V). IsFew stage.going) (sym run) few
  nodes-few (node ∷ nodes) old new few (between, one, more) = nodes-few nodes between new
      (where-few (not old.going.over && reaches old.going.took node.within) node old between few
      one) more

  -- the code of a step is 16 at most
  pub report-few : (nodes : List Node) (old new : List V) (report : StepReport)
      → IsReport shown geometry answers nodes old new report → report.code ≤ 16
  report-few nodes old new report is =
      subst (λ (it : StepReport). it.code ≤ 16) (sym is.is)
      (nodes-few nodes (first_stage old) (record { volumes = new; going = is.going })
      (omega arith) is.ran)
