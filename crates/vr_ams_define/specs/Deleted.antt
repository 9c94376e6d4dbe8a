-- What a DELETE of Access Method Services Commands comes to: each name is a unit of its own, in
-- order, with what stands over its entry, and the code is the greatest. Which faults there are, and
-- their order, is this project's own.
use Rattle.std.specs.Prelude.{◌≡◌, ◌==◌, ◌&&◌, ◌||◌, ℕ, Bool, true, List, [], ◌∷◌, ◌++◌, map, codes}
use Rattle.std.specs.Prelude.{Option, Some, None, if◌then◌else◌, length, max, nat_le, not, slice_get}
use Rattle.std.specs.List.{count_by, filter_map, flat_map, list_all}
use Rattle.std.specs.Option.{option_map, option_map_or, option_or}
use Rattle.vr_attach.specs.CatalogRules.{is_cluster}
use Rattle.vr_catalog.specs.Catalog.{entry_named}
use Rattle.vr_catalog.specs.Define.{is_alternate_kind, is_path_kind}
use Rattle.vr_catalog.specs.Delete.{delete_changes}
use Rattle.vr_catalog.specs.declared.changes.Change.{Change}
use Rattle.vr_catalog.specs.declared.changes.Change.TheVariants.{Add, Erase, Update}
use Rattle.vr_catalog.specs.declared.entry.CatEntry.{CatEntry}
use Rattle.vr_catalog.specs.declared.entry.EntryKind.{EntryKind}
use Rattle.vr_catalog.specs.declared.entry.EntryKind.TheVariants.{Cluster, Alternate, Path}
use Rattle.vr_catalog.specs.declared.fault.CatFault.TheVariants.{WrongKind}
use Rattle.vr_edits.specs.Edits.{is_cluster_entry, is_of_some, is_over_some}
use Rattle.vr_edits.specs.declared.edit.CatalogEdit.{CatalogEdit}
use Rattle.vr_edits.specs.declared.edit.CatalogEdit.TheVariants as edits
use Rattle.vr_trace.specs.Shown.{Shown}
use Rattle.vr_trace.specs.declared.command.Failure.{Failure}
use Rattle.vr_trace.specs.declared.command.Outcome.{Outcome}
use Rattle.vr_ams_define.specs.Altered.{entry_of_name, is_alone, is_sound, name_failure, place_of}
use Rattle.vr_ams_define.specs.Answers.{Answering}
use Rattle.vr_ams_define.specs.Asked.{IsEditedBy}
use Rattle.vr_ams_define.specs.Failures.{catalog_failure, failure_if, volume_at}

-- ---- what goes

-- the entry that an erase is of
abbrev pub entry_gone : List CatEntry → Change → Option CatEntry
entry_gone entries (Erase name) = entry_named entries name
entry_gone entries (Add entry) = None
entry_gone entries (Update entry) = None

-- the entries that go with a name, in the order of the catalog
abbrev pub gone_with : List CatEntry → List ℕ → List CatEntry
gone_with entries name = filter_map (entry_gone entries) (delete_changes entries (name ∷ []))

-- what stands over something that goes, goes
abbrev pub goes_too : List CatEntry → CatEntry → Bool
goes_too gone entry = not (is_over_some gone entry) || is_of_some gone entry

-- how many entries one edit takes at most
abbrev pub most_gone : ℕ
most_gone = 65535

-- One edit takes some entries, and at most that many. The others are so of what goes with a name in
-- each catalog that keeps the rules.
abbrev pub may_go : List CatEntry → List CatEntry → Bool
may_go entries gone = nat_le 1 (length gone) && nat_le (length gone) most_gone
    && nat_le (count_by is_cluster_entry gone) 1
    && list_all (is_sound entries) gone
    && list_all (is_alone gone) gone
    && list_all (goes_too gone) entries

-- the entries of the lowest volume that has the name
abbrev pub catalog_of : List Shown → List ℕ → Option (List CatEntry)
catalog_of volumes name =
    option_map (λ (volume : Shown). volume.catalog) (volume_at volumes (place_of volumes name))

-- ---- when it is refused

-- the command may say which kind of entries it deletes
abbrev pub allows : Option EntryKind → EntryKind → Bool
allows None kind = true
allows (Some Cluster) kind = is_cluster kind
allows (Some Alternate) kind = is_alternate_kind kind
allows (Some Path) kind = is_path_kind kind

-- 3: it says another
abbrev pub kind_failure : Option EntryKind → Option CatEntry → Option Failure
kind_failure kind None = None
kind_failure kind (Some entry) =
    failure_if (not (allows kind entry.entry_kind)) (catalog_failure WrongKind)

-- 3: more entries go with the entry than one edit takes
abbrev pub gone_failure : Option (List CatEntry) → List ℕ → Option Failure
gone_failure None name = None
gone_failure (Some entries) name =
    failure_if (not (may_go entries (gone_with entries name))) (catalog_failure WrongKind)

-- why the deletion of a name is refused before its volume is asked: 2, 903 and 3, in this order
abbrev pub delete_failure : List Shown → Option EntryKind → List ℕ → Option Failure
delete_failure volumes kind name = option_or (name_failure volumes name)
    (option_or (kind_failure kind (entry_of_name volumes name))
    (gone_failure (catalog_of volumes name) name))

abbrev pub delete_edit : List Shown → List ℕ → Option CatalogEdit
delete_edit volumes name = option_map
    (λ (entries : List CatEntry). edits.Delete (gone_with entries name)) (catalog_of volumes name)

-- ---- the detail lines

abbrev pub kind_word : EntryKind → List ℕ
kind_word Cluster = codes "CLUSTER "
kind_word Alternate = codes "AIX "
kind_word Path = codes "PATH "

-- the detail line of an entry that is deleted
abbrev pub deleted_line : CatEntry → List ℕ
deleted_line entry = codes "DELETED " ++ kind_word entry.entry_kind ++ entry.name ++ 10 ∷ []

-- those of an edit
abbrev pub edit_lines : CatalogEdit → List ℕ
edit_lines (edits.Delete gone) = flat_map deleted_line gone
edit_lines (edits.Alter entry new) = []
edit_lines (edits.Rename entry new) = []
edit_lines (edits.Add new) = []

-- one that is refused has none
abbrev pub lines_by : Option Failure → List ℕ → List ℕ
lines_by None lines = lines
lines_by (Some failure) lines = []

-- ---- one name, and all

-- why one name is refused, if it is, and its detail lines
pub record IsOneDeleted {V : Type 0} (shown : V → Shown) (answers : Answering V) (line : ℕ)
    (kind : Option EntryKind) (name : List ℕ) (old new : List V) (why : Option Failure)
    (lines : List ℕ) : Type 0
  where
    pub ended : IsEditedBy shown answers line (delete_failure (map shown old) kind name)
        (place_of (map shown old) name) (delete_edit (map shown old) name) old new why
    pub lines_are : lines ≡ lines_by why
        (option_map_or edit_lines (delete_edit (map shown old) name) [])

-- these names, one after another, each with why it is refused, if it is, and the detail lines of all
abbrev pub AreDeleted : {V : Type 0} → (V → Shown) → Answering V → ℕ → Option EntryKind
    → List (List ℕ) → List V → List V → List (Option Failure) → List ℕ → Type 0
AreDeleted shown answers line kind [] old new failures lines =
    (new ≡ old) × (failures ≡ []) × (lines ≡ [])
AreDeleted shown answers line kind (name ∷ names) old new [] lines = ⊥
AreDeleted {V} shown answers line kind (name ∷ names) old new (failure ∷ failures) lines =
    (between : List V) × (first : List ℕ) × (rest : List ℕ)
    × IsOneDeleted shown answers line kind name old between failure first
    × AreDeleted shown answers line kind names between new failures rest
    × (lines ≡ first ++ rest)

-- ---- the outcome

abbrev pub code_of : Option Failure → ℕ
code_of None = 0
code_of (Some failure) = failure.code

-- the greatest code
abbrev pub worst_code : List (Option Failure) → ℕ
worst_code [] = 0
worst_code (failure ∷ failures) = max (code_of failure) (worst_code failures)

abbrev pub fault_of : Option Failure → Option ℕ
fault_of None = None
fault_of (Some failure) = Some failure.fault

-- the fault of the first name that gave that code
abbrev pub fault_with : ℕ → List (Option Failure) → Option ℕ
fault_with code [] = None
fault_with code (failure ∷ failures) =
    if code_of failure == code then fault_of failure else fault_with code failures

abbrev pub deleted_outcome : List ℕ → List (Option Failure) → Outcome
deleted_outcome lines failures = record {
  lines = lines;
  code = worst_code failures;
  fault = fault_with (worst_code failures) failures;
}

-- A DELETE on a line of these names, over volumes that show this and answer so, leaves these
-- volumes with this outcome.
pub record IsDeletedBy {V : Type 0} (shown : V → Shown) (answers : Answering V) (line : ℕ)
    (kind : Option EntryKind) (names : List (List ℕ)) (old new : List V) (outcome : Outcome) : Type 0
  where
    pub failures : List (Option Failure)
    pub lines : List ℕ
    pub ran : AreDeleted shown answers line kind names old new failures lines
    pub outcome_is : outcome ≡ deleted_outcome lines failures
