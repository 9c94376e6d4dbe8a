-- What an ALTER of Access Method Services Commands comes to: NEWNAME, FREESPACE and SHAREOPTIONS of
-- an entry. Which faults there are, and their order, is this project's own.
use Rattle.std.specs.Prelude.{◌≡◌, ◌==◌, ◌&&◌, ℕ, Bool, List, map, slice_get, Option, Some, None}
use Rattle.std.specs.Prelude.{if◌then◌else◌, not}
use Rattle.std.specs.List.{count_by, position}
use Rattle.std.specs.Option.{option_and_then, option_or}
use Rattle.vr_catalog.specs.Alter.{altered, alters_data}
use Rattle.vr_catalog.specs.Catalog.{entry_named}
use Rattle.vr_catalog.specs.Define.{is_path_kind}
use Rattle.vr_catalog.specs.Entry.{is_entry}
use Rattle.vr_catalog.specs.declared.entry.CatEntry.{CatEntry}
use Rattle.vr_catalog.specs.declared.fault.CatFault.TheVariants.{CatalogFull, NotFound, WrongKind}
use Rattle.vr_catalog.specs.declared.order.Alter.{Alter as Order}
use Rattle.vr_edits.specs.Edits.{is_of_part}
use Rattle.vr_edits.specs.declared.edit.CatalogEdit.{CatalogEdit}
use Rattle.vr_edits.specs.declared.edit.CatalogEdit.TheVariants.{Alter, Rename}
use Rattle.vr_trace.specs.Shown.{Shown, has_name}
use Rattle.vr_trace.specs.declared.command.Failure.{Failure}
use Rattle.vr_trace.specs.declared.command.Outcome.{Outcome}
use Rattle.vr_ams_define.specs.Answers.{Answering}
use Rattle.vr_ams_define.specs.Asked.{IsEdited}
use Rattle.vr_ams_define.specs.Failures.{catalog_failure, failure_if, stopped_failure}
use Rattle.vr_ams_define.specs.Failures.{name_failure as taken_failure}

-- ---- the entry of a name

-- the lowest volume whose catalog has the name
abbrev pub place_of : List Shown → List ℕ → Option ℕ
place_of volumes name = position (λ (volume : Shown). has_name volume name) volumes

-- the entry that it has there
abbrev pub entry_at : List Shown → ℕ → List ℕ → Option CatEntry
entry_at volumes place name =
    option_and_then (λ (volume : Shown). entry_named volume.catalog name) (slice_get volumes place)

abbrev pub entry_of_name : List Shown → List ℕ → Option CatEntry
entry_of_name volumes name =
    option_and_then (λ (place : ℕ). entry_at volumes place name) (place_of volumes name)

-- no other entry has its part
abbrev pub is_alone : List CatEntry → CatEntry → Bool
is_alone entries entry = count_by (is_of_part entry) entries == 1

-- as it is of each that a catalog has: a record spells it, and it is the one of its part
abbrev pub is_sound : List CatEntry → CatEntry → Bool
is_sound entries entry = is_entry entry && is_alone entries entry

-- 3: it isn't
abbrev pub unsound_failure : List CatEntry → CatEntry → Option Failure
unsound_failure entries entry =
    failure_if (not (is_sound entries entry)) (catalog_failure WrongKind)

-- 903 goes before it
abbrev pub failure_on : Option Shown → Option CatEntry → Option Failure
failure_on (Some volume) (Some entry) =
    option_or (stopped_failure volume) (unsound_failure volume.catalog entry)
failure_on volume entry = Some (catalog_failure NotFound)

-- 2: the name is on no volume
abbrev pub target_failure : List Shown → Option ℕ → List ℕ → Option Failure
target_failure volumes (Some place) name =
    failure_on (slice_get volumes place) (entry_at volumes place name)
target_failure volumes None name = Some (catalog_failure NotFound)

-- why the entry of a name can't be used: 2, 903 and 3, in this order
abbrev pub name_failure : List Shown → List ℕ → Option Failure
name_failure volumes name = target_failure volumes (place_of volumes name) name

-- ---- ALTER

-- a path has neither FREESPACE nor SHAREOPTIONS
abbrev pub is_path_altered : CatEntry → Order → Bool
is_path_altered entry order = is_path_kind entry.entry_kind && alters_data order

-- 1: NEWNAME is in use on some volume
abbrev pub new_name_failure : List Shown → Option (List ℕ) → Option Failure
new_name_failure volumes None = None
new_name_failure volumes (Some name) = taken_failure volumes name

abbrev pub early_failure : List Shown → CatEntry → Order → Option Failure
early_failure volumes entry order = option_or
    (failure_if (is_path_altered entry order) (catalog_failure WrongKind))
    (new_name_failure volumes order.new_name)

-- 14, as of a definition: no record spells the entry with what it is given, since a name or a number
-- of that isn't one that a parser lets through
abbrev pub altered_failure : CatEntry → Order → Option Failure
altered_failure entry order =
    failure_if (not (is_entry (altered entry order))) (catalog_failure CatalogFull)

-- what may be in the way of what the entry is given: 3, 1 and 14
abbrev pub given_failure : List Shown → Option CatEntry → Order → Option Failure
given_failure volumes None order = None
given_failure volumes (Some entry) order =
    option_or (early_failure volumes entry order) (altered_failure entry order)

-- why the command is refused before a volume is asked: 2, 903, 3, 1 and 14, in this order
abbrev pub alter_failure : List Shown → Order → Option Failure
alter_failure volumes order = option_or (name_failure volumes order.name)
    (given_failure volumes (entry_of_name volumes order.name) order)

-- with NEWNAME it is renamed, whatever else it is given; one that is given nothing isn't edited
abbrev pub edit_of : Option (List ℕ) → CatEntry → Order → Option CatalogEdit
edit_of (Some name) entry order = Some (Rename entry (altered entry order))
edit_of None entry order =
    if alters_data order then Some (Alter entry (altered entry order)) else None

abbrev pub alter_edit : List Shown → Order → Option CatalogEdit
alter_edit volumes order = option_and_then
    (λ (entry : CatEntry). edit_of order.new_name entry order)
    (entry_of_name volumes order.name)

-- An ALTER on a line, over volumes that show this and answer so, leaves these volumes with this
-- outcome.
abbrev pub IsAlteredBy : {V : Type 0} → (V → Shown) → Answering V → ℕ → Order → List V → List V
    → Outcome → Type 0
IsAlteredBy shown answers line order old new outcome =
    IsEdited shown answers line (alter_failure (map shown old) order)
    (place_of (map shown old) order.name) (alter_edit (map shown old) order) old new outcome
