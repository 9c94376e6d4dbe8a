-- What a DEFINE ALTERNATEINDEX or a DEFINE PATH of Access Method Services Commands comes to. That
-- the entry is on the volume of what it stands over, which faults there are, and their order, is
-- this project's own.
use Rattle.std.specs.Prelude.{ℕ, Bool, true, List, map, not, slice_get, Option, Some, None}
use Rattle.std.specs.Option.{option_and_then, option_map, option_or}
use Rattle.vr_types.specs.declared.geometry.Geometry.{Geometry}
use Rattle.vr_catalog.specs.Define.{is_path_kind, new_entry, related_name}
use Rattle.vr_catalog.specs.declared.entry.CatEntry.{CatEntry}
use Rattle.vr_catalog.specs.declared.fault.CatFault.TheVariants.{NotFound, NoVolume, WrongKind}
use Rattle.vr_catalog.specs.declared.order.Define.{Define}
use Rattle.vr_edits.specs.declared.edit.CatalogEdit.{CatalogEdit}
use Rattle.vr_edits.specs.declared.edit.CatalogEdit.TheVariants.{Add}
use Rattle.vr_trace.specs.Shown.{Shown}
use Rattle.vr_trace.specs.declared.command.Failure.{Failure}
use Rattle.vr_trace.specs.declared.command.Outcome.{Outcome}
use Rattle.vr_ams_define.specs.Altered.{entry_of_name, name_failure, place_of}
use Rattle.vr_ams_define.specs.Answers.{Answering}
use Rattle.vr_ams_define.specs.Asked.{IsEdited}
use Rattle.vr_ams_define.specs.Chosen.{may_define_on}
use Rattle.vr_ams_define.specs.Failures.{catalog_failure, failure_if, failure_on, volume_at}
use Rattle.vr_ams_define.specs.Failures.{name_failure as taken_failure}

-- the lowest volume that has the name in RELATE or PATHENTRY; a cluster has none
abbrev pub base_place : List Shown → Define → Option ℕ
base_place volumes order = option_and_then (place_of volumes) (related_name order.what)

-- 2: RELATE or PATHENTRY names no entry; else 903 and 3 of the entry that it names
abbrev pub base_failure : List Shown → Option (List ℕ) → Option Failure
base_failure volumes None = Some (catalog_failure NotFound)
base_failure volumes (Some name) = name_failure volumes name

-- 3: that is a path
abbrev pub path_failure : CatEntry → Option Failure
path_failure base = failure_if (is_path_kind base.entry_kind) (catalog_failure WrongKind)

-- VOLUMES, where it is given, names the volume of this number, or is `*`
abbrev pub is_volume_of : Option (List ℕ) → ℕ → Bool
is_volume_of None number = true
is_volume_of (Some text) number = may_define_on (Some text) number

-- 4: it doesn't
abbrev pub volume_failure : Option (List ℕ) → ℕ → Option Failure
volume_failure volume number =
    failure_if (not (is_volume_of volume number)) (catalog_failure NoVolume)

-- what comes after the base: 3, 1 and 4
abbrev pub early_failure : List Shown → CatEntry → ℕ → Define → Option (List ℕ) → Option Failure
early_failure volumes base number order volume = option_or (path_failure base)
    (option_or (taken_failure volumes order.name) (volume_failure volume number))

-- then what the catalog of its volume refuses
abbrev pub over_failure_on : List Shown → List Geometry → Option CatEntry → Option ℕ → Define
    → Option (List ℕ) → Option Failure
over_failure_on volumes geometries (Some base) (Some number) order volume =
    option_or (early_failure volumes base number order volume)
    (failure_on (slice_get volumes number) (slice_get geometries number) order)
over_failure_on volumes geometries base number order volume = None

-- why the command is refused before a volume is asked, in this order: 2, 903, 3, 1, 4, 9, 5, 6, 7,
-- 10 and 14
abbrev pub over_failure : List Shown → List Geometry → Define → Option (List ℕ) → Option Failure
over_failure volumes geometries order volume =
    option_or (base_failure volumes (related_name order.what))
    (over_failure_on volumes geometries
    (option_and_then (entry_of_name volumes) (related_name order.what)) (base_place volumes order)
    order volume)

abbrev pub over_edit : List Shown → Define → Option CatalogEdit
over_edit volumes order = option_map (λ (volume : Shown). Add (new_entry volume.catalog order))
    (volume_at volumes (base_place volumes order))

-- A DEFINE of an alternate index or a path with this VOLUMES, on a line, over volumes that show
-- this, have these shapes and answer so, leaves these volumes with this outcome.
abbrev pub IsDefinedOver : {V : Type 0} → (V → Shown) → (V → Geometry) → Answering V → ℕ → Define
    → Option (List ℕ) → List V → List V → Outcome → Type 0
IsDefinedOver shown geometry answers line order volume old new outcome =
    IsEdited shown answers line
    (over_failure (map shown old) (map geometry old) order volume)
    (base_place (map shown old) order) (over_edit (map shown old) order) old new outcome
