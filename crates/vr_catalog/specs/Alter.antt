-- What ALTER of Access Method Services Commands makes of a catalog: NEWNAME, FREESPACE and
-- SHAREOPTIONS.
use Rattle.std.specs.Prelude.{ℕ, Bool, false, ◌&&◌, ◌||◌, if◌then◌else◌, List, [], ◌∷◌, Option}
use Rattle.std.specs.Prelude.{Some, None, is_some}
use Rattle.std.specs.Option.{option_map_or, unwrap_or}
use Rattle.vr_catalog.specs.declared.entry.CatEntry.{CatEntry}
use Rattle.vr_catalog.specs.declared.order.Alter.{Alter}
use Rattle.vr_catalog.specs.declared.changes.Change.{Change}
use Rattle.vr_catalog.specs.declared.changes.Change.TheVariants.{Add, Update, Erase}
use Rattle.vr_catalog.specs.declared.fault.CatFault.{CatFault}
use Rattle.vr_catalog.specs.declared.fault.CatFault.TheVariants.{NotFound, WrongKind}
use Rattle.vr_catalog.specs.Catalog.{entry_named}
use Rattle.vr_catalog.specs.Define.{fault_if, is_path_kind, name_taken}
use Rattle.vr_catalog.specs.Fault.{first_of}

abbrev pub not_found : Option CatEntry → Option CatFault
not_found None = Some NotFound
not_found (Some entry) = None

-- FREESPACE or SHAREOPTIONS is given
abbrev pub alters_data : Alter → Bool
alters_data order = is_some order.free_space || is_some order.share_options

-- a path has neither
abbrev pub path_altered : Option CatEntry → Alter → Option CatFault
path_altered target order =
    fault_if (option_map_or (λ entry. is_path_kind entry.entry_kind) target false
    && alters_data order) WrongKind

abbrev pub new_name_taken : List CatEntry → Option (List ℕ) → Option CatFault
new_name_taken entries None = None
new_name_taken entries (Some name) = name_taken entries name

-- the faults of an ALTER in the order in which they are tried
abbrev pub alter_fault : List CatEntry → Alter → Option CatFault
alter_fault entries order = first_of (
    not_found (entry_named entries order.name)
    ∷ path_altered (entry_named entries order.name) order
    ∷ new_name_taken entries order.new_name ∷ [])

abbrev pub altered : CatEntry → Alter → CatEntry
altered entry order = record entry {
  name = unwrap_or order.new_name entry.name;
  free_space = unwrap_or order.free_space entry.free_space;
  share_options = unwrap_or order.share_options entry.share_options;
}

-- a renamed entry is erased and added; one that only gets other values is updated
abbrev pub alter_entry : Option (List ℕ) → CatEntry → Alter → List Change
alter_entry (Some name) entry order = Erase entry.name ∷ Add (altered entry order) ∷ []
alter_entry None entry order = if alters_data order then Update (altered entry order) ∷ [] else []

-- the changes of an ALTER that isn't refused
abbrev pub alter_changes : List CatEntry → Alter → List Change
alter_changes entries order = option_map_or (λ entry. alter_entry order.new_name entry order)
    (entry_named entries order.name) []
