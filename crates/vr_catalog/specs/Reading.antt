-- What the parts of reading a catalog record say to one another.
use Rattle.std.specs.Prelude.{◌≡◌, ℕ, Bool, true, ◌&&◌, List, Option}
use Rattle.vr_catalog.specs.declared.names.Components.{Components}
use Rattle.vr_catalog.specs.declared.names.Classes.{Classes}
use Rattle.vr_catalog.specs.declared.read.EntryNames.{EntryNames}
use Rattle.vr_catalog.specs.Entry.{is_name, are_components, are_classes}
use Rattle.vr_catalog.specs.Record.{text_at, some_text}

-- the name in a field, if it has one
abbrev pub name_in : ℕ → ℕ → List ℕ → Option (List ℕ)
name_in at size bytes = some_text (text_at at size bytes)

abbrev pub are_components_at : List ℕ → Bool
are_components_at bytes = are_components (name_in 92 44 bytes) (name_in 136 44 bytes)

abbrev pub are_classes_at : List ℕ → Bool
are_classes_at bytes = are_classes (name_in 180 8 bytes) (name_in 188 8 bytes) (name_in 196 8 bytes)

abbrev pub are_names_at : List ℕ → Bool
are_names_at bytes = is_name (text_at 0 44 bytes) && are_components_at bytes && are_classes_at bytes

pub record AreComponentsIn (bytes : List ℕ) (names : Components) : Type 0 where
  pub data_name : names.data_name ≡ name_in 92 44 bytes
  pub index_name : names.index_name ≡ name_in 136 44 bytes
  pub named : are_components_at bytes ≡ true

pub record AreClassesIn (bytes : List ℕ) (names : Classes) : Type 0 where
  pub storage : names.storage ≡ name_in 180 8 bytes
  pub data_class : names.data_class ≡ name_in 188 8 bytes
  pub management : names.management ≡ name_in 196 8 bytes
  pub named : are_classes_at bytes ≡ true

pub record AreNamesIn (bytes : List ℕ) (names : EntryNames) : Type 0 where
  pub name : names.name ≡ text_at 0 44 bytes
  pub components : AreComponentsIn bytes names.components
  pub classes : AreClassesIn bytes names.classes
  pub named : are_names_at bytes ≡ true
