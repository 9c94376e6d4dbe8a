-- What is prepared of an edit of the catalog before anything of it is done. The rules are this
-- project's own.
use Rattle.std.specs.Prelude.{◌≡◌, ℕ, List, [], ◌∷◌, map}
use Rattle.vr_types.specs.declared.request.Request.TheVariants.{Commit}
use Rattle.vr_catalog.specs.declared.entry.CatEntry.{CatEntry}
use Rattle.vr_edits.specs.Edits.{edited, part_gone}
use Rattle.vr_edits.specs.declared.edit.CatalogEdit.{CatalogEdit}
use Rattle.vr_edits.specs.declared.edit.CatalogEdit.TheVariants.{Add, Alter, Delete, Rename}
use Rattle.vr_record_file.specs.CatalogEdit.{RecordChange, name_of}
use Rattle.vr_volume.specs.declared.setting.EntryChange.{EntryChange}
use Rattle.vr_event.specs.CatalogEdit.{changes_of, record_added, record_gone, steps_of}
use Rattle.vr_event.specs.declared.prepared_edit.PreparedEdit.{PreparedEdit}

-- The records in the order in which the store changes them: the one that is added, which alone needs
-- room of its own, comes first.
abbrev pub store_order : CatalogEdit → List RecordChange
store_order (Alter entry new) = changes_of (Alter entry new)
store_order (Rename entry new) = record_added new ∷ record_gone entry ∷ []
store_order (Delete gone) = changes_of (Delete gone)
store_order (Add new) = changes_of (Add new)

-- as the store is given it
abbrev pub store_change : RecordChange → EntryChange
store_change change =
    record { place = change.place; before = change.old; bytes = change.new }

-- It is that of this edit, on a volume with this catalog.
pub record IsPreparedEdit (volume : ℕ) (catalog : List CatEntry) (edit : CatalogEdit)
    (prepared : PreparedEdit) : Type 0 where
  pub gone : prepared.gone ≡ part_gone edit
  pub changes : prepared.changes.items ≡ map store_change (store_order edit)
  pub names : prepared.names.items ≡ map name_of (changes_of edit)
  pub steps : prepared.steps.items ≡ steps_of volume edit
  pub commit : prepared.commit ≡ Commit
  pub catalog_is : prepared.catalog ≡ edited edit catalog
