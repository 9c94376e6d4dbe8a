-- What is prepared of a cluster before anything of its definition is done. The rules are this
-- project's own.
use Rattle.std.specs.Prelude.{◌≡◌, ℕ, List}
use Rattle.vr_types.specs.declared.request.Request.TheVariants.{Commit}
use Rattle.vr_types.specs.declared.unit.AreaNo.{AreaNo}
use Rattle.vr_catalog.specs.Catalog.{definition_in}
use Rattle.vr_catalog.specs.Record.{spelling}
use Rattle.vr_catalog.specs.declared.entry.CatEntry.{CatEntry}
use Rattle.vr_record_file.specs.Defining.{entry_name}
use Rattle.vr_event.specs.Defining.{entry_add, entry_place, entry_with_area, with_cluster}
use Rattle.vr_event.specs.declared.new_cluster.NewCluster.{NewCluster}

-- It is that of this entry, with this first area, on a volume with this catalog.
pub record IsPreparedFor (volume : ℕ) (catalog : List CatEntry) (entry : CatEntry)
    (area : AreaNo) (new : NewCluster) : Type 0 where
  pub part : new.part ≡ entry.part
  pub area_is : new.area ≡ area
  pub definition : new.definition ≡ definition_in entry
  pub place : new.place ≡ entry_place (entry_with_area entry area)
  pub bytes : new.bytes ≡ spelling (entry_with_area entry area)
  pub name : new.name ≡ entry_name (entry_place (entry_with_area entry area))
  pub add : new.add ≡ entry_add volume (entry_with_area entry area)
  pub shown : new.shown ≡ entry_place (entry_with_area entry area)
  pub commit : new.commit ≡ Commit
  pub catalog_is : new.catalog ≡ with_cluster (entry_with_area entry area) catalog
