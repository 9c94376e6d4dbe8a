-- What is prepared of a cluster is what its entry says: the entries of its definition are those of
-- it.
use Rattle.std.proofs.Common.{◌≡◌, ◌∙◌, ℕ, List, sym, ap, subst, length}
use Rattle.vr_types.specs.declared.request.Request.{Request}
use Rattle.vr_types.specs.declared.request.Request.TheVariants.{Commit}
use Rattle.vr_types.specs.declared.unit.PartNo.{PartNo}
use Rattle.vr_types.specs.declared.unit.Unit.{Unit as UnitOfRecovery}
use Rattle.vr_catalog.specs.Catalog.{definition_in}
use Rattle.vr_catalog.specs.Definition.{catalog_definition, key_of}
use Rattle.vr_catalog.specs.Record.{spelling}
use Rattle.vr_catalog.specs.declared.definition.Definition.{Definition}
use Rattle.vr_catalog.specs.declared.entry.CatEntry.{CatEntry}
use Rattle.vr_catalog.proofs.RecordLemmas.{length-spelling}
use Rattle.vr_history.specs.State.{State}
use Rattle.vr_record_file.specs.Defining.{MayDefine, defined, entry_name, failed_to_define}
use Rattle.vr_record_file.specs.Now.{FileNow}
use Rattle.vr_event.specs.Defining.{entry_add, entry_place, entry_with_area, file_defined}
use Rattle.vr_event.specs.Defining.{file_in_doubt, with_cluster}
use Rattle.vr_event.specs.NewCluster.{IsPreparedFor}
use Rattle.vr_event.specs.declared.new_cluster.NewCluster.{NewCluster}
use Rattle.vr_event.proofs.ClusterRecords.{place-area, place-length}

module _ (volume : ℕ) (catalog : List CatEntry) (entry : CatEntry) (new : NewCluster)
    (is : IsPreparedFor volume catalog entry new.area new) where
  abbrev one : CatEntry
  one = entry_with_area entry new.area

  -- its place and its record
  pub prepared-place : length new.place ≡ 44
  prepared-place = ap length is.place ∙ place-length one

  pub prepared-length : length new.bytes ≡ 204
  prepared-length = ap length is.bytes ∙ length-spelling one

  pub prepared-key : new.place ≡ key_of catalog_definition new.bytes
  prepared-key = is.place ∙ ap (key_of catalog_definition) (sym is.bytes)

  pub prepared-at : new.place ≡ entry_place entry
  prepared-at = is.place ∙ place-area entry new.area

  pub prepared-name : new.name ≡ entry_name (entry_place entry)
  prepared-name = is.name ∙ ap entry_name (place-area entry new.area)

  -- what holds of the entry's holds of what is prepared
  pub prepared-all : (P : PartNo → Request → List ℕ → Request → List CatEntry → Type 0)
      → P entry.part (entry_add volume one) (entry_place one) Commit (with_cluster one catalog)
      → P new.part new.add new.shown new.commit new.catalog
  prepared-all P holds =
      subst (λ (p : PartNo). P p new.add new.shown new.commit new.catalog) (sym is.part)
      (subst (λ (r : Request). P entry.part r new.shown new.commit new.catalog) (sym is.add)
      (subst (λ (s : List ℕ). P entry.part (entry_add volume one) s new.commit new.catalog)
      (sym is.shown)
      (subst (λ (r : Request). P entry.part (entry_add volume one) (entry_place one) r new.catalog)
      (sym is.commit)
      (subst (λ (entries : List CatEntry). P entry.part (entry_add volume one) (entry_place one)
      Commit entries) (sym is.catalog_is) holds))))

  pub prepared-stored : (P : List ℕ → List ℕ → PartNo → Definition → Type 0)
      → P (entry_place one) (spelling one) entry.part (definition_in entry)
      → P new.place new.bytes new.part new.definition
  prepared-stored P holds =
      subst (λ (p : List ℕ). P p new.bytes new.part new.definition) (sym is.place)
      (subst (λ (b : List ℕ). P (entry_place one) b new.part new.definition) (sym is.bytes)
      (subst (λ (p : PartNo). P (entry_place one) (spelling one) p new.definition) (sym is.part)
      (subst (λ (d : Definition). P (entry_place one) (spelling one) entry.part d)
      (sym is.definition) holds)))

  -- what it enters
  pub prepared-defined : (after : ℕ) (unit : UnitOfRecovery) (line : ℕ) (file : FileNow)
      → file.catalog ≡ catalog
      → defined after unit line new.part new.area new.add new.shown new.commit new.catalog file
      ≡ file_defined volume after unit line entry new.area file
  prepared-defined after unit line file same = prepared-all
      (λ part add shown commit entries. defined after unit line part new.area add shown commit
      entries file ≡ file_defined volume after unit line entry new.area file)
      (ap (λ (entries : List CatEntry). defined after unit line entry.part new.area
      (entry_add volume one) (entry_place one) Commit (with_cluster one entries) file) (sym same))

  pub prepared-doubt : (after : ℕ) (unit : UnitOfRecovery) (line : ℕ) (file : FileNow)
      → file.catalog ≡ catalog
      → failed_to_define after unit line new.part new.area new.add new.shown new.commit new.catalog
      file ≡ file_in_doubt volume after unit line entry new.area file
  prepared-doubt after unit line file same = prepared-all
      (λ part add shown commit entries. failed_to_define after unit line part new.area add shown
      commit entries file ≡ file_in_doubt volume after unit line entry new.area file)
      (ap (λ (entries : List CatEntry). failed_to_define after unit line entry.part new.area
      (entry_add volume one) (entry_place one) Commit (with_cluster one entries) file) (sym same))

  -- and that it may be entered
  pub prepared-may : (opening : State) (file : FileNow) (unit : UnitOfRecovery) (bytes : List ℕ)
      → file.catalog ≡ catalog
      → MayDefine opening file unit entry.part new.area (entry_add volume one) (entry_place one)
      bytes Commit (with_cluster one file.catalog)
      → MayDefine opening file unit new.part new.area new.add new.shown bytes new.commit
      new.catalog
  prepared-may opening file unit bytes same may = prepared-all
      (λ part add shown commit entries. MayDefine opening file unit part new.area add shown bytes
      commit entries)
      (subst (λ (entries : List CatEntry). MayDefine opening file unit entry.part new.area
      (entry_add volume one) (entry_place one) bytes Commit (with_cluster one entries)) same may)
