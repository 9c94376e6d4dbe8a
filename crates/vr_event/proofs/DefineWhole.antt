-- A volume of which a cluster may be defined, whether or not its device reports its contents: what
-- the store asks for; and the volume is whole once it has done it.
use Rattle.std.proofs.Common.{◌≡◌, ◌∙◌, ◌+◌, ◌<◌, ◌≤◌, ◌==◌, ℕ, Bool, cond, List}
use Rattle.std.proofs.Common.{Option, Some, None, sym, ap, subst}
use Rattle.std.specs.Prelude.{is_none}
use Rattle.std.proofs.lemmas.List.Quantifiers.{position-Some}
use Rattle.vr_types.specs.Geometry.{area_count}
use Rattle.vr_types.specs.Seen.{Seen}
use Rattle.vr_types.specs.Space.{least_free}
use Rattle.vr_types.specs.declared.geometry.Geometry.{Geometry}
use Rattle.vr_types.specs.declared.unit.AreaNo.{AreaNo}
use Rattle.vr_attach.specs.Laid.{shape_by_kind, shape_in, shape_of}
use Rattle.vr_catalog.specs.Catalog.{definition_in}
use Rattle.vr_catalog.specs.declared.entry.CatEntry.{CatEntry}
use Rattle.vr_catalog.specs.declared.entry.EntryKind.TheVariants.{Alternate, Cluster}
use Rattle.vr_edits.specs.Edits.{IsServedEntry}
use Rattle.vr_record_file.specs.Now.{FileNow}
use Rattle.vr_space.specs.Part.{Shape}
use Rattle.vr_start.specs.Startable.{IsStartable}
use Rattle.vr_store.specs.Define.{HasNewShape}
use Rattle.vr_store.specs.Store.{IsSet, StoreNow, part_among, shape_among}
use Rattle.vr_event.specs.Defining.{IsNewCluster, entry_with_area, with_cluster}
use Rattle.vr_event.specs.Volume.{AreServed, IsWhole, VolumeNow}
use Rattle.vr_event.proofs.ClusterCatalogs.{all-with, other-parts, shapes-with}
use Rattle.vr_event.proofs.MetParts.{none-shape}
use Rattle.vr_event.proofs.NewClusters.{area-shape, area-small, area-startable, part-some}
use Rattle.vr_event.proofs.NewClusters.{same-self}
use Rattle.vr_event.proofs.NewClusters.{unlaid-part}
use Rattle.vr_event.proofs.Served.{served_same}

module _ {B : Type 0} (seen : B → Seen) (volume : VolumeNow B) (whole : IsWhole seen volume)
    (going : volume.file.stopped ≡ None) (entry : CatEntry)
    (is : IsNewCluster volume.file.geometry volume.file.catalog entry) where
  some : entry.part.0 ≡ 0 → ⊥
  some = part-some entry is.entry_is

  -- its part isn't laid yet
  pub not-laid : shape_in volume.file.geometry volume.file.catalog entry.part.0 ≡ None
  not-laid = unlaid-part volume.file.geometry volume.file.catalog entry.part.0 some is.part

  pub not-there : part_among volume.store.parts entry.part.0 ≡ None
  not-there = none-shape (part_among volume.store.parts entry.part.0)
      (whole.laid going entry.part.0 ∙ not-laid)

module _ {B : Type 0} (seen : B → Seen) (volume : VolumeNow B) (whole : IsWhole seen volume)
    (going : volume.file.stopped ≡ None) (entry : CatEntry)
    (is : IsNewCluster volume.file.geometry volume.file.catalog entry) (area : AreaNo)
    (least : least_free volume.store.space ≡ Some area.0) where
  abbrev store : StoreNow
  store = volume.store

  abbrev geometry : Geometry
  geometry = store.log.geometry

  abbrev new : CatEntry
  new = entry_with_area entry area

  set : IsSet store (seen volume.blocks)
  set = whole.set going

  cluster : IsNewCluster geometry volume.file.catalog entry
  cluster = subst (λ (g : Geometry). IsNewCluster g volume.file.catalog entry)
      (sym (whole.geometry going)) is

  below : area.0 < area_count geometry
  below = subst (λ (n : ℕ). area.0 < n) set.areas
      (position-Some is_none store.space area.0 None least).0

  pub can-start : IsStartable geometry (definition_in entry)
  can-start = area-startable geometry volume.file.catalog entry cluster area set.allowed
      (area-small geometry area.0 set.allowed below)

  apart : Cluster ≡ Alternate → ⊥
  apart same = cc

  -- the entries with its own are served
  pub served-with : AreServed volume.file.geometry (with_cluster new volume.file.catalog)
  served-with = all-with (IsServedEntry volume.file.geometry) new volume.file.catalog
      (record {
        plain = λ cluster. subst (λ (g : Geometry). new.maximum + 7 ≤ g.size) (whole.geometry going)
            can-start.fits;
        unbuilt = λ alternate. absurd (apart (sym is.cluster ∙ alternate));
      }) whole.served

  module _ (file : FileNow) (to : StoreNow) (blocks : B)
      (shape : file.geometry ≡ volume.file.geometry)
      (catalog : file.catalog ≡ with_cluster new volume.file.catalog)
      (log : to.log.geometry ≡ geometry)
      (parts : HasNewShape geometry entry.part area (definition_in entry) store.parts to.parts)
    where
      -- the part has its shape
      new-part : shape_by_kind geometry entry.part.0 area.0 (definition_in entry)
          (definition_in entry).kind ≡ shape_of volume.file.geometry new
      new-part = sym (area-shape geometry volume.file.catalog entry cluster area)
          ∙ ap (λ (g : Geometry). shape_of g new) (whole.geometry going)

      pub part-shape : shape_among to.parts entry.part.0 ≡ shape_of volume.file.geometry new
      part-shape = parts entry.part.0
          ∙ ap (λ (b : Bool). cond b (shape_by_kind geometry entry.part.0 area.0
          (definition_in entry) (definition_in entry).kind) (shape_among store.parts entry.part.0))
          (same-self entry.part.0) ∙ new-part

      laid-after : (part : ℕ) → shape_among to.parts part
          ≡ shape_in file.geometry file.catalog part
      laid-after part = parts part
          ∙ ap (λ (o : Option Shape). cond (part == entry.part.0) o (shape_among store.parts part))
          new-part
          ∙ ap (cond (part == entry.part.0) (shape_of volume.file.geometry new))
          (whole.laid going part)
          ∙ sym (shapes-with volume.file.geometry new volume.file.catalog
          (other-parts entry.part.0 volume.file.catalog is.part)
          (some seen volume whole going entry is) part)
          ∙ sym (ap (λ (g : Geometry). shape_in g file.catalog part) shape
          ∙ ap (λ (entries : List CatEntry). shape_in volume.file.geometry entries part) catalog)

      -- and the volume is whole
      pub whole-after : IsSet to (seen blocks)
          → IsWhole seen (record volume { blocks = blocks; store = to; file = file })
      whole-after after = record {
        served = served_same volume.file.geometry file.geometry
            (with_cluster new volume.file.catalog) file.catalog shape catalog served-with;
        geometry = λ on. log ∙ whole.geometry going ∙ sym shape;
        laid = λ on part. laid-after part;
        set = λ on. after;
      }
