-- A volume that was opened, as a run takes it: its parts have their numbers, and it is held from its
-- opening. The rules are this project's own.
use Rattle.std.specs.Prelude.{◌≡◌, ℕ, List, [], Option, None, false, true}
use Rattle.std.specs.List.{AllByRecursion}
use Rattle.vr_types.specs.Content.{Ascends, Content}
use Rattle.vr_types.specs.Faults.{Faults}
use Rattle.vr_types.specs.Seen.{Seen}
use Rattle.vr_types.specs.declared.geometry.Geometry.{Geometry}
use Rattle.vr_types.specs.declared.unit.PartNo.{PartNo}
use Rattle.vr_attach.specs.Owning.{owner_of}
use Rattle.vr_catalog.specs.Catalog.{entries_in}
use Rattle.vr_catalog.specs.declared.entry.CatEntry.{CatEntry}
use Rattle.vr_history.specs.Effects.{has_part, parts_laid}
use Rattle.vr_history.specs.State.{Owned as OwnedArea, opening_state}
use Rattle.vr_part.specs.Any.{known_any, shape_any}
use Rattle.vr_part.specs.declared.any.AnyPart.{AnyPart}
use Rattle.vr_log.specs.LogNow.{LogNow}
use Rattle.vr_mount.specs.Areas.{AreOwners}
use Rattle.vr_space.specs.Part.{part_no}
use Rattle.vr_event.specs.Opening.{IsOpened, opened_store, owned_in}
use Rattle.vr_store.specs.Store.{IsSet, PartNow, shape_among}
use Rattle.vr_volume.specs.Laid.{shape_by, shape_in}
use Rattle.vr_event.specs.Volume.{AreServed, VolumeNow}
use Rattle.vr_store.specs.declared.parts.Laid.{Laid}
use Rattle.vr_recover.specs.Opening.{IsVolume}
use Rattle.vr_recover.specs.Recovered.{IsRecovered, standing_all}
use Rattle.vr_job.specs.Going.{HasRun}

-- a part with its number, as it is seen
abbrev pub laid_now : Laid AnyPart → PartNow
laid_now laid = record {
  number = laid.number;
  shape = shape_any laid.part;
  known = known_any laid.part;
}

-- a part that was opened, with the number that is its own
abbrev pub opened_now : AnyPart → PartNow
opened_now part = record {
  number = part_no (shape_any part);
  shape = shape_any part;
  known = known_any part;
}

-- Whatever the blocks have: what was opened is that of a set volume, the entries of its catalog are
-- served, and each area that is owned is so by a part that the catalog lays.
pub record IsReady (geometry : Geometry) (catalog : List CatEntry) (parts : List PartNow)
    (log : LogNow) (space : List (Option PartNo)) (now : Seen) : Type 0 where
  pub set : IsSet (opened_store log parts space) now
  pub geometry_is : log.geometry ≡ geometry
  pub laid : (part : ℕ) → shape_among parts part ≡ shape_in geometry catalog part
  pub records : log.records ≡ []
  pub sound : log.broken ≡ false
  pub served : AreServed geometry catalog
  pub owned : AllByRecursion (λ (area : OwnedArea). has_part (parts_laid catalog) area.part ≡ true)
      (owned_in space)

-- And by what the blocks had and have: they were a volume's, which recovered to the records of these
-- contents, and are one's that was opened with them, by who owns the areas: the parts that reach
-- them. What was withdrawn is where the blocks had it, and where an added record of an
-- entry-sequenced part was put back; and a part that isn't laid has nothing.
pub record IsReadyFrom (number : ℕ) (geometry : Geometry) (catalog : List CatEntry)
    (parts : List PartNow) (log : LogNow) (space : List (Option PartNo)) (contents : ℕ → Content)
    (old new : Seen) : Type 0 where
  pub volume : IsVolume number geometry (standing_all contents) old
  pub whole : IsRecovered geometry number contents old.cur
  pub others : (part : ℕ) → shape_by geometry (contents 0) part ≡ None → contents part ≡ []
  pub catalog_is : catalog ≡ entries_in (contents 0)
  pub opened : IsOpened number (owner_of log.geometry space) log parts contents new
  pub owners_are : AreOwners geometry catalog new.cur space

-- It is held from its opening, with contents to the records of which the blocks recovered before, and
-- each image that a crash may leave of it now recovers to these. What was withdrawn is where the
-- blocks had it, and where an added record of an entry-sequenced part was put back; and a part that
-- isn't laid has nothing. An area is owned by the part of its catalog that reaches it, and by no
-- other, and else it is free.
pub record IsOpenHeld {B : Type 0} (seen : B → Seen) (faults : B → Faults) (number : ℕ)
    (old : Seen) (volume : VolumeNow B) : Type 0 where
  pub contents : ℕ → Content
  pub owners : List (Option PartNo)
  pub volume_is : IsVolume number volume.file.geometry (standing_all contents) old
  pub whole : IsRecovered volume.file.geometry number contents old.cur
  pub ascends : (part : ℕ) → Ascends (contents part)
  pub others : (part : ℕ) → shape_by volume.file.geometry (contents 0) part ≡ None
      → contents part ≡ []
  pub catalog_is : volume.file.catalog ≡ entries_in (contents 0)
  pub owners_are : AreOwners volume.file.geometry volume.file.catalog
      (seen volume.blocks).cur owners
  pub run : HasRun seen faults (opening_state contents (owned_in owners)) volume.blocks volume
