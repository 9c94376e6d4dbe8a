-- What a volume keeps in memory of its blocks: its parts, its log, its before-images, and the
-- blocks that units of recovery changed; and when these and the blocks are those of a state of the
-- record file. The rules are this project's own.
use Rattle.std.specs.Prelude.{◌≡◌, ◌≢◌, ◌<◌, ℕ, Bool, false, ◌==◌, List, [], All, Option, Some}
use Rattle.std.specs.Prelude.{IfSome, None, find, length, map, option_map}
use Rattle.std.specs.List.{IsDistinct}
use Rattle.std.specs.Option.{option_and_then, option_map_or}
use Rattle.std.specs.Prelude.{nat_eq}
use Rattle.vr_types.specs.Content.{Item, Standing, Withdrawn, item_at}
use Rattle.vr_types.specs.Geometry.{IsAllowed, area_count}
use Rattle.vr_types.specs.Locks.{same_unit}
use Rattle.vr_types.specs.Seen.{Seen}
use Rattle.vr_types.specs.declared.unit.PartNo.{PartNo}
use Rattle.vr_types.specs.declared.unit.Unit.{Unit as UnitOfRecovery}
use Rattle.vr_space.specs.Known.{Known}
use Rattle.vr_space.specs.Owners.{Owners}
use Rattle.vr_space.specs.Part.{IsLengthOf, IsOn, IsPlaceOf, IsRecordOf, OwnsChain, Shape, left_by}
use Rattle.vr_space.specs.Part.{part_no}
use Rattle.vr_attach.specs.Owning.{owner_of}
use Rattle.vr_log.specs.Live.{live_in}
use Rattle.vr_log.specs.LogNow.{IsOf, LogNow}
use Rattle.vr_history.specs.State.{BeforeImage, State}
use Rattle.vr_undo.specs.Records.{befores_of, images_in, logged_of}
use Rattle.vr_undo.specs.declared.record.KeptRecord.{KeptRecord}
use Rattle.vr_volume.specs.Due.{IsDueFor}
use Rattle.vr_volume.specs.Laid.{shape_by}
use Rattle.vr_volume.specs.Rests.{IsPartAtRest, IsVolumeAtRest}
use Rattle.vr_store.specs.declared.parts.Laid.{Laid}
use Rattle.vr_store.specs.declared.changed.UnitBlocks.{UnitBlocks}

-- a part with its number, as a call finds it
pub record PartNow : Type 0 where
  pub number : PartNo
  pub shape : Shape
  pub known : Known

abbrev pub part_now : {P : Type 0} → (P → Shape) → (P → Known) → Laid P
    → PartNow
part_now shape known laid = record {
  number = laid.number;
  shape = shape laid.part;
  known = known laid.part;
}

-- the part of a number
abbrev pub has_number : ℕ → PartNow → Bool
has_number number part = part.number.0 == number

abbrev pub part_among : List PartNow → ℕ → Option PartNow
part_among parts number = find (has_number number) parts

abbrev pub shape_among : List PartNow → ℕ → Option Shape
shape_among parts number = option_map (λ (part : PartNow). part.shape) (part_among parts number)

-- What a call leaves at a place of the part of this number, by the item that the state has there,
-- as it gives a record to the place, or takes the one there away.
abbrev pub left_among : List PartNow → ℕ → State → List ℕ → Option (List ℕ) → Option Item
left_among parts number state place bytes = option_and_then
    (λ (shape : Shape). left_by shape (item_at (state.contents number) place) bytes)
    (shape_among parts number)

-- the blocks that a unit changed and that were not forced since
pub record ChangedBy : Type 0 where
  pub unit : UnitOfRecovery
  pub blocks : List ℕ

abbrev pub changed_by : UnitBlocks → ChangedBy
changed_by by = record { unit = by.unit; blocks = by.blocks.items }

abbrev pub is_by : UnitOfRecovery → ChangedBy → Bool
is_by unit by = same_unit unit by.unit

abbrev pub blocks_of : UnitOfRecovery → List ChangedBy → List ℕ
blocks_of unit changed =
    option_map_or (λ (by : ChangedBy). by.blocks) (find (is_by unit) changed) []

-- what a volume has in memory beside its blocks
pub record StoreNow : Type 0 where
  pub log : LogNow
  pub undo : List KeptRecord
  pub parts : List PartNow
  pub changed : List ChangedBy
  pub space : List (Option PartNo)

-- a store, by its fields
abbrev pub store_of : {P : Type 0} → (P → Shape) → (P → Known) → LogNow
    → List KeptRecord → List (Laid P) → List UnitBlocks → List (Option PartNo) → StoreNow
store_of shape known log undo parts changed space = record {
  log = log;
  undo = undo;
  parts = map (part_now shape known) parts;
  changed = map changed_by changed;
  space = space;
}

-- which part each block is of, by who owns the areas
abbrev pub owners_of : StoreNow → Owners
owners_of store = owner_of store.log.geometry store.space

-- ---- what holds whether or not the device reports its contents

-- a part is on blocks of the device, under its number
pub record IsPartSet (now : Seen) (part : PartNow) : Type 0 where
  pub number : part_no part.shape ≡ part.number
  pub on : IsOn part.shape now

-- a part holds as many areas as it owns: of a keyed part the one that a split claimed is among them
abbrev pub OwnsItsChain : List (Option PartNo) → PartNow → Type 0
OwnsItsChain areas part = OwnsChain part.shape part.known areas

-- a record, or none, that may stand at a place of a part
abbrev pub IsOldOf : Shape → List ℕ → Option Item → Type 0
IsOldOf shape place None = Unit {0}
IsOldOf shape place (Some (Standing bytes)) = IsRecordOf shape place bytes
IsOldOf shape place (Some (Withdrawn n)) = ⊥

-- there is a length that a record of the part may have
abbrev pub HasLength : Shape → Type 0
HasLength shape = (n : ℕ) × IsLengthOf shape n

-- A before-image is of a place of one of the parts, in which some record may stand, and its record,
-- if it has one, may stand there.
pub record IsFitImage (parts : List PartNow) (image : BeforeImage) : Type 0 where
  pub part : part_among parts image.part ≢ None
  pub place : IfSome (shape_among parts image.part) (λ shape. IsPlaceOf shape image.place)
  pub old : IfSome (shape_among parts image.part) (λ shape. IsOldOf shape image.place image.old)
  pub long : IfSome (shape_among parts image.part) HasLength

-- The numbers of the parts differ, and each changed block is one of the device. Once no unit is
-- live the log has no record, and what units may put back is fit for the parts. Each area of the
-- volume has an owner or none, and each part holds as many as it owns.
pub record IsSet (store : StoreNow) (now : Seen) : Type 0 where
  pub allowed : IsAllowed store.log.geometry
  pub blocks : IsOf store.log.geometry now
  pub sound : store.log.broken ≡ false
  pub parts : All (IsPartSet now) store.parts
  pub apart : IsDistinct nat_eq (map (λ (part : PartNow). part.number.0) store.parts)
  pub changed : All (λ (by : ChangedBy). All (λ n. n < now.count) by.blocks) store.changed
  pub idle : live_in store.log.records ≡ [] → store.log.records ≡ []
  pub kept : All (IsFitImage store.parts) (befores_of store.undo)
  pub areas : length store.space ≡ area_count store.log.geometry
  pub owns : All (OwnsItsChain store.space) store.parts

-- ---- what holds where it does

abbrev pub IsRestedPart : StoreNow → State → Seen → PartNow → Type 0
IsRestedPart store state now part =
    IsPartAtRest store.log.geometry (owners_of store) (images_in store.undo) state part.shape
    part.known now

-- The volume is at rest by the state, and so is each of its parts, of which none is missing, in the
-- blocks that are its own by who owns the areas; the area that a split under way claimed is the
-- part's own too. The before-images are the state's, and once the blocks that a unit changed are
-- forced, a crash leaves what stands at its places.
pub record IsStored (number : ℕ) (store : StoreNow) (state : State) (now : Seen) : Type 0 where
  pub volume : IsVolumeAtRest store.log.geometry number (owners_of store) store.log
      (images_in store.undo) state now
  pub parts : All (IsRestedPart store state now) store.parts
  pub whole : (part : ℕ) (shape : Shape)
      → shape_by store.log.geometry (state.contents 0) part ≡ Some shape
      → shape_among store.parts part ≡ Some shape
  pub befores : befores_of store.undo ≡ state.befores
  pub logged : logged_of store.undo ≡ state.logged
  pub due : (unit : UnitOfRecovery)
      → IsDueFor store.log.geometry store.log state unit (blocks_of unit store.changed) now

-- it is so by some state
pub record Stands (store : StoreNow) (now : Seen) : Type 0 where
  pub number : ℕ
  pub state : State
  pub stored : IsStored number store state now
