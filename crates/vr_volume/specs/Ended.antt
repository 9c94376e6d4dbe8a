-- The end of a unit of recovery, as a record of the log: what it makes of what is committed, and
-- what has to hold of the blocks before it is written (DFSMStvs Planning and Operating Guide,
-- commit and backout). The rules are this project's own.
use Rattle.std.specs.Prelude.{◌≡◌, ◌⊎◌, ◌≤◌, ℕ, List, [], ◌∷◌, ◌++◌, length, Option, Some}
use Rattle.vr_types.specs.Content.{Content, Item}
use Rattle.vr_types.specs.Seen.{Seen}
use Rattle.vr_types.specs.declared.geometry.Geometry.{Geometry}
use Rattle.vr_types.specs.declared.unit.Unit.{Unit as UnitOfRecovery}
use Rattle.vr_space.specs.Owners.{Owners}
use Rattle.vr_space.specs.Part.{MayHold, Shape}
use Rattle.vr_log.specs.LogNow.{LogNow}
use Rattle.vr_log.specs.declared.record.EndKind.{EndKind}
use Rattle.vr_log.specs.declared.record.LogRecord.{LogRecord}
use Rattle.vr_log.specs.declared.record.LogRecord.TheVariants.{End}
use Rattle.vr_volume.specs.Laid.{shape_by}
use Rattle.vr_volume.specs.PutBack.{images_of}
use Rattle.vr_volume.specs.Safe.{AreCommitted, IsItemOf, IsPartSafe}

-- the records with the end of the unit
abbrev pub ended : LogNow → UnitOfRecovery → EndKind → List LogRecord
ended log unit kind = log.records ++ End unit kind ∷ []

-- The contents with the end are committed ones, of parts that were laid before, or are safe in the
-- blocks that these owners give them; and whatever a crash may leave of them has, off the places of
-- other units, the items of these contents alone, withdrawn or not. So the blocks that the unit
-- changed were forced.
pub record IsEndOf (geometry : Geometry) (owners : Owners) (log : LogNow)
    (committed : List LogRecord → ℕ → Content) (unit : UnitOfRecovery) (kind : EndKind) (now : Seen)
    : Type 0
  where
    pub forced : log.forced ≤ length log.records
    pub contents : AreCommitted geometry (ended log unit kind) (committed (ended log unit kind))
    pub laid : (part : ℕ) (shape : Shape)
        → shape_by geometry (committed (ended log unit kind) 0) part ≡ Some shape
        → (shape_by geometry (committed log.records 0) part ≡ Some shape)
        ⊎ IsPartSafe shape owners part (images_of (ended log unit kind))
        (committed (ended log unit kind) part) now
    pub items : (part : ℕ) (shape : Shape)
        → shape_by geometry (committed (ended log unit kind) 0) part ≡ Some shape
        → (place : List ℕ) (found : Option Item) → MayHold shape now.may place found
        → IsItemOf part (images_of (ended log unit kind))
        (committed (ended log unit kind) part) place found
