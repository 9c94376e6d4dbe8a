-- The state of a volume, as the record file that a request sees: the contents of its parts, the
-- locks, before-images and log records of units of recovery, where files stand, and which areas are
-- owned. Locks, before-images and units are those of the DFSMStvs Planning and Operating Guide; how
-- they are kept is this project's own.
use Rattle.std.specs.Prelude.{ℕ, Bool, List, [], Option, None, ◌==◌, ◌&&◌, length, filter}
use Rattle.std.specs.Prelude.{bytes_eq}
use Rattle.std.specs.List.{list_any}
use Rattle.vr_types.specs.Locks.{Lock, same_unit}
use Rattle.vr_types.specs.Content.{Content, Item}
use Rattle.vr_types.specs.Position.{first_position}
use Rattle.vr_types.specs.declared.position.Position.{Position}
use Rattle.vr_types.specs.declared.unit.Unit.{Unit as UnitOfRecovery}

-- what stood at a place of a cluster before a unit first changed it
pub record BeforeImage : Type 0 where
  pub unit : UnitOfRecovery
  pub part : ℕ
  pub place : List ℕ
  pub old : Option Item

-- a place for which the log has a before record of a unit
pub record Logged : Type 0 where
  pub unit : UnitOfRecovery
  pub part : ℕ
  pub place : List ℕ

-- an area and the part that has it
pub record Owned : Type 0 where
  pub area : ℕ
  pub part : ℕ

pub record State : Type 0 where
  -- the content of each part; that of part 0 is the catalog
  pub contents : ℕ → Content
  -- in the order in which they were taken
  pub locks : List Lock
  -- in the order in which they were kept
  pub befores : List BeforeImage
  -- of all live units, the places of alternates among them
  pub logged : List Logged
  -- the bytes of the log in use
  pub used : ℕ
  -- where each file of each deck stands, by deck and slot, and what it holds for update
  pub positions : ℕ → ℕ → Position
  -- the number of each deck's unit of recovery
  pub numbers : ℕ → ℕ
  pub owned : List Owned
  -- the stamp of the write fault that stopped the volume
  pub stopped : Option ℕ

-- a volume as it is opened: contents and areas alone
abbrev pub opening_state : (ℕ → Content) → List Owned → State
opening_state contents owned = record {
  contents = contents;
  locks = [];
  befores = [];
  logged = [];
  used = 0;
  positions = λ deck slot. first_position;
  numbers = λ deck. 1;
  owned = owned;
  stopped = None;
}

-- a unit is live while the log has a before record of it
abbrev pub is_live : State → UnitOfRecovery → Bool
is_live state unit = list_any (λ logged. same_unit unit logged.unit) state.logged

-- the log has a before record of this place for the unit
abbrev pub is_logged : State → UnitOfRecovery → ℕ → List ℕ → Bool
is_logged state unit part place =
    list_any (λ logged. same_unit unit logged.unit
    && (logged.part == part && bytes_eq place logged.place)) state.logged

-- the unit keeps a before-image of this place
abbrev pub is_kept : State → UnitOfRecovery → ℕ → List ℕ → Bool
is_kept state unit part place =
    list_any (λ kept. same_unit unit kept.unit
    && (kept.part == part && bytes_eq place kept.place)) state.befores

-- the areas of a part
abbrev pub areas_of : State → ℕ → ℕ
areas_of state part = length (filter (λ owned. owned.part == part) state.owned)
