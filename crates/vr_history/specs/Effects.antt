-- What an entry leaves of the state: one word for each effect (DFSMS Using Data Sets for positions
-- and records, the DFSMStvs Planning and Operating Guide for locks and units of recovery).
use Rattle.std.specs.Prelude.{ℕ, ◌+◌, Bool, true, false, not, cond, if◌then◌else◌, List, [], ◌∷◌}
use Rattle.std.specs.Prelude.{◌++◌, Option, Some, None, ◌==◌, ◌&&◌, nat_eq, filter, map}
use Rattle.std.specs.List.{list_any}
use Rattle.vr_types.specs.Locks.{same_unit}
use Rattle.vr_catalog.specs.Catalog.{parts_in}
use Rattle.vr_catalog.specs.declared.entry.CatEntry.{CatEntry}
use Rattle.vr_catalog.specs.declared.entry.EntryKind.{EntryKind}
use Rattle.vr_catalog.specs.declared.entry.EntryKind.TheVariants.{Cluster, Alternate, Path}
use Rattle.vr_types.specs.Content.{Content, item_at}
use Rattle.vr_types.specs.Position.{unheld}
use Rattle.vr_types.specs.declared.position.Position.{Position}
use Rattle.vr_types.specs.declared.position.Stand.{Stand}
use Rattle.vr_types.specs.declared.lock_name.LockName.{LockName}
use Rattle.vr_types.specs.declared.request.FileRef.{FileRef}
use Rattle.vr_types.specs.declared.unit.Mode.{Mode}
use Rattle.vr_types.specs.declared.unit.Unit.{Unit as UnitOfRecovery}
pub use Rattle.vr_altkey.specs.Placing.{placed_in}
use Rattle.vr_history.specs.Change.{Change}
use Rattle.vr_history.specs.LogSpace.{Logging}
use Rattle.vr_history.specs.Names.{with_locks}
use Rattle.vr_history.specs.Opened.{catalog_of}
use Rattle.vr_history.specs.State.{BeforeImage, Logged, State, is_kept}

-- one file's position changes
abbrev pub moves_file : ℕ → ℕ → (Position → Position) → State → State
moves_file deck slot to state =
    record state {
      positions = λ d s. if d == deck
          && s == slot then to (state.positions d s) else state.positions d s;
    }

abbrev pub holding : List ℕ → Position → Position
holding place position = record position { held = Some place }

abbrev pub standing : Stand → Position → Position
standing stand position = record position { stand = stand }

-- what the file holds for update is dropped, and where it stands stays
abbrev pub drops_held : ℕ → Option FileRef → State → State
drops_held deck None state = state
drops_held deck (Some file) state = moves_file deck file.slot unheld state

-- the unit takes its locks
abbrev pub locks : UnitOfRecovery → Mode → List LockName → State → State
locks unit mode names state = record state { locks = with_locks unit mode names state.locks }

abbrev pub with_change : Change → (ℕ → Content) → ℕ → Content
with_change change contents part =
    if part == change.part then placed_in change.place change.new (contents part) else contents part

abbrev pub changes : Change → State → State
changes change state = record state { contents = with_change change state.contents }

-- the unit's first change of a place keeps what stood there
abbrev pub image_kept : State → UnitOfRecovery → Change → BeforeImage
image_kept state unit change =
    record {
      unit = unit;
      part = change.part;
      place = change.place;
      old =
          item_at (state.contents change.part) change.place;
    }

abbrev pub keeps_before : UnitOfRecovery → Change → State → State
keeps_before unit change state =
    record state {
      befores =
          cond (is_kept state unit change.part change.place) state.befores (state.befores
          ++ image_kept state unit change ∷ []);
    }

-- the places that a change logs, and the bytes that this takes
abbrev pub as_logged : UnitOfRecovery → Logging → Logged
as_logged unit logging = record { unit = unit; part = logging.part; place = logging.place }

abbrev pub logs : UnitOfRecovery → List Logging → ℕ → State → State
logs unit loggings need state =
    record state {
      logged = state.logged ++ map (as_logged unit) loggings;
      used =
          state.used + need;
    }

-- the unit's last kept before-image
abbrev pub last_of : List BeforeImage → Option BeforeImage
last_of [] = None
last_of (kept ∷ []) = Some kept
last_of (kept ∷ next ∷ rest) = last_of (next ∷ rest)

abbrev pub last_kept : State → UnitOfRecovery → Option BeforeImage
last_kept state unit = last_of (filter (λ kept. same_unit unit kept.unit) state.befores)

-- the list without the unit's last kept before-image
abbrev pub keeps_other : UnitOfRecovery → List BeforeImage → Bool
keeps_other unit befores = list_any (λ kept. same_unit unit kept.unit) befores

abbrev pub without_last : UnitOfRecovery → List BeforeImage → List BeforeImage
without_last unit [] = []
without_last unit (kept ∷ rest) =
    cond (same_unit unit kept.unit
    && not (keeps_other unit rest)) rest (kept ∷ without_last unit rest)

abbrev pub takes_out : UnitOfRecovery → State → State
takes_out unit state = record state { befores = without_last unit state.befores }

-- an area gets a part
abbrev pub claims : ℕ → ℕ → State → State
claims area part state =
    record state { owned = state.owned ++ record { area = area; part = part } ∷ [] }

abbrev pub stops : ℕ → State → State
stops stamp state = record state { stopped = Some stamp }

-- A unit ends: its locks, before-images and log records go, its deck's files drop what they hold,
-- and its deck's next unit begins. The log is empty once no unit is live.
abbrev pub is_other : UnitOfRecovery → UnitOfRecovery → Bool
is_other unit other = not (same_unit unit other)

abbrev pub used_after : List Logged → ℕ → ℕ
used_after [] used = 0
used_after (logged ∷ rest) used = used

abbrev pub without_unit : UnitOfRecovery → State → State
without_unit unit state =
    let logged = filter (λ log. is_other unit log.unit) state.logged in
    record state {
      locks = filter (λ lock. is_other unit lock.unit) state.locks;
      befores = filter (λ kept. is_other unit kept.unit) state.befores;
      logged = logged;
      used = used_after logged state.used;
      positions = λ deck slot. if deck == unit.deck then unheld (state.positions deck slot) else
          state.positions deck slot;
      numbers = λ deck. if deck == unit.deck then state.numbers deck + 1 else state.numbers deck;
    }

-- Once no unit of the utilities is live, what the catalog hasn't goes: the contents and areas of
-- its parts, and the areas of alternate indexes that aren't built.
abbrev pub has_part : List ℕ → ℕ → Bool
has_part parts part = list_any (nat_eq part) (0 ∷ parts)

-- a cluster has areas, and an alternate index that is built
abbrev pub has_areas : EntryKind → CatEntry → Bool
has_areas Cluster entry = true
has_areas Alternate entry = entry.built
has_areas Path entry = false

abbrev pub parts_laid : List CatEntry → List ℕ
parts_laid entries = parts_in (filter (λ entry. has_areas entry.entry_kind entry) entries)

abbrev pub is_utility_live : State → Bool
is_utility_live state = list_any (λ logged. logged.unit.deck == 0) state.logged

abbrev pub contents_left : State → ℕ → Content
contents_left state part =
    if has_part (parts_in (catalog_of state)) part then state.contents part else []

abbrev pub gives_back : State → State
gives_back state = cond (is_utility_live state) state (record state {
  contents = contents_left state;
  owned = filter (λ owned. has_part (parts_laid (catalog_of state)) owned.part) state.owned;
})

abbrev pub ends_unit : UnitOfRecovery → State → State
ends_unit unit state = gives_back (without_unit unit state)
