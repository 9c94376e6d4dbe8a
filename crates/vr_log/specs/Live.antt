-- The units of recovery that are live in a log, and the bytes of it that are in use. The rules are
-- this project's own.
use Rattle.std.specs.Prelude.{◌≡◌, ℕ, ◌+◌, ◌*◌, List, [], ◌∷◌, ◌++◌, length, Bool}
use Rattle.std.specs.Prelude.{if◌then◌else◌, IsTrue}
use Rattle.std.specs.List.{list_any}
use Rattle.vr_types.specs.Locks.{same_unit}
use Rattle.vr_types.specs.LogSpace.{end_length}
use Rattle.vr_types.specs.declared.unit.Unit.{Unit as UnitOfRecovery}
use Rattle.vr_log.specs.declared.record.LogRecord.{LogRecord}
use Rattle.vr_log.specs.declared.record.LogRecord.TheVariants.{Before, End}
use Rattle.vr_log.specs.Records.{record_bytes, bytes_of}

abbrev pub is_in : UnitOfRecovery → List UnitOfRecovery → Bool
is_in unit units = list_any (same_unit unit) units

-- the units without the first that is this one
abbrev pub without : UnitOfRecovery → List UnitOfRecovery → List UnitOfRecovery
without unit [] = []
without unit (other ∷ units) = if same_unit unit other then units else other ∷ without unit units

-- A before-image makes its unit live, and an end record ends it.
unfoldable pub live_after : List UnitOfRecovery → LogRecord → List UnitOfRecovery
live_after live (Before unit part place old) = if is_in unit live then live else live ++ unit ∷ []
live_after live (End unit kind) = without unit live

-- the units that are live after these records, the first of them first
abbrev pub live_from : List UnitOfRecovery → List LogRecord → List UnitOfRecovery
live_from live [] = live
live_from live (rec ∷ records) = live_from (live_after live rec) records

abbrev pub live_in : List LogRecord → List UnitOfRecovery
live_in records = live_from [] records

-- the bytes in use: those of the records, and the room kept for the end of each live unit
abbrev pub used_by : List LogRecord → ℕ
used_by records = length (bytes_of records) + end_length * length (live_in records)

-- What a record needs while these units are live: a before-image its bytes, and where it is the
-- first of its unit the room of the unit's end. An end has its room already.
unfoldable pub need_of : List UnitOfRecovery → LogRecord → ℕ
need_of live (Before unit part place old) =
    length (record_bytes (Before unit part place old)) + (if is_in unit live then 0 else end_length)
need_of live (End unit kind) = 0

-- an end record ends a live unit
abbrev pub EndsLive : List UnitOfRecovery → LogRecord → Type 0
EndsLive live (Before unit part place old) = Unit {0}
EndsLive live (End unit kind) = IsTrue (is_in unit live)

-- ---- several before-images of one unit

-- a before-image of the unit
abbrev pub IsBeforeOf : UnitOfRecovery → LogRecord → Type 0
IsBeforeOf unit (Before other part place old) = other ≡ unit
IsBeforeOf unit (End other kind) = ⊥

-- what records need one after another, each by the units that are live then
abbrev pub need_of_all : List UnitOfRecovery → List LogRecord → ℕ
need_of_all live [] = 0
need_of_all live (rec ∷ records) =
    need_of live rec + need_of_all (live_after live rec) records
