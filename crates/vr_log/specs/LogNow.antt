-- What a log is seen as, and which log an image may have. The rules are this project's own.
use Rattle.std.specs.Prelude.{◌≡◌, ◌⊎◌, ℕ, ◌+◌, ◌-◌, ◌*◌, ◌/◌, ◌^◌, ◌<◌, ◌≤◌, List, [], ◌∷◌, ◌++◌}
use Rattle.std.specs.Prelude.{length, take, Option, Some}
use Rattle.std.specs.Prelude.{None, min, max, Bool, false, nat_eq, if◌then◌else◌}
use Rattle.vr_types.specs.Image.{Block, Image, block_at}
use Rattle.vr_types.specs.Seen.{Seen}
use Rattle.std.specs.Prelude.{Result, Err, OnOk, IsErrOf}
use Rattle.vr_types.specs.LogSpace.{log_size, IsLogFull}
use Rattle.vr_types.specs.Faults.{Faults}
use Rattle.vr_log.specs.declared.record.LogPlace.{LogPlace}
use Rattle.vr_log.specs.declared.no.LogNo.{LogNo}
use Rattle.vr_log.specs.declared.no.LogNo.TheVariants.{Full, Write, Read}
use Rattle.vr_types.specs.declared.geometry.Geometry.{Geometry}
use Rattle.vr_log.specs.declared.record.LogRecord.{LogRecord}
use Rattle.vr_log.specs.Content.{Content}
use Rattle.vr_log.specs.Records.{bytes_of}
use Rattle.vr_log.specs.LogBlock.{room_of}
use Rattle.vr_log.specs.Live.{live_in, used_by}
use Rattle.vr_log.specs.Spells.{Spells}

-- the block to which the bytes after these go, from 0 on; the last one where the log is full
abbrev pub last_index : Geometry → List ℕ → ℕ
last_index geometry bytes = min (length bytes / room_of geometry) (geometry.log - 1)

-- A log: the records of its generation, how many of them were forced, and the log that was on the
-- blocks before, as long as no block of this one was forced. A call that failed to write leaves it
-- broken.
pub record LogNow : Type 0 where
  pub geometry : Geometry
  pub generation : ℕ
  pub records : List LogRecord
  pub forced : ℕ
  pub behind : Option Content
  pub broken : Bool

-- the first n records of the generation
abbrev pub first_of : LogNow → ℕ → Content
first_of log n = record { generation = log.generation; records = take n log.records }

-- at least the records that were forced, and a prefix of all
pub record IsPrefixOf (log : LogNow) (content : Content) : Type 0 where
  pub count : ℕ
  pub forced : log.forced ≤ count
  pub all : count ≤ length log.records
  pub is : content ≡ first_of log count

-- An image has that, or the log before while nothing of this one was forced.
abbrev pub IsLogOf : LogNow → Content → Type 0
IsLogOf log content = IsPrefixOf log content ⊎ (log.behind ≡ Some content)

abbrev pub HasLog : LogNow → Image → Type 0
HasLog log image = (content : Content) × Spells log.geometry image content × IsLogOf log content

-- a log of no generation yet, as that of a volume that was just formatted
abbrev pub no_log : Content
no_log = record { generation = 0; records = [] }

-- or the image's blocks spell none yet
abbrev pub HasLogOrNone : LogNow → Image → Type 0
HasLogOrNone log image = HasLog log image ⊎ Spells log.geometry image no_log

-- The log before is that of a generation whose units have all ended. A log that was just made has
-- its own records there, all of them forced.
abbrev pub IsBehind : LogNow → Content → Type 0
IsBehind log older = (older ≡ first_of log log.forced)
    ⊎ ((log.forced ≡ 0) × (live_in older.records ≡ []))

-- with one record more
abbrev pub with_record : LogNow → LogRecord → LogNow
with_record log rec = record log { records = log.records ++ rec ∷ [] }

-- with several records more
abbrev pub with_records : LogNow → List LogRecord → LogNow
with_records log records = record log { records = log.records ++ records }

-- everything that was appended is forced
abbrev pub IsForced : LogNow → Type 0
IsForced log = log.forced ≡ length log.records

-- With all records forced, and no log before. Where nothing was appended since the last time, it
-- stays.
abbrev pub forced_now : LogNow → LogNow
forced_now log =
    if nat_eq log.forced (length log.records) then log else record log {
      forced =
          length log.records;
      behind = None;
    }

-- the log before the next generation: this one, or where no block of it was forced the one before
abbrev pub left_by : Option Content → Content → Option Content
left_by None last = Some last
left_by (Some older) last = Some older

-- the next generation, which stands still at 2^64 - 1
abbrev pub next_generation : ℕ → ℕ
next_generation generation = min (generation + 1) (2 ^ 64 - 1)

-- The log of the next generation, which has no record yet.
abbrev pub restarted : LogNow → LogNow
restarted log = record log {
  generation = next_generation log.generation;
  records = [];
  forced = 0;
  behind = left_by log.behind (first_of log (length log.records));
}

-- The log after these records, which stand on the blocks. Generations are from 1 on.
abbrev pub made : Geometry → Content → LogNow
made geometry content = record {
  geometry = geometry;
  generation = max 1 content.generation;
  records = content.records;
  forced = length content.records;
  behind = Some content;
  broken = false;
}

-- A record was appended. The log before is gone where a block had to be forced for it.
pub record IsAppended (old : LogNow) (rec : LogRecord) (new : LogNow) : Type 0 where
  pub geometry : new.geometry ≡ old.geometry
  pub generation : new.generation ≡ old.generation
  pub records : new.records ≡ old.records ++ rec ∷ []
  pub forced : new.forced ≡ old.forced
  pub behind : (new.behind ≡ old.behind) ⊎ (new.behind ≡ None)
  pub sound : new.broken ≡ false

-- Several records were appended, in their order.
pub record AreAppended (old : LogNow) (records : List LogRecord) (new : LogNow) : Type 0 where
  pub geometry : new.geometry ≡ old.geometry
  pub generation : new.generation ≡ old.generation
  pub all : new.records ≡ old.records ++ records
  pub forced : new.forced ≡ old.forced
  pub behind : (new.behind ≡ old.behind) ⊎ (new.behind ≡ None)
  pub sound : new.broken ≡ false

-- the image's log is all records with this one
abbrev pub HasRecord : LogNow → LogRecord → Image → Type 0
HasRecord log rec image =
    Spells log.geometry image (record {
      generation = log.generation;
      records = log.records
          ++ rec ∷ [];
    })

-- a block has what it had, or the image's log has the record
abbrev pub IsLogged : LogNow → LogRecord → ℕ → Block → Image → Type 0
IsLogged log rec home before image = (block_at image home ≡ before) ⊎ HasRecord log rec image

-- the blocks are those of a volume of this shape
pub record IsOf (geometry : Geometry) (seen : Seen) : Type 0 where
  pub count : seen.count ≡ geometry.blocks
  pub size : seen.size ≡ geometry.size

-- the byte of a block's payload at which the next record begins, and its block
abbrev pub IsNextPlace : LogNow → LogPlace → Type 0
IsNextPlace log place = (place.block ≡ 1 + last_index log.geometry (bytes_of log.records))
    × (place.at ≡ 16 +
    (length (bytes_of log.records) - last_index log.geometry (bytes_of log.records) * room_of
    log.geometry))

-- The answer is that the log is full, exactly where it is, with the three numbers.
pub record IsFullWhere {T : Type 0} (log : LogNow) (need : ℕ) (result : Result T LogNo) : Type 0
  where
    pub full : IsLogFull log.geometry (used_by log.records) need
        → result ≡ Err (Full (used_by log.records) need (log_size log.geometry))
    pub only : (used room size : ℕ) → result ≡ Err (Full used room size)
        → IsLogFull log.geometry (used_by log.records) need

-- Neither count falls, no read is made, and `Write` comes only where the count of writes rose.
pub record HasLogCause {T : Type 0} (before now : Faults) (result : Result T LogNo) : Type 0 where
  pub reads_same : now.reads ≡ before.reads
  pub writes : before.writes ≤ now.writes
  pub ok : OnOk result (now ≡ before)
  pub write : IsErrOf result Write → before.writes < now.writes
  pub no_read : result ≡ Err Read → ⊥

abbrev pub IsFullNo : LogNo → Type 0
IsFullNo (Full used need size) = Unit {0}
IsFullNo Write = ⊥
IsFullNo Read = ⊥
