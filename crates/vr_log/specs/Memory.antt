-- How a log is kept in memory: the bytes of its last block, and its live units.
use Rattle.std.specs.Prelude.{◌≡◌, ℕ, ◌+◌, ◌*◌, ◌^◌, ◌<◌, ◌≤◌, List, length, take, drop, Option}
use Rattle.std.specs.Prelude.{Some, None, Bool, if◌then◌else◌, All, vec_len, slice_index}
use Rattle.std.specs.Global.{Vec}
use Rattle.vr_types.specs.LogSpace.{log_size}
use Rattle.vr_types.specs.declared.geometry.Geometry.{Geometry}
use Rattle.vr_log.specs.declared.kept.Older.{Older}
use Rattle.vr_log.specs.declared.kept.Older.TheVariants.{Made, Ended}
use Rattle.vr_log.specs.declared.record.LogRecord.{LogRecord}
use Rattle.vr_log.specs.declared.tail.Tail.{Tail}
use Rattle.vr_log.specs.Content.{Content}
use Rattle.vr_log.specs.Kept.{records_in}
use Rattle.vr_log.specs.Live.{live_in, used_by}
use Rattle.vr_log.specs.LiveUnits.{LiveUnits}
use Rattle.vr_log.specs.LogBlock.{room_of}
use Rattle.vr_log.specs.Records.{bytes_of, HasFields}

-- the log that was on the blocks before
abbrev pub older_in : Older → Content
older_in (Made content) = content.value
older_in (Ended generation records) =
    record { generation = generation; records = records_in records.value }

abbrev pub behind_in : Bool → Older → Option Content
behind_in begun older = if begun then None else Some (older_in older)

-- The buffer has the last of these bytes, which are those of the log so far.
pub record IsTail (geometry : Geometry) (bytes : List ℕ) (tail : Tail) : Type 0 where
  pub size : vec_len tail.block ≡ geometry.size
  pub blocks : tail.blocks ≡ geometry.log
  pub index : tail.index < geometry.log
  pub used : tail.index * room_of geometry + tail.used ≡ length bytes
  pub fits : tail.used ≤ room_of geometry
  pub payload : take tail.used (drop 16 tail.block.items) ≡ drop (tail.index * room_of geometry)
      bytes

-- a full buffer is that of the last block
abbrev pub IsTurned : Geometry → Tail → Type 0
IsTurned geometry tail = tail.used ≡ room_of geometry → tail.index + 1 ≡ geometry.log

-- A log that isn't broken, in memory.
pub record IsKept (geometry : Geometry) (records : List LogRecord) (forced : List LogRecord)
    (tail : Tail) (live : LiveUnits) (bytes forced_bytes : ℕ) : Type 0 where
  pub fields : All HasFields records
  pub last : IsTail geometry (bytes_of records) tail
  pub young : tail.generation < 2 ^ 64
  pub turned : IsTurned geometry tail
  pub units : live.units ≡ live_in records
  pub room : log_size geometry < 20 * live.room
  pub all : bytes ≡ length (bytes_of records)
  pub stable : forced_bytes ≡ length (bytes_of forced)
  pub part : forced ≡ take (length forced) records
  pub count : length forced ≤ length records
  pub fits : used_by records ≤ log_size geometry

-- numbers from 1 on
abbrev pub AreNumbered : List ℕ → Type 0
AreNumbered numbers = (i : ℕ) → i < length numbers → slice_index numbers i ≡ 1 + i

-- the numbers of the blocks of the log
pub record AreNumbers (geometry : Geometry) (numbers : Vec ℕ) : Type 0 where
  pub count : length numbers.items ≡ geometry.log
  pub each : AreNumbered numbers.items
