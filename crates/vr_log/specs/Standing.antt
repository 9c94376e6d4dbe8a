-- When a log stands on its blocks: what a crash may leave of each of them, block by block. The
-- rules are this project's own.
use Rattle.std.specs.Prelude.{◌≡◌, ◌⊎◌, ℕ, ◌+◌, ◌*◌, ◌^◌, ◌<◌, ◌≤◌, List, length, take, drop, Some}
use Rattle.std.specs.Prelude.{None, true, All}
use Rattle.vr_types.specs.Fields.{AreZeros}
use Rattle.vr_types.specs.Geometry.{IsAllowed}
use Rattle.vr_types.specs.LogSpace.{log_size}
use Rattle.vr_types.specs.Image.{Block, Image, block_at}
use Rattle.vr_types.specs.Regions.{IsImageOn}
use Rattle.vr_types.specs.Seen.{Seen, Only}
use Rattle.vr_types.specs.declared.geometry.Geometry.{Geometry}
use Rattle.vr_log.specs.Content.{Content}
use Rattle.vr_log.specs.Live.{used_by}
use Rattle.vr_log.specs.LogBlock.{generation_in, used_in, payload_in, rest_in, is_next, room_of}
use Rattle.vr_log.specs.LogNow.{LogNow, IsBehind, IsForced, IsOf, last_index}
use Rattle.vr_log.specs.Records.{bytes_of, HasFields}
use Rattle.vr_log.specs.Spells.{Spells}

-- the blocks of the log
abbrev pub InLog : Geometry → ℕ → Type 0
InLog geometry n = (1 ≤ n) × (n ≤ geometry.log)

-- the bytes of records whose place is the block of this index
abbrev pub place_of : ℕ → List ℕ → ℕ → List ℕ
place_of room bytes index = take room (drop (index * room) bytes)

-- Where the block goes on with the log, it has a prefix of the bytes whose place it is, and zeros.
pub record IsWithin (room generation : ℕ) (bytes : List ℕ) (index : ℕ) (block : Block) : Type 0
  where
    pub used : is_next generation index block ≡ true
        → used_in block ≤ length (place_of room bytes index)
    pub payload : is_next generation index block ≡ true
        → payload_in block ≡ take (used_in block) (place_of room bytes index)
    pub zeros : is_next generation index block ≡ true → AreZeros (rest_in block)

-- The block goes on with the log, and has at least the first `count` bytes, as far as their place
-- is there.
pub record Reaches (room generation count index : ℕ) (block : Block) : Type 0 where
  pub next : is_next generation index block ≡ true
  pub used : (count ≤ index * room + used_in block) ⊎ (used_in block ≡ room)

-- The block goes on with the log, and has all bytes whose place is there, and zeros.
pub record IsExact (room generation : ℕ) (bytes : List ℕ) (index : ℕ) (block : Block) : Type 0 where
  pub next : is_next generation index block ≡ true
  pub used : used_in block ≡ length (place_of room bytes index)
  pub payload : payload_in block ≡ place_of room bytes index
  pub zeros : AreZeros (rest_in block)

-- the bytes of the records that were forced
abbrev pub forced_length : LogNow → ℕ
forced_length log = length (bytes_of (take log.forced log.records))

-- a block that may be left as the log needs it: nothing past the bytes, and all that is forced
pub record IsLeft (log : LogNow) (bytes : List ℕ) (index : ℕ) (block : Block) : Type 0 where
  pub within : IsWithin (room_of log.geometry) log.generation bytes index block
  pub reaches : index * room_of log.geometry < forced_length log
      → Reaches (room_of log.geometry) log.generation (forced_length log) index block

-- such a block that goes on with this log, which has some bytes
abbrev pub IsOurs : LogNow → List ℕ → ℕ → Block → Type 0
IsOurs log bytes index block = (is_next log.generation index block ≡ true)
    × IsLeft log bytes index block × (0 < length bytes)

-- the block to which the next bytes of the log go
abbrev pub open_index : LogNow → ℕ
open_index log = last_index log.geometry (bytes_of log.records)

-- it is the block in which the log was begun, and isn't forced yet
abbrev pub IsOpen : LogNow → ℕ → Type 0
IsOpen log index = (older : Content) × (log.behind ≡ Some older) × (index ≡ open_index log)

-- What a crash may leave of a log while at most these bytes were put: no block of a later
-- generation, and in each block what the log needs. In the block in which it was begun, as long as
-- that isn't forced, it may leave what was there, and the image then spells the log before.
pub record Leaves (log : LogNow) (bytes : List ℕ) (count : ℕ) (may : ℕ → Block
    → Type 0) : Type 0 where
  pub young : (index : ℕ) (block : Block) → index < log.geometry.log → may (1 + index) block
      → generation_in block ≤ log.generation
  pub each : (index : ℕ) (block : Block) → index < log.geometry.log → ¬ (IsOpen log index)
      → may (1 + index) block → IsLeft log bytes index block
  pub first : log.behind ≡ None → (block : Block) → may 1 block
      → is_next log.generation 0 block ≡ true
  pub older : (older : Content) → log.behind ≡ Some older → (image : Image)
      → IsImageOn (InLog log.geometry) count may image
      → Spells log.geometry image older
      ⊎ IsOurs log bytes (open_index log) (block_at image (1 + open_index log))

-- a crash leaves each block of the log as it is read
abbrev pub IsSettled : Geometry → Seen → Type 0
IsSettled geometry seen = (n : ℕ) → InLog geometry n
    → Only seen n (λ block. block ≡ block_at seen.cur n)

-- No block after the last one goes on with the log, and none has a later generation.
pub record EndsThere (log : LogNow) (image : Image) : Type 0 where
  pub none_on : (index : ℕ) → index < log.geometry.log → open_index log < index
      → is_next log.generation index (block_at image (1 + index)) ≡ true → ⊥
  pub none_later : (index : ℕ) → index < log.geometry.log
      → generation_in (block_at image (1 + index)) ≤ log.generation

-- The log stands on the blocks.
pub record LogStands (log : LogNow) (seen : Seen) : Type 0 where
  pub allowed : IsAllowed log.geometry
  pub shape : IsOf log.geometry seen
  pub some : 1 ≤ log.generation
  pub below : log.generation < 2 ^ 63
  pub fields : All HasFields log.records
  pub fits : used_by log.records ≤ log_size log.geometry
  pub forced : log.forced ≤ length log.records
  pub behind : (older : Content) → log.behind ≡ Some older → IsBehind log older
  pub begun : (older : Content) → log.behind ≡ Some older
      → open_index log * room_of log.geometry ≤ forced_length log
  pub leaves : Leaves log (bytes_of log.records) seen.count seen.may
  -- what is not forced yet is on the blocks as they are read
  pub current : (IsForced log → ⊥) → (index : ℕ)
      → index * room_of log.geometry < length (bytes_of log.records)
      → forced_length log < (index + 1) * room_of log.geometry
      → IsExact (room_of log.geometry) log.generation (bytes_of log.records) index
      (block_at seen.cur (1 + index))
