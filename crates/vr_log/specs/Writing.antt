-- A log while the bytes of a record are put.
use Rattle.std.specs.Prelude.{◌≡◌, ◌⊎◌, ℕ, ◌+◌, ◌-◌, ◌*◌, ◌^◌, ◌<◌, ◌≤◌, List, [], ◌++◌, length}
use Rattle.std.specs.Prelude.{take, drop, Some, None, Bool, IsTrue, false, if◌then◌else◌, vec_len}
use Rattle.std.specs.Prelude.{Result, OnOk}
use Rattle.vr_types.specs.Image.{Image, block_at}
use Rattle.vr_types.specs.Seen.{Seen}
use Rattle.vr_types.specs.declared.geometry.Geometry.{Geometry}
use Rattle.vr_types.specs.Fields.{padded}
use Rattle.vr_types.specs.Geometry.{IsAllowed}
use Rattle.vr_types.specs.Regions.{Touches}
use Rattle.vr_types.specs.declared.fault.DeviceFault.{DeviceFault}
use Rattle.vr_log.specs.declared.tail.Tail.{Tail}
use Rattle.vr_log.specs.Content.{Content}
use Rattle.vr_log.specs.LogBlock.{generation_in, index_in, head_of, room_of}
use Rattle.vr_log.specs.LogNow.{LogNow, IsOf}
use Rattle.vr_log.specs.Memory.{IsTail}
use Rattle.vr_log.specs.Spells.{Spells, Fits, log_bytes}
use Rattle.vr_log.specs.Standing.{InLog, Leaves, IsExact, open_index, forced_length}

abbrev pub IsPrefix : List ℕ → List ℕ → Type 0
IsPrefix start whole = (rest : List ℕ) × (start ++ rest ≡ whole)

-- The buffer and the blocks go together.
pub record IsSafe (tail : Tail) (seen : Seen) : Type 0 where
  pub size : vec_len tail.block ≡ seen.size
  pub small : seen.size < 2 ^ 32
  pub head : 16 < seen.size
  pub index : tail.index < tail.blocks
  pub blocks : tail.blocks < seen.count
  pub fits : tail.used + 16 ≤ seen.size

-- a buffer with its head, of a block that there is
pub record IsSound (tail : Tail) : Type 0 where
  pub small : vec_len tail.block < 2 ^ 32
  pub head : 16 < vec_len tail.block
  pub index : tail.index < tail.blocks
  pub fits : tail.used + 16 ≤ vec_len tail.block

-- the block that is put: its head, the bytes used, and zeros past them
abbrev pub block_of : Tail → List ℕ
block_of tail =
    padded (vec_len tail.block)
    (head_of tail.generation tail.index tail.used ++ take tail.used (drop 16 tail.block.items))

-- how many bytes the log has so far
abbrev pub position : Tail → ℕ
position tail = tail.index * (vec_len tail.block - 16) + tail.used

-- there is room for that many bytes more
abbrev pub HasRoom : Tail → ℕ → Type 0
HasRoom tail count = position tail + count ≤ tail.blocks * (vec_len tail.block - 16)

-- a full buffer is that of the last block
abbrev pub IsReady : Tail → Type 0
IsReady tail = tail.used + 16 ≡ vec_len tail.block → tail.index + 1 ≡ tail.blocks

-- the log once its first block was forced
abbrev pub log_during : LogNow → Bool → LogNow
log_during log begun = record log { behind = if begun then None else log.behind }

-- While bytes are put: `total` are those of all records with the one that is appended, `written`
-- those that are in the buffer or on the blocks.
pub record IsWriting (log : LogNow) (total written : List ℕ) (tail : Tail) (told : Bool)
    (seen : Seen) : Type 0 where
  pub allowed : IsAllowed log.geometry
  pub shape : IsOf log.geometry seen
  pub generation : tail.generation ≡ log.generation
  pub young : log.generation < 2 ^ 64
  pub buffer : IsTail log.geometry written tail
  pub opened : tail.begun ≡ false → tail.index ≡ open_index log
  pub behind : tail.begun ≡ false → (older : Content) × (log.behind ≡ Some older)
  pub stable : forced_length log ≤ length written
  pub some : 0 < length total
  pub most : length total ≤ log.geometry.log * room_of log.geometry
  pub begun : IsTrue told → (older : Content) → log.behind ≡ Some older
      → open_index log * room_of log.geometry ≤ forced_length log
  pub leaves : IsTrue told → Leaves (log_during log tail.begun) total seen.count seen.may
  pub current : IsTrue told → (index : ℕ) → index < tail.index
      → forced_length log < (index + 1) * room_of log.geometry
      → IsExact (room_of log.geometry) log.generation total index (block_at seen.cur (1 + index))

-- the blocks as they are read have all bytes from those that were forced on
abbrev pub IsCurrent : LogNow → List ℕ → Seen → Type 0
IsCurrent log total seen = (index : ℕ) → index * room_of log.geometry < length total
    → forced_length log < (index + 1) * room_of log.geometry
    → IsExact (room_of log.geometry) log.generation total index (block_at seen.cur (1 + index))

-- nothing but the content of the block changed
abbrev pub IsSame : Tail → Tail → Type 0
IsSame old new = (new.generation ≡ old.generation) × (new.blocks ≡ old.blocks)
    × (new.index ≡ old.index) × (new.used ≡ old.used) × (new.begun ≡ old.begun)

-- what no call of a log changes
abbrev pub IsKeptBy : Tail → Tail → Type 0
IsKeptBy old new = (new.generation ≡ old.generation) × (new.blocks ≡ old.blocks)
    × (vec_len new.block ≡ vec_len old.block)

-- what bytes change that are not put
abbrev pub IsPassedBy : Tail → Tail → Type 0
IsPassedBy old new = (new.generation ≡ old.generation) × (new.blocks ≡ old.blocks)
    × (vec_len new.block ≡ vec_len old.block) × (new.begun ≡ old.begun)

-- a buffer with no bytes, of the first block
pub record IsNew (geometry : Geometry) (generation : ℕ) (tail : Tail) : Type 0 where
  pub first : IsTail geometry [] tail
  pub sound : IsSound tail
  pub ready : tail.used ≡ 0
  pub same : tail.generation ≡ generation
  pub begun : tail.begun ≡ false

-- nothing but whether the log was begun changed
abbrev pub IsSettledOf : Tail → Tail → Type 0
IsSettledOf old new = (new.generation ≡ old.generation) × (new.blocks ≡ old.blocks)
    × (new.index ≡ old.index) × (new.used ≡ old.used) × (new.block ≡ old.block)

-- An image has the log before, or bytes of this generation: at least those that were forced, and a
-- prefix of all.
pub record HasBytes (log : LogNow) (total : List ℕ) (image : Image) : Type 0 where
  pub generation : generation_in (block_at image 1) ≡ log.generation
  pub first : index_in (block_at image 1) ≡ 0
  pub fits : Fits (room_of log.geometry) log.generation 0 log.geometry.log image
  pub prefix : IsPrefix (log_bytes log.geometry log.generation image) total
  pub least : forced_length log ≤ length (log_bytes log.geometry log.generation image)

abbrev pub IsFound : LogNow → List ℕ → Image → Type 0
IsFound log total image =
    ((older : Content) × (log.behind ≡ Some older) × Spells log.geometry image older)
    ⊎ HasBytes log total image

-- Calls put bytes of the log, up to these where they were Ok.
pub record Follows (told : Bool) (log : LogNow) (total written : List ℕ) (tail : Tail)
    (old new : Seen) {T : Type 0} (result : Result T DeviceFault) : Type 0 where
  pub writing : OnOk result (IsWriting log total written tail told new)
  pub touches : IsTrue told → Touches (InLog log.geometry) (IsFound log total) old new

-- The last of the bytes were put.
pub record Ends (told : Bool) (log : LogNow) (total : List ℕ) (tail : Tail) (old new : Seen)
    {T : Type 0} (result : Result T DeviceFault) : Type 0 where
  pub writing : OnOk result (IsWriting log total total tail told new)
  pub current : IsTrue told → OnOk result (IsCurrent log total new)
  pub touches : IsTrue told → Touches (InLog log.geometry) (IsFound log total) old new
