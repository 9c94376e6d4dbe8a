-- Where the blocks of a log spell none, and the first block that is misspelled. Written over bytes,
-- apart from the reader. The rules are this project's own.
use Rattle.std.specs.Prelude.{◌≡◌, ◌≢◌, ◌⊎◌, ℕ, ◌+◌, ◌/◌, ◌^◌, ◌<◌, ◌≤◌, List, ◌++◌, length, All}
use Rattle.std.specs.Prelude.{true}
use Rattle.vr_types.specs.Fields.{AreZeros}
use Rattle.vr_types.specs.Image.{Block, Image, block_at}
use Rattle.vr_types.specs.LogSpace.{log_size}
use Rattle.vr_types.specs.declared.geometry.Geometry.{Geometry}
use Rattle.vr_log.specs.declared.record.LogRecord.{LogRecord}
use Rattle.vr_log.specs.Live.{used_by}
use Rattle.vr_log.specs.LogBlock.{generation_in, index_in, used_in, rest_in, is_next, room_of}
use Rattle.vr_log.specs.Records.{HasFields, record_bytes, bytes_of, IsCut, SpellsRecords}
use Rattle.vr_log.specs.Spells.{Fits, log_bytes}

-- The bytes begin with no record, and are as many as theirs needs by its fields that are there.
pub record IsMisspelled (bytes : List ℕ) : Type 0 where
  pub no_record : (rec : LogRecord) (rest : List ℕ) → HasFields rec
      → bytes ≡ record_bytes rec ++ rest → ⊥
  pub no_cut : IsCut bytes → ⊥

-- a block 1 that begins this generation
pub record IsFirst (block : Block) (number : ℕ) : Type 0 where
  pub generation : generation_in block ≡ number
  pub some : 1 ≤ number
  pub below : number < 2 ^ 63
  pub first : index_in block ≡ 0

-- a block 1 that isn't zeros, and begins no generation
pub record IsBadFirst (block : Block) : Type 0 where
  pub some : AreZeros block → ⊥
  pub bad : (generation_in block ≡ 0) ⊎ (2 ^ 63 ≤ generation_in block) ⊎ (index_in block ≢ 0)

-- the block goes on with the generation, is full, and has nothing but zeros past that
pub record IsFull (room generation index : ℕ) (block : Block) : Type 0 where
  pub next : is_next generation index block ≡ true
  pub used : used_in block ≡ room
  pub zeros : AreZeros (rest_in block)

-- The blocks before this index are full, and the block goes on, but says that it uses more bytes
-- than it has room for, or has a byte past them that isn't zero.
pub record IsBadNext (geometry : Geometry) (generation : ℕ) (image : Image) (index : ℕ) : Type 0
  where
    pub within : index < geometry.log
    pub full : (i : ℕ) → i < index
        → IsFull (room_of geometry) generation i (block_at image (1 + i))
    pub next : is_next generation index (block_at image (1 + index)) ≡ true
    pub bad : (room_of geometry < used_in (block_at image (1 + index)))
        ⊎ (AreZeros (rest_in (block_at image (1 + index))) → ⊥)

-- Such a block, where the bytes of the log are those of records.
pub record IsBadBlock (geometry : Geometry) (generation : ℕ) (image : Image) (n : ℕ) : Type 0 where
  pub index : ℕ
  pub block : n ≡ 1 + index
  pub bad : IsBadNext geometry generation image index
  pub records : List LogRecord
  pub spelled : SpellsRecords (log_bytes geometry generation image) records

-- After the bytes of these records come some that are misspelled, and this is their block.
pub record IsBadRecord (geometry : Geometry) (generation : ℕ) (image : Image) (n : ℕ) : Type 0 where
  pub records : List LogRecord
  pub rest : List ℕ
  pub fields : All HasFields records
  pub bytes : log_bytes geometry generation image ≡ bytes_of records ++ rest
  pub misspelled : IsMisspelled rest
  pub block : n ≡ 1 + length (bytes_of records) / room_of geometry

-- The blocks spell records, beside which there is no room for the ends of the units that are live
-- after them. Block 1 is shown.
pub record IsCrowded (geometry : Geometry) (generation : ℕ) (image : Image) (n : ℕ) : Type 0 where
  pub fits : Fits (room_of geometry) generation 0 geometry.log image
  pub records : List LogRecord
  pub spelled : SpellsRecords (log_bytes geometry generation image) records
  pub over : log_size geometry < used_by records
  pub block : n ≡ 1

-- Block n is the first of a generation's log that is misspelled.
pub record IsBadLog (geometry : Geometry) (image : Image) (n : ℕ) : Type 0 where
  pub generation : ℕ
  pub first : IsFirst (block_at image 1) generation
  pub bad : IsBadBlock geometry generation image n ⊎ IsBadRecord geometry generation image n
      ⊎ IsCrowded geometry generation image n

-- Blocks 1 to L of the image spell no log, and block n is the first that is misspelled.
abbrev pub IsDamagedAt : Geometry → Image → ℕ → Type 0
IsDamagedAt geometry image n = ((n ≡ 1) × IsBadFirst (block_at image 1))
    ⊎ IsBadLog geometry image n
