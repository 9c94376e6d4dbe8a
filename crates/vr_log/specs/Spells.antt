-- Which generation and records the blocks of a log spell. The log is blocks 1 to L of a volume. The
-- rules are this project's own.
use Rattle.std.specs.Prelude.{◌≡◌, ◌⊎◌, ℕ, zero, suc, ◌+◌, ◌^◌, ◌<◌, ◌≤◌, List, [], ◌++◌, Bool}
use Rattle.std.specs.Prelude.{true, nat_eq, nat_le, ◌&&◌, if◌then◌else◌}
use Rattle.vr_types.specs.Fields.{AreZeros}
use Rattle.vr_types.specs.Image.{Image, block_at}
use Rattle.vr_types.specs.LogSpace.{log_size}
use Rattle.vr_types.specs.declared.geometry.Geometry.{Geometry}
use Rattle.vr_log.specs.Content.{Content}
use Rattle.vr_log.specs.Live.{used_by}
use Rattle.vr_log.specs.LogBlock.{generation_in, index_in, used_in, payload_in, rest_in, is_next}
use Rattle.vr_log.specs.LogBlock.{room_of}
use Rattle.vr_log.specs.Records.{SpellsRecords}

-- The payload of a block that goes on with the log and has room for it, and where it is full what
-- the blocks after it have.
abbrev pub joined : Bool → Bool → Bool → List ℕ → List ℕ → List ℕ
joined next fits full payload rest = if next && fits then payload
    ++ (if full then rest else []) else []

-- The bytes of a log from the block of this index on, over at most `left` blocks: the payload of
-- each block that goes on with the generation, as long as each block before it is full.
abbrev pub bytes_from : ℕ → ℕ → ℕ → ℕ → Image → List ℕ
bytes_from room generation index zero image = []
bytes_from room generation index (suc left) image =
    let block = block_at image (1 + index) in
    joined (is_next generation index block) (nat_le (used_in block) room)
    (nat_eq (used_in block) room) (payload_in block)
    (bytes_from room generation (index + 1) left image)

-- Each block that goes on uses no more bytes than it has room for, and past them are zeros.
abbrev pub Fits : ℕ → ℕ → ℕ → ℕ → Image → Type 0
Fits room generation index zero image = Unit {0}
Fits room generation index (suc left) image =
    let block = block_at image (1 + index) in
    is_next generation index block ≡ true
    → (used_in block ≤ room) × AreZeros (rest_in block)
    × (used_in block ≡ room → Fits room generation (index + 1) left image)

-- the bytes of the whole log of this generation
abbrev pub log_bytes : Geometry → ℕ → Image → List ℕ
log_bytes geometry generation image = bytes_from (room_of geometry) generation 0 geometry.log image

-- Block 1 is the first of a generation, from 1 to 2^63 - 1, and the bytes from there on are those of
-- the records, beside which the log has room for the ends of the units that are live after them. So
-- each log that a crash may leave can be gone on with.
pub record SpellsLog (geometry : Geometry) (image : Image) (content : Content) : Type 0 where
  pub generation : generation_in (block_at image 1) ≡ content.generation
  pub some : 1 ≤ content.generation
  pub below : content.generation < 2 ^ 63
  pub first : index_in (block_at image 1) ≡ 0
  pub fits : Fits (room_of geometry) content.generation 0 geometry.log image
  pub records : SpellsRecords (log_bytes geometry content.generation image) content.records
  pub room : used_by content.records ≤ log_size geometry

-- a block 1 of zeros is a log of no records and no generation yet
pub record SpellsNone (image : Image) (content : Content) : Type 0 where
  pub zeros : AreZeros (block_at image 1)
  pub none : content ≡ record { generation = 0; records = [] }

-- The blocks 1 to L of the image spell this log.
abbrev pub Spells : Geometry → Image → Content → Type 0
Spells geometry image content = SpellsNone image content ⊎ SpellsLog geometry image content
