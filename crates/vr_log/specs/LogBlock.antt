-- A block of the log: 8 bytes of generation, 4 of the block's index, which is 0 in the first, 4 of
-- the number of bytes used, from byte 16 on these bytes, and zeros past them. The fields are this
-- project's own.
use Rattle.std.specs.Prelude.{ℕ, ◌+◌, ◌-◌, List, ◌++◌, take, drop, Bool, nat_eq, ◌&&◌}
use Rattle.vr_types.specs.Fields.{four, eight, four_at, eight_at}
use Rattle.vr_types.specs.Image.{Block}
use Rattle.vr_types.specs.declared.geometry.Geometry.{Geometry}

abbrev pub generation_in : Block → ℕ
generation_in block = eight_at 0 block

abbrev pub index_in : Block → ℕ
index_in block = four_at 8 block

abbrev pub used_in : Block → ℕ
used_in block = four_at 12 block

-- the bytes of records in the block
unfoldable pub payload_in : Block → List ℕ
payload_in block = take (used_in block) (drop 16 block)

-- the bytes past those used
abbrev pub rest_in : Block → List ℕ
rest_in block = drop (16 + used_in block) block

-- how many bytes of records a block has room for
abbrev pub room_of : Geometry → ℕ
room_of geometry = geometry.size - 16

-- the block has the generation and the index with which a log goes on
unfoldable pub is_next : ℕ → ℕ → Block → Bool
is_next generation index block = nat_eq (generation_in block) generation
    && nat_eq (index_in block) index

-- the 16 bytes before the records
unfoldable pub head_of : ℕ → ℕ → ℕ → List ℕ
head_of generation index used = eight generation ++ four index ++ four used
