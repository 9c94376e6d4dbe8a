-- What block 0 says of a volume, and when a header is not taken. The rules are this project's own.
use Rattle.std.specs.Prelude.{◌≡◌, ◌≢◌, ◌<◌, ◌≤◌, ℕ, Option, Some, None, Result, OnOk, IfErr}
use Rattle.std.specs.Prelude.{IsErrOf, ◌&&◌, nat_le, if◌then◌else◌, length, take, bytes_eq}
use Rattle.vr_types.specs.Faults.{Faults}
use Rattle.vr_types.specs.Fields.{four_at}
use Rattle.vr_types.specs.Geometry.{IsAllowed}
use Rattle.vr_types.specs.Image.{Block}
use Rattle.vr_types.specs.declared.geometry.Geometry.{Geometry}
use Rattle.vr_attach.specs.Header.{header_block, mark}
use Rattle.vr_mount.specs.declared.no.HeaderNo.{HeaderNo}
use Rattle.vr_mount.specs.declared.no.HeaderNo.TheVariants.{Damaged, Version, Read, Write}

-- the version that a block states, where it begins with the mark and has room for the field
abbrev pub version_in : Block → Option ℕ
version_in block = if nat_le 8 (length block) && bytes_eq (take 4 block) mark
    then Some (four_at 4 block) else None

-- the shape that the block of a header states, on this many blocks
abbrev pub stated : ℕ → Block → Geometry
stated count block = record {
  size = length block;
  blocks = count;
  log = four_at 16 block;
  area = four_at 20 block;
}

-- The block is the header of a volume of this number and shape, on this many blocks of this size.
pub record IsHeaderOf (count size number : ℕ) (block : Block) (geometry : Geometry) : Type 0 where
  pub allowed : IsAllowed geometry
  pub blocks_are : geometry.blocks ≡ count
  pub size_is : geometry.size ≡ size
  pub bytes : block ≡ header_block geometry number

-- The block is no header of a volume of this number, of any shape, and states no other version.
pub record IsDamagedHeader (count size number : ℕ) (block : Block) : Type 0 where
  pub none : (geometry : Geometry) → IsHeaderOf count size number block geometry → ⊥
  pub version : 0 < count → (found : ℕ) → version_in block ≡ Some found → found ≡ 1

-- why it is not taken
abbrev pub IsRefusal : ℕ → ℕ → ℕ → Block → HeaderNo → Type 0
IsRefusal count size number block Damaged = IsDamagedHeader count size number block
IsRefusal count size number block (Version found) = (version_in block ≡ Some found) × (found ≢ 1)
IsRefusal count size number block Read = Unit {0}
IsRefusal count size number block Write = Unit {0}

-- an answer that no device is the cause of
abbrev pub IsOwnNo : HeaderNo → Type 0
IsOwnNo Damaged = Unit {0}
IsOwnNo (Version found) = Unit {0}
IsOwnNo Read = ⊥
IsOwnNo Write = ⊥

-- Neither count falls, each fault is one that its count rose for, and neither rose where there is
-- none.
pub record HasHeaderCause {T : Type 0} (before now : Faults) (result : Result T HeaderNo) : Type 0
  where
    pub reads : before.reads ≤ now.reads
    pub writes : before.writes ≤ now.writes
    pub ok : OnOk result (now ≡ before)
    pub own : IfErr result (λ no. IsOwnNo no → now ≡ before)
    pub read : IsErrOf result Read → before.reads < now.reads
    pub write : IsErrOf result Write → before.writes < now.writes
