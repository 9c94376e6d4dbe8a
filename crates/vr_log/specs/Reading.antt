-- What the blocks of a log say while it is read, and when reading it fails. The rules are this
-- project's own.
use Rattle.std.specs.Prelude.{◌≡◌, ◌⊎◌, ℕ, ◌+◌, ◌-◌, ◌^◌, ◌<◌, ◌≤◌, List, ◌++◌, true, false, Option}
use Rattle.std.specs.Prelude.{Some, None, Result, OnOk, IfErr, IsErrOf}
use Rattle.vr_types.specs.Faults.{Faults}
use Rattle.vr_types.specs.Fields.{AreZeros}
use Rattle.vr_types.specs.Image.{Block, Image, block_at}
use Rattle.vr_types.specs.declared.fault.DeviceFault.TheVariants.{Read, Write}
use Rattle.vr_types.specs.declared.geometry.Geometry.{Geometry}
use Rattle.vr_log.specs.declared.read_no.LogReadNo.{LogReadNo}
use Rattle.vr_log.specs.declared.read_no.LogReadNo.TheVariants.{Damaged, Fault, Memory}
use Rattle.vr_log.specs.declared.gathering.First.{First}
use Rattle.vr_log.specs.declared.gathering.First.TheVariants.{Zeros, Begins, Bad}
use Rattle.vr_log.specs.declared.gathering.Next.{Next}
use Rattle.vr_log.specs.declared.gathering.Next.TheVariants.{Full, Last, Wrong}
use Rattle.vr_log.specs.Damage.{IsFirst, IsBadFirst, IsFull, IsBadNext, IsDamagedAt}
use Rattle.vr_log.specs.LogBlock.{used_in, payload_in, rest_in, is_next, room_of}
use Rattle.vr_log.specs.Spells.{Fits, bytes_from, log_bytes}

-- what block 1 says
abbrev pub IsFirstFound : Block → First → Type 0
IsFirstFound block Zeros = AreZeros block
IsFirstFound block (Begins generation) = IsFirst block generation
IsFirstFound block Bad = IsBadFirst block

-- a generation that a log may have, where it is one
abbrev pub IsYoung : First → Type 0
IsYoung Zeros = Unit {0}
IsYoung (Begins generation) = generation < 2 ^ 63
IsYoung Bad = Unit {0}

-- the last block of the log: it goes on and isn't full, with zeros past its bytes, or it doesn't go
-- on
pub record IsLast (room generation index : ℕ) (block : Block) (old new : List ℕ) : Type 0 where
  pub is : ((is_next generation index block ≡ false) × (new ≡ old))
      ⊎ ((is_next generation index block ≡ true) × (used_in block < room)
      × AreZeros (rest_in block) × (new ≡ old ++ payload_in block))

-- a block that goes on, but says more bytes than it has room for, or has others than zeros past
-- them
pub record IsWrong (room generation index : ℕ) (block : Block) (old new : List ℕ) : Type 0 where
  pub next : is_next generation index block ≡ true
  pub is : ((room < used_in block) × (new ≡ old))
      ⊎ ((used_in block < room) × (AreZeros (rest_in block) → ⊥) × (new ≡ old ++ payload_in block))

-- what a block says, and the bytes with those of it
abbrev pub IsNextFound : ℕ → ℕ → ℕ → Block → List ℕ → List ℕ → Next → Type 0
IsNextFound room generation index block old new Full = IsFull room generation index block
    × (new ≡ old ++ payload_in block)
IsNextFound room generation index block old new Last = IsLast room generation index block old new
IsNextFound room generation index block old new Wrong =
    IsWrong room generation index block old new

-- The blocks before this index are full, and these are their bytes.
pub record IsGatheredTo (geometry : Geometry) (generation : ℕ) (image : Image) (index : ℕ)
    (bytes : List ℕ) : Type 0 where
  pub full : (i : ℕ) → i < index
      → IsFull (room_of geometry) generation i (block_at image (1 + i))
  pub rest : log_bytes geometry generation image ≡ bytes
      ++ bytes_from (room_of geometry) generation index (geometry.log - index) image
  pub fits : Fits (room_of geometry) generation index (geometry.log - index) image
      → Fits (room_of geometry) generation 0 geometry.log image

-- No block is wrong, or the one of this index is the first that is.
abbrev pub IsEnd : Geometry → ℕ → Image → Option ℕ → Type 0
IsEnd geometry generation image None = Fits (room_of geometry) generation 0 geometry.log image
IsEnd geometry generation image (Some index) = IsBadNext geometry generation image index

-- these are all bytes of the log
pub record IsGathered (geometry : Geometry) (generation : ℕ) (image : Image) (bytes : List ℕ)
    (wrong : Option ℕ) : Type 0 where
  pub bytes_is : log_bytes geometry generation image ≡ bytes
  pub end : IsEnd geometry generation image wrong

-- the blocks spell no log, and this is the block to be shown
abbrev pub IsDamageOf : Geometry → Image → LogReadNo → Type 0
IsDamageOf geometry image (Damaged block) = IsDamagedAt geometry image block
IsDamageOf geometry image (Fault fault) = Unit {0}
IsDamageOf geometry image Memory = Unit {0}

-- an answer that speaks of no damage
abbrev pub IsNoDamage : LogReadNo → Type 0
IsNoDamage (Damaged block) = ⊥
IsNoDamage (Fault fault) = Unit {0}
IsNoDamage Memory = Unit {0}

-- an answer that no device is the cause of
abbrev pub IsOwnNo : LogReadNo → Type 0
IsOwnNo (Damaged block) = Unit {0}
IsOwnNo (Fault fault) = ⊥
IsOwnNo Memory = Unit {0}

-- Neither count falls, each fault is one that its count rose for, and neither rose where there is
-- none. A call ends with its first fault: where that is of a read, no write failed.
pub record HasReadCause {T : Type 0} (before now : Faults) (result : Result T LogReadNo) : Type 0
  where
    pub reads : before.reads ≤ now.reads
    pub writes : before.writes ≤ now.writes
    pub ok : OnOk result (now ≡ before)
    pub own : IfErr result (λ no. IsOwnNo no → now ≡ before)
    pub read : IsErrOf result (Fault Read) → before.reads < now.reads
    pub write : IsErrOf result (Fault Write) → before.writes < now.writes
    pub unwritten : IsErrOf result (Fault Read) → now.writes ≡ before.writes
