-- Buffers for the blocks of a device, the one that was used last first. The rules are this
-- project's own.
use Rattle.std.specs.Prelude.{◌≡◌, ◌==◌, ◌+◌, ◌-◌, ◌∷◌, ◌++◌, ℕ, Bool, IsTrue, true, false, cond}
use Rattle.std.specs.Prelude.{List, Option, None, Some, All, length, take, drop, slice_set, position}
use Rattle.vr_types.specs.Image.{Block, block_at}
use Rattle.vr_types.specs.Seen.{Seen}
use Rattle.vr_recent.specs.declared.buffer.Buffer.{Buffer}

abbrev pub is_number : ℕ → Option ℕ → Bool
is_number n None = false
is_number n (Some number) = number == n

-- whether a buffer holds block n
abbrev pub holds : ℕ → Buffer → Bool
holds n buffer = is_number n buffer.number

abbrev pub HoldsBlock : ℕ → Buffer → Type 0
HoldsBlock n buffer = buffer.number ≡ Some n

abbrev pub HoldsNone : Buffer → Type 0
HoldsNone buffer = buffer.number ≡ None

-- a buffer holds block n, and these are its bytes
pub record HasBlock (n : ℕ) (bytes : Block) (buffer : Buffer) : Type 0 where
  pub number_is : buffer.number ≡ Some n
  pub bytes_are : buffer.bytes.items ≡ bytes

-- A buffer of a device: it is as long as a block, and where the device reports its contents, a
-- block that it holds is as the device reads it.
pub record IsOf (tells : Bool) (seen : Seen) (buffer : Buffer) : Type 0 where
  pub length_is : length buffer.bytes.items ≡ seen.size
  pub content : IsTrue tells → (n : ℕ) → buffer.number ≡ Some n
      → buffer.bytes.items ≡ block_at seen.cur n

abbrev pub AreOf : Bool → Seen → List Buffer → Type 0
AreOf tells seen = All (IsOf tells seen)

-- sixteen buffers of a device
pub record IsKept (tells : Bool) (seen : Seen) (buffers : List Buffer) : Type 0 where
  pub sixteen : length buffers ≡ 16
  pub of : AreOf tells seen buffers

-- the place of the first buffer that holds block n
abbrev pub place_of : ℕ → List Buffer → Option ℕ
place_of n = position (holds n)

abbrev pub place_or : ℕ → Option ℕ → ℕ
place_or last None = last
place_or last (Some place) = place

-- the place of that buffer, or where there is none, of the one that was used least recently
abbrev pub place_for : ℕ → List Buffer → ℕ
place_for n buffers = place_or (length buffers - 1) (place_of n buffers)

-- the buffers but for the one at this place, in their order
abbrev pub without : ℕ → List Buffer → List Buffer
without place buffers = take place buffers ++ drop (place + 1) buffers

-- the buffer at this place is the first, and the others keep their order
abbrev pub fronted : ℕ → List Buffer → List Buffer
fronted place buffers = drop place (take (place + 1) buffers) ++ without place buffers

-- the buffer that stood at this place is the first, and has P; the others are as they were
pub record Fronts (place : ℕ) (P : Buffer → Type 0) (old new : List Buffer) : Type 0 where
  pub first : Buffer
  pub has : P first
  pub split : new ≡ first ∷ without place old

-- the buffer at this place has P; the others are as they were
pub record Sets (place : ℕ) (P : Buffer → Type 0) (old new : List Buffer) : Type 0 where
  pub buffer : Buffer
  pub has : P buffer
  pub is : new ≡ slice_set old place buffer

-- a buffer that holds block n no longer
abbrev pub forgot : ℕ → Buffer → Buffer
forgot n buffer = cond (holds n buffer) (record buffer { number = None }) buffer

-- a buffer of this many bytes, which holds no block
pub record IsEmpty (size : ℕ) (buffer : Buffer) : Type 0 where
  pub none : buffer.number ≡ None
  pub length_is : length buffer.bytes.items ≡ size
