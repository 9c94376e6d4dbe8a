-- What the places of a table hold. The rules are this project's own.
use Rattle.std.specs.Prelude.{◌≡◌, ◌≤◌, ◌==◌, ◌&&◌, ◌++◌, ℕ, Bool, true, false, not, List, [], ◌∷◌}
use Rattle.std.specs.Prelude.{take, length, count_by, replicate}
use Rattle.std.specs.List.{AllByRecursion, flat_map}
use Rattle.vr_types.specs.Image.{Block}
use Rattle.vr_frames.specs.declared.shared.Pool.{Pool}
use Rattle.vr_frames.specs.Frames.{number_of, bytes_of, IsFrameOf}
use Rattle.vr_resident.specs.Held.{Held, with_last}
use Rattle.vr_resident.specs.declared.place.Buffer.{Buffer}
use Rattle.vr_resident.specs.declared.place.Buffer.TheVariants.{Own, Shared}
use Rattle.vr_resident.specs.declared.place.Place.{Place}
use Rattle.vr_resident.specs.declared.place.Place.TheVariants.{Bare, Empty, Taken}
use Rattle.vr_resident.specs.declared.place.Sought.{Sought}
use Rattle.vr_resident.specs.declared.place.Sought.TheVariants as sought

-- a place of the table: its number, and what it holds
abbrev pub Entry : Type 0
Entry = ℕ × Place

-- the bytes of a buffer
abbrev pub bytes_in : Buffer → List ℕ
bytes_in (Own bytes) = bytes.items
bytes_in (Shared frame) = bytes_of frame

-- the block in a buffer: its first `size` bytes; a buffer that were too short would end in zeros
abbrev pub block_in : ℕ → Buffer → Block
block_in size buffer = take size (bytes_in buffer ++ replicate size 0)

-- the number of the frame, where the buffer is one of the pool's
abbrev pub numbers_in : Buffer → List ℕ
numbers_in (Own bytes) = []
numbers_in (Shared frame) = number_of frame ∷ []

-- a frame of the pool, or a buffer of its own, with room for a block
abbrev pub IsBufferOf : Pool → ℕ → Buffer → Type 0
IsBufferOf pool size (Own bytes) = size ≤ length bytes.items
IsBufferOf pool size (Shared frame) = IsFrameOf pool frame × (size ≤ length (bytes_of frame))

abbrev pub is_shared : Buffer → Bool
is_shared (Own bytes) = false
is_shared (Shared frame) = true

-- the buffer of a place, the block that it holds
abbrev pub buffers_at : Place → List Buffer
buffers_at Bare = []
buffers_at (Empty buffer) = buffer ∷ []
buffers_at (Taken block changed buffer) = buffer ∷ []

abbrev pub held_at : ℕ → Place → List Held
held_at size Bare = []
held_at size (Empty buffer) = []
held_at size (Taken block changed buffer) =
    record { block = block; bytes = block_in size buffer; changed = changed } ∷ []

-- the blocks held, most recently used first; the buffers; the numbers of the pool's frames
abbrev pub held_of : ℕ → List Entry → List Held
held_of size = flat_map (λ e. held_at size e.1)

abbrev pub buffers_of : List Entry → List Buffer
buffers_of = flat_map (λ e. buffers_at e.1)

abbrev pub numbers_of : List Entry → List ℕ
numbers_of entries = flat_map numbers_in (buffers_of entries)

-- whether a place is one that is looked for
abbrev pub fits : Sought → Place → Bool
fits (sought.Block n) (Taken block changed buffer) = block == n
fits (sought.ChangedBlock n) (Taken block changed buffer) = changed && (block == n)
fits sought.Changed (Taken block changed buffer) = changed
fits sought.Held (Taken block changed buffer) = true
fits sought.Empty (Empty buffer) = true
fits sought.Bare Bare = true
fits sought.Free (Empty buffer) = is_shared buffer
fits sought.Free (Taken block changed buffer) = not changed && is_shared buffer
fits sought.Shared (Empty buffer) = is_shared buffer
fits sought.Shared (Taken block changed buffer) = is_shared buffer
fits _ _ = false

abbrev pub is_at : Sought → Entry → Bool
is_at which e = fits which e.1

-- none of these places is one
abbrev pub AreNone : Sought → List Entry → Type 0
AreNone which = AllByRecursion (λ e. is_at which e ≡ false)

-- the place is the last one, which was used least recently
pub record IsLast (which : Sought) (entries : List Entry) (number : ℕ) : Type 0 where
  pub place : Place
  pub before : List Entry
  pub after : List Entry
  pub split : entries ≡ before ++ (number, place) ∷ after
  pub it_fits : fits which place ≡ true
  pub none_after : AreNone which after

-- how many such places there are
abbrev pub count_of : Sought → List Entry → ℕ
count_of which = count_by (is_at which)

-- the `most` least recently used places whose frames may go back to the pool, or all where there
-- are fewer, are bare
abbrev pub gave : ℕ → List Entry → List Entry
gave = with_last (is_at sought.Free) (λ e. (e.0, Bare))
