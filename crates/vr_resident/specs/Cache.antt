-- A cache of blocks as clauses see it, and what each call does to it. The rules are this project's
-- own.
use Rattle.std.specs.Prelude.{◌≡◌, ◌⊎◌, ◌<◌, ◌≤◌, ◌+◌, ℕ, Bool, true, false, List, [], ◌∷◌, ◌++◌}
use Rattle.std.specs.Prelude.{length}
use Rattle.std.specs.List.{AllByRecursion}
use Rattle.std.specs.Arc.{arc_value}
use Rattle.vr_types.specs.Image.{Block}
use Rattle.vr_types.specs.Seen.{Seen}
use Rattle.std.specs.Prelude.{Result, OnOk, IfOk, IsErrOf}
use Rattle.std.specs.Borrow.{Bor}
use Rattle.vr_types.specs.declared.fault.DeviceFault.{DeviceFault}
use Rattle.vr_types.specs.declared.fault.DeviceFault.TheVariants.{Read, Write}
use Rattle.vr_frames.specs.declared.shared.Pool.{Pool}
use Rattle.vr_frames.specs.declared.seat.FrameSeat.{FrameSeat}
use Rattle.vr_frames.specs.declared.frame.Frame.{Frame}
use Rattle.vr_frames.specs.Frames.{IsSeatOf, IsSameSeat, IsFrameOf, FindsAllOut, Gets, parts_of}
use Rattle.vr_frames.specs.Frames.{frame_size}
use Rattle.vr_frames.specs.Keeper.{HoldsEach, others_of}
use Rattle.vr_resident.specs.Held.{Held, IsOther, IsHeld, IsBetween, forced, flushed}
use Rattle.vr_resident.specs.Places.{Entry, block_in, IsBufferOf, buffers_of, numbers_of, held_of}
use Rattle.vr_resident.specs.Places.{count_of, AreNone}
use Rattle.vr_resident.specs.declared.place.Buffer.{Buffer}
use Rattle.vr_resident.specs.declared.place.Buffer.TheVariants.{Shared}
use Rattle.vr_resident.specs.declared.place.Place.{Place}
use Rattle.vr_resident.specs.declared.place.Place.TheVariants.{Bare, Empty, Taken}
use Rattle.vr_resident.specs.declared.place.Sought.TheVariants as sought
use Rattle.lru.specs.LruCache.{lru_cache}
use Rattle.vr_resident.specs.declared.frames.Frames.{Frames}

-- the places, the pool and the blocks held
abbrev pub entries_of : Frames → List Entry
entries_of frames = frames.table.entries

abbrev pub pool_of : Frames → Pool
pool_of frames = arc_value frames.pool

abbrev pub held_by : Frames → List Held
held_by frames = held_of frames.size frames.table.entries

-- the same with other places
abbrev pub with_entries : Frames → List Entry → Frames
with_entries frames entries = record frames { table = lru_cache entries frames.table.cap }

-- the empty frames, and the places without a frame
abbrev pub empty_count : Frames → ℕ
empty_count frames = count_of sought.Empty frames.table.entries

abbrev pub bare_count : Frames → ℕ
bare_count frames = count_of sought.Bare frames.table.entries

-- the frames that its seat holds beside these
abbrev pub others : Frames → List ℕ
others frames = others_of frames.seat (numbers_of frames.table.entries)

-- What always holds of the frames: each is one that the seat took of the pool, once, and has room
-- for a block; and there are at most 64 places.
pub record IsSeated (frames : Frames) : Type 0 where
  pub cap_is : frames.table.cap ≡ 64
  pub long : frames.size ≤ frame_size (pool_of frames)
  pub seat_of : IsSeatOf (pool_of frames) frames.seat
  pub each_is : AllByRecursion (IsBufferOf (pool_of frames) frames.size)
      (buffers_of (entries_of frames))
  pub holds : HoldsEach frames.seat (numbers_of (entries_of frames))

-- And there are at least 16.
pub record IsFramed (frames : Frames) : Type 0 where
  pub seated : IsSeated frames
  pub sixteen : 16 ≤ length (buffers_of (entries_of frames))

-- What always holds of them over a device.
pub record IsKept (tells : Bool) (device : Seen) (frames : Frames) : Type 0 where
  pub framed : IsFramed frames
  pub size_is : frames.size ≡ device.size
  pub held_is : IsHeld tells device (held_by frames)

-- It is the same seat of the same pool, and the frames that it holds beside these are the same.
pub record KeepsSeat (old new : Frames) : Type 0 where
  pub pool_same : new.pool ≡ old.pool
  pub size_same : new.size ≡ old.size
  pub same : IsSameSeat old.seat new.seat
  pub parts : parts_of new.seat ≡ parts_of old.seat
  pub others_same : others new ≡ others old

-- A bare place got a further frame of the pool: there was no empty one.
pub record GetsFrame (old new : Frames) : Type 0 where
  pub none_empty : empty_count old ≡ 0
  pub one_empty : empty_count new ≡ 1
  pub bare : bare_count new + 1 ≡ bare_count old
  pub held : held_by new ≡ held_by old
  pub frame : Frame
  pub got : Gets old.seat frame new.seat

-- The block of the last place that holds one left its frame, which is empty.
pub record Leaves (number : ℕ) (old new : Frames) : Type 0 where
  pub before : List Entry
  pub after : List Entry
  pub block : ℕ
  pub changed : Bool
  pub buffer : Buffer
  pub was : entries_of old ≡ before ++ (number, Taken block changed buffer) ∷ after
  pub is : new ≡ with_entries old (before ++ (number, Empty buffer) ∷ after)
  pub none_after : AreNone sought.Held after

-- The changed block of a place is written.
pub record IsWritten (before after : List Entry) (number : ℕ) (place : Place) (old new : Frames) :
    Type 0 where
  pub block : ℕ
  pub buffer : Buffer
  pub was : place ≡ Taken block true buffer
  pub is : new ≡ with_entries old (before ++ (number, Taken block false buffer) ∷ after)

-- the changed block of that place is written, wherever the table is cut there
abbrev pub WritesAt : ℕ → Frames → Frames → Type 0
WritesAt number old new = (before after : List Entry) (place : Place)
    → entries_of old ≡ before ++ (number, place) ∷ after
    → IsWritten before after number place old new

-- The block that was used least recently left: there was no empty frame, and either no place was
-- bare or the pool had no frame home.
pub record LastLeaves (old new : Frames) : Type 0 where
  pub none_empty : empty_count old ≡ 0
  pub one_empty : empty_count new ≡ 1
  pub bare : bare_count new ≡ bare_count old
  pub last : Held
  pub held : held_by old ≡ held_by new ++ last ∷ []
  pub no_other : (bare_count old ≡ 0) ⊎ FindsAllOut (pool_of old) old.seat new.seat

-- There is room for one more block.
abbrev pub MakesRoom : Frames → Frames → Type 0
MakesRoom old new =
    ((0 < empty_count old) × (new ≡ old)) ⊎ (GetsFrame old new ⊎ LastLeaves old new)

-- the frames with another table and seat
abbrev pub reseated : Frames → List Entry → FrameSeat → Frames
reseated frames entries seat =
    record frames { table = lru_cache entries frames.table.cap; seat = seat }

-- A bare place got a further frame of the pool.
pub record TakesFrame (old new : Frames) : Type 0 where
  pub number : ℕ
  pub before : List Entry
  pub after : List Entry
  pub frame : Frame
  pub was : entries_of old ≡ before ++ (number, Bare) ∷ after
  pub is : new ≡ reseated old (before ++ (number, Empty (Shared frame)) ∷ after) new.seat
  pub of_pool : IsFrameOf (pool_of old) frame
  pub got : Gets old.seat frame new.seat

-- A place is bare, wherever the table is cut there, and its frame went back to the pool.
abbrev pub GivesAt : ℕ → Frames → Frames → Type 0
GivesAt number old new = (before after : List Entry) (place : Place)
    → entries_of old ≡ before ++ (number, place) ∷ after
    → new.table ≡ lru_cache (before ++ (number, Bare) ∷ after) old.table.cap

-- No frame was got: no place is bare, or the pool had none home.
abbrev pub GetsNone : Frames → Frames → Type 0
GetsNone old new =
    (new.table ≡ old.table) × ((bare_count old ≡ 0) ⊎ FindsAllOut (pool_of old) old.seat new.seat)

-- A block comes in, as the one that was used most recently.
pub record Enters (h : Held) (old new : Frames) : Type 0 where
  pub first : held_by new ≡ h ∷ held_by old
  pub one_less : empty_count new + 1 ≡ empty_count old
  pub bare : bare_count new ≡ bare_count old

-- The same blocks are held, and as many frames are empty and places bare.
pub record IsSameCache (old new : Frames) : Type 0 where
  pub held : held_by new ≡ held_by old
  pub empty : empty_count new ≡ empty_count old
  pub bare : bare_count new ≡ bare_count old

-- the block, as it is put
abbrev pub put_as : ℕ → Block → Held
put_as n bytes = record { block = n; bytes = bytes; changed = true }

-- A block that was held as `was` is now the first, as `h`; the others keep their order.
pub record Hits (was h : Held) (old new : Frames) : Type 0 where
  pub rest : List Held
  pub between : IsBetween was (held_by old) rest
  pub first : held_by new ≡ h ∷ rest
  pub empty : empty_count new ≡ empty_count old
  pub bare : bare_count new ≡ bare_count old

-- A block that was not held came in, once there was room for it.
pub record Misses (h : Held) (old new : Frames) : Type 0 where
  pub not_held : IsOther h.block (held_by old)
  pub with_room : Frames
  pub room : MakesRoom old with_room
  pub enters : Enters h with_room new

-- The block is now the first, and what it was before stays where it was held.
abbrev pub GetsBlock : ℕ → Frames → Frames → Type 0
GetsBlock n old new =
    (h : Held) × (h.block ≡ n) × (Hits h h old new ⊎ ((h.changed ≡ false) × Misses h old new))

-- The block is now the first, with these bytes, and changed.
abbrev pub PutsBlock : ℕ → Block → Frames → Frames → Type 0
PutsBlock n bytes old new =
    ((was : Held) × (was.block ≡ n) × Hits was (put_as n bytes) old new)
    ⊎ Misses (put_as n bytes) old new

-- A read failed: room was made for the block, and is empty.
abbrev pub StaysEmpty : Frames → Frames → Type 0
StaysEmpty old new = (with_room : Frames) × MakesRoom old with_room × IsSameCache with_room new

-- the first place holds block n
pub record IsFirst (n : ℕ) (frames : Frames) : Type 0 where
  pub number : ℕ
  pub changed : Bool
  pub buffer : Buffer
  pub rest : List Entry
  pub split : entries_of frames ≡ (number, Taken n changed buffer) ∷ rest

-- A block that was not held was read into an empty frame.
pub record ReadsIn (n : ℕ) (old new : Frames) : Type 0 where
  pub h : Held
  pub it_is : h.block ≡ n
  pub unchanged : h.changed ≡ false
  pub not_held : IsOther n (held_by old)
  pub enters : Enters h old new
  pub first : IsFirst n new

-- A block was put into the frame that holds it, or into an empty one.
abbrev pub FillsIn : ℕ → Block → Frames → Frames → Type 0
FillsIn n bytes old new =
    ((was : Held) × (was.block ≡ n) × Hits was (put_as n bytes) old new)
    ⊎ (IsOther n (held_by old) × Enters (put_as n bytes) old new)

-- the place holds the block, or is empty where the block isn't held
pub record CanFill (n : ℕ) (frames : Frames) (number : ℕ) : Type 0 where
  pub place : Place
  pub before : List Entry
  pub after : List Entry
  pub split : entries_of frames ≡ before ++ (number, place) ∷ after
  pub buffer : Buffer
  pub kind : ((place ≡ Empty buffer) × IsOther n (held_by frames))
      ⊎ ((changed : Bool) × (place ≡ Taken n changed buffer))

-- The listed blocks are written, and the cache is as it was otherwise.
pub record IsForced (listed : List ℕ) (old new : Frames) : Type 0 where
  pub held : held_by new ≡ forced listed (held_by old)
  pub empty : empty_count new ≡ empty_count old
  pub bare : bare_count new ≡ bare_count old

-- So many changed blocks are written, the least recently used first.
pub record IsFlushed (most : ℕ) (old new : Frames) : Type 0 where
  pub held : held_by new ≡ flushed most (held_by old)
  pub empty : empty_count new ≡ empty_count old
  pub bare : bare_count new ≡ bare_count old

-- the bytes are those of block n in the first place
abbrev pub IsBlockOf : ℕ → Frames → Block → Type 0
IsBlockOf n frames bytes = (number : ℕ) (changed : Bool) (buffer : Buffer) (rest : List Entry)
    → entries_of frames ≡ (number, Taken n changed buffer) ∷ rest
    → bytes ≡ block_in frames.size buffer

-- the first of the blocks held is block n, with these bytes
pub record Shows (n : ℕ) (bytes : Block) (frames : Frames) : Type 0 where
  pub changed : Bool
  pub rest : List Held
  pub held : held_by frames ≡ record { block = n; bytes = bytes; changed = changed } ∷ rest

-- What a `get` of block n leaves: the block is the first, with the bytes that are lent, and the
-- others keep their order; where it wasn't held, it took an empty frame, else a further frame of
-- the pool, else that of the block used least recently. A read that fails leaves the room that was
-- made for it empty, and a write that fails leaves every place as it was.
pub record Got (n : ℕ) (result : Result (Bor Block) DeviceFault) (old new : Frames) : Type 0 where
  pub first : OnOk result (GetsBlock n old new)
  pub lent : IfOk result (λ s. Shows n s.now new)
  pub unread : IsErrOf result Read → StaysEmpty old new
  pub unwritten : IsErrOf result Write → new.table ≡ old.table
  pub seat : KeepsSeat old new
