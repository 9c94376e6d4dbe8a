-- What clauses see of a pool, a seat and a frame. These words are this project's own.
use Rattle.std.specs.Prelude.{◌≡◌, ℕ, ◌+◌, ◌<◌, ◌≤◌, List, [], ◌∷◌, ◌++◌, length}
use Rattle.atomic_table.specs.Seated.{TableId}
use Rattle.vr_frames.specs.Views.{times, without}
use Rattle.vr_frames.specs.declared.shared.Pool.{Pool}
use Rattle.vr_frames.specs.declared.seat.FrameSeat.{FrameSeat}
use Rattle.vr_frames.specs.declared.frame.Frame.{Frame}

-- which pool it is, how many frames it has, and how many bytes each frame has
abbrev pub id_of : Pool → TableId
id_of pool = pool.table.shared.table_id

abbrev pub frame_count : Pool → ℕ
frame_count pool = pool.table.shared.table_id.slots

abbrev pub frame_size : Pool → ℕ
frame_size pool = pool.table.shared.key

-- the number of the frame in its pool, from 0, and its bytes
abbrev pub number_of : Frame → ℕ
number_of frame = frame.number

abbrev pub bytes_of : Frame → List ℕ
bytes_of frame = frame.buffer.items

-- the numbers of the frames that the seat holds, its parts, and how many of its claims found the
-- frame of a number out
abbrev pub frames_of : FrameSeat → List ℕ
frames_of seat = seat.place.me.0.frames

abbrev pub parts_of : FrameSeat → ℕ
parts_of seat = seat.place.me.0.parts

abbrev pub failed_claims : FrameSeat → ℕ → ℕ
failed_claims seat number = times number seat.place.me.0.failed

-- the seat holds the frame of this number
abbrev pub Holds : FrameSeat → ℕ → Type 0
Holds seat number = 0 < times number (frames_of seat)

-- the seat is of the pool
abbrev pub IsSeatOf : Pool → FrameSeat → Type 0
IsSeatOf pool seat =
    (seat.place.table_id ≡ id_of pool) × (seat.place.me.0.size ≡ frame_size pool)

-- the frame is of the pool, and whole
abbrev pub IsFrameOf : Pool → Frame → Type 0
IsFrameOf pool frame =
    (id_of frame.origin.value ≡ id_of pool)
    × (number_of frame < frame_count pool)
    × (length (bytes_of frame) ≡ frame_size pool)

-- it is the same seat
pub record IsSameSeat (old new : FrameSeat) : Type 0 where
  pub same_table : new.place.table_id ≡ old.place.table_id
  pub same_id : new.place.id ≡ old.place.id

-- the seat as the pool begins: it has every part, and has claimed nothing
pub record IsFirstSeat (seat : FrameSeat) : Type 0 where
  pub every_part : parts_of seat ≡ 1024
  pub no_frame : frames_of seat ≡ []
  pub no_claim : (number : ℕ) → failed_claims seat number ≡ 0

-- the seat got the frame, which it did not hold; it found other frames out, each once at most
pub record Gets (old : FrameSeat) (frame : Frame) (new : FrameSeat) : Type 0 where
  pub new_to_it : times (number_of frame) (frames_of old) ≡ 0
  pub held_now : frames_of new ≡ frames_of old ++ number_of frame ∷ []
  pub claims : (number : ℕ) → failed_claims old number ≤ failed_claims new number
  pub claims_once : (number : ℕ) → failed_claims new number ≤ failed_claims old number + 1

-- the seat got none: it claimed each frame of the pool once, and each claim found the frame out
pub record FindsAllOut (pool : Pool) (old new : FrameSeat) : Type 0 where
  pub same_frames : frames_of new ≡ frames_of old
  pub each_out : (number : ℕ) → number < frame_count pool
      → failed_claims new number ≡ failed_claims old number + 1
  pub no_other : (number : ℕ) → frame_count pool ≤ number
      → failed_claims new number ≡ failed_claims old number

-- the seat gave the frame back, and keeps the others
pub record Returns (old : FrameSeat) (frame : Frame) (new : FrameSeat) : Type 0 where
  pub others : frames_of new ≡ without (number_of frame) (frames_of old)
  pub same_claims : (number : ℕ) → failed_claims new number ≡ failed_claims old number

-- the seat gave up one of its parts, and nothing else
pub record GivesPart (old new : FrameSeat) : Type 0 where
  pub one_less : parts_of new + 1 ≡ parts_of old
  pub same_frames : frames_of new ≡ frames_of old
  pub same_claims : (number : ℕ) → failed_claims new number ≡ failed_claims old number

-- the new seat has one part, no frame and no claim
pub record IsNewSeat (seat : FrameSeat) : Type 0 where
  pub one_part : parts_of seat ≡ 1
  pub no_frame : frames_of seat ≡ []
  pub no_claim : (number : ℕ) → failed_claims seat number ≡ 0

-- the seat has all that it and the other had
pub record HasBoth (old other new : FrameSeat) : Type 0 where
  pub parts : parts_of new ≡ parts_of old + parts_of other
  pub frames : frames_of new ≡ frames_of old ++ frames_of other
  pub claims : (number : ℕ)
      → failed_claims new number ≡ failed_claims old number + failed_claims other number
