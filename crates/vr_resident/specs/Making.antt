-- How a cache begins. It is this project's own.
use Rattle.std.specs.Prelude.{◌≡◌, ◌+◌, ◌<◌, ℕ, zero, suc, List, [], ◌∷◌, length}
use Rattle.vr_frames.specs.Frames.{IsSameSeat, IsSeatOf, frame_count, frames_of, parts_of}
use Rattle.vr_frames.specs.Frames.{failed_claims, IsFrameOf, Gets, FindsAllOut}
use Rattle.vr_frames.specs.declared.frame.Frame.{Frame}
use Rattle.vr_frames.specs.declared.shared.Pool.{Pool}
use Rattle.vr_frames.specs.declared.seat.FrameSeat.{FrameSeat}
use Rattle.vr_resident.specs.Places.{Entry, buffers_of}
use Rattle.vr_resident.specs.Cache.{entries_of, pool_of, held_by, empty_count, bare_count, others}
use Rattle.vr_resident.specs.declared.place.Place.TheVariants.{Bare}
use Rattle.vr_resident.specs.declared.frames.Frames.{Frames}

-- places of these numbers, all bare
abbrev pub bare_places : ℕ → List Entry
bare_places zero = []
bare_places (suc n) = (n, Bare) ∷ bare_places n

-- This many frames more, which are empty, and the same blocks.
pub record IsTaken (got : ℕ) (old new : Frames) : Type 0 where
  pub held : held_by new ≡ held_by old
  pub empty : empty_count new ≡ empty_count old + got
  pub bare : bare_count new + got ≡ bare_count old
  pub buffers : length (buffers_of (entries_of new)) ≡ length (buffers_of (entries_of old)) + got

-- A cache as it begins: of 64 places 16 have an empty frame, and no block is held.
pub record IsNew (pool : Pool) (seat : FrameSeat) (size : ℕ) (frames : Frames) : Type 0 where
  pub pool_is : pool_of frames ≡ pool
  pub size_is : frames.size ≡ size
  pub held : held_by frames ≡ []
  pub empty : empty_count frames ≡ 16
  pub bare : bare_count frames ≡ 48
  pub same : IsSameSeat seat frames.seat
  pub parts : parts_of frames.seat ≡ parts_of seat
  pub home : others frames ≡ frames_of seat

-- the seat found each frame of the pool out, at a claim between these two
abbrev pub FoundAllOut : Pool → FrameSeat → FrameSeat → Type 0
FoundAllOut pool old new =
    (number : ℕ) → number < frame_count pool → failed_claims old number < failed_claims new number

-- one more frame of the pool was taken, which the seat did not hold
pub record TakesOne (pool : Pool) (old new : FrameSeat) : Type 0 where
  pub frame : Frame
  pub of_pool : IsFrameOf pool frame
  pub got : Gets old frame new

-- n frames of the pool were taken, one after another
abbrev pub TakesSome : Pool → ℕ → FrameSeat → FrameSeat → Type 0
TakesSome pool zero old new = new ≡ old
TakesSome pool (suc n) old new =
    (before : FrameSeat) × TakesSome pool n old before × TakesOne pool before new

-- `got` frames of the pool were taken, and then each of its frames was found out. The seat's claims
-- are as that left them.
pub record RunsOut (pool : Pool) (got : ℕ) (old new : FrameSeat) : Type 0 where
  pub last : FrameSeat
  pub took : TakesSome pool got old last
  pub refused : FrameSeat
  pub none_home : FindsAllOut pool last refused
  pub claims : (k : ℕ) → failed_claims new k ≡ failed_claims refused k

-- The seat is as it was handed in.
pub record IsBack (pool : Pool) (old new : FrameSeat) : Type 0 where
  pub of_pool : IsSeatOf pool new
  pub same : IsSameSeat old new
  pub parts : parts_of new ≡ parts_of old
  pub frames : frames_of new ≡ frames_of old
