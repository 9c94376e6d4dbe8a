-- What a caller that keeps frames states of them, by their numbers. It is this project's own.
use Rattle.std.specs.Prelude.{◌<◌, ◌≤◌, ◌==◌, ℕ, List, filter}
use Rattle.vr_frames.specs.declared.seat.FrameSeat.{FrameSeat}
use Rattle.vr_frames.specs.Views.{times}
use Rattle.vr_frames.specs.Frames.{frames_of, Holds}

-- the seat holds the frames of these numbers, and none of them stands twice
pub record HoldsEach (seat : FrameSeat) (numbers : List ℕ) : Type 0 where
  pub once : (number : ℕ) → times number numbers ≤ 1
  pub held : (number : ℕ) → 0 < times number numbers → Holds seat number

-- the other frames that the seat holds
abbrev pub others_of : FrameSeat → List ℕ → List ℕ
others_of seat numbers = filter (λ number. times number numbers == 0) (frames_of seat)
