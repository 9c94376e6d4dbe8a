-- When no resident blocks are made for want of frames. It is this project's own.
use Rattle.std.specs.Prelude.{◌≡◌, ◌<◌, ℕ}
use Rattle.vr_frames.specs.declared.shared.Pool.{Pool}
use Rattle.vr_frames.specs.declared.seat.FrameSeat.{FrameSeat}
use Rattle.vr_resident.specs.Making.{FoundAllOut, RunsOut}
use Rattle.vr_resident.specs.declared.why.ResidentWhy.{ResidentWhy}
use Rattle.vr_resident.specs.declared.why.ResidentWhy.TheVariants.{NoFrames}

-- Where it is said that there were no frames after `got`, that is how many were taken, fewer than
-- 16, and the seat then found each frame of the pool out.
pub record HasNone (pool : Pool) (old new : FrameSeat) (got : ℕ) : Type 0 where
  pub fewer : got < 16
  pub all_out : FoundAllOut pool old new
  pub after : RunsOut pool got old new

abbrev pub HasNoFrames : Pool → FrameSeat → FrameSeat → ResidentWhy → Type 0
HasNoFrames pool old new why = (got : ℕ) → why ≡ NoFrames got → HasNone pool old new got
