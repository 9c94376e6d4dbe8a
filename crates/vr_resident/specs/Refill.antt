-- What stays of a buffer that is written. It is this project's own.
use Rattle.std.specs.Prelude.{◌≡◌, ℕ, length}
use Rattle.vr_frames.specs.declared.shared.Pool.{Pool}
use Rattle.vr_resident.specs.declared.place.Buffer.{Buffer}
use Rattle.vr_resident.specs.Places.{bytes_in, numbers_in, is_shared, IsBufferOf}

-- It is the same buffer, with other bytes.
pub record IsSameBuffer (old new : Buffer) : Type 0 where
  pub shared_same : is_shared new ≡ is_shared old
  pub number_same : numbers_in new ≡ numbers_in old
  pub long_same : length (bytes_in new) ≡ length (bytes_in old)
  pub of_pool : (pool : Pool) (size : ℕ) → IsBufferOf pool size old → IsBufferOf pool size new
