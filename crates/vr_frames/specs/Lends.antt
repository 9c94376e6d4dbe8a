-- What a frame ends as, where its bytes are borrowed for writing. It is this project's own.
use Rattle.std.specs.Prelude.{ℕ, List}
use Rattle.std.specs.Borrow.{Lends, MutBor, Fml, Array, u8}
use Rattle.std.specs.Vec.{with_items}
use Rattle.vr_frames.specs.declared.frame.Frame.{Frame}
use Rattle.vr_frames.specs.contracts.frame.Frame.{the_row}

-- the frame with these bytes
abbrev pub with_bytes : Frame → List ℕ → Frame
with_bytes frame bytes = record frame { buffer = with_items frame.buffer bytes }

-- once the borrow ends, the frame has the bytes that were written through it last
abbrev pub LendsBytes : MutBor Frame → MutBor (List ℕ) → Fml
LendsBytes frame bytes = Lends the_row (Array u8 0) frame bytes (with_bytes frame.now)
