use Rattle.std.proofs.Common.{◌<◌, ℕ, length, slice_index}
use Rattle.vr_device.specs.Disk.{choices_of}
use Rattle.vr_device.specs.Past.{disk_of}
use Rattle.vr_device.proofs.past.Past.misfit.Given as goal

abbrev pub invariant-loop-n : goal.invariant-loop-n
invariant-loop-n l = (m : ℕ) → m < l.n
    → (m < length l.choice) × (slice_index l.choice m < length (choices_of (disk_of l.self) m))
