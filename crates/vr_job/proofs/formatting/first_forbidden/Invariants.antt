use Rattle.std.proofs.Common.{◌≡◌, ◌<◌, ℕ, Some}
use Rattle.std.specs.Prelude.{slice_get}
use Rattle.vr_types.specs.Geometry.{IsAllowed}
use Rattle.vr_format.specs.Formatted.{geometry_of}
use Rattle.vr_job.proofs.formatting.first_forbidden.Given as goal

abbrev pub invariant-loop-at : goal.invariant-loop-at
invariant-loop-at g l = (at : ℕ) (device : g.row.D.Denot) → at < l.at
    → slice_get l.devices at ≡ Some device
    → IsAllowed (geometry_of (g.D.BlockDevice.seen device) l.log l.area)
