-- Which images open again. The rules are this project's own.
use Rattle.std.specs.Prelude.{◌≡◌, ℕ}
use Rattle.vr_types.specs.Image.{Image}
use Rattle.vr_types.specs.Seen.{Seen}
use Rattle.vr_types.specs.declared.geometry.Geometry.{Geometry}
use Rattle.vr_log.specs.LogNow.{IsOf}
use Rattle.vr_recover.specs.Opens.{MayBeOpened}

-- Whatever device of this shape has the image as its contents is refused, as the volume of this
-- number, for nothing that it has: only where memory runs out or the device fails.
abbrev pub OpensAgain : {D : Type 0} → (D → Seen) → Geometry → ℕ → Image → Type 0
OpensAgain {D} seen geometry number image = (device : D) → IsOf geometry (seen device)
    → (seen device).cur ≡ image → MayBeOpened number (seen device)
