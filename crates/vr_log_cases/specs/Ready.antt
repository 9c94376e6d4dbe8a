-- When calls may be made on a log whose blocks report no content.
use Rattle.std.specs.Prelude.{◌≡◌, false}
use Rattle.vr_types.specs.Seen.{Seen}
use Rattle.vr_log.specs.LogNow.{LogNow, IsOf}

-- it isn't broken, and the blocks are those of its volume
pub record IsReady (log : LogNow) (seen : Seen) : Type 0 where
  pub sound : log.broken ≡ false
  pub shape : IsOf log.geometry seen
