use Rattle.std.proofs.Common.{subst, sym}
use Rattle.vr_log.specs.LogNow.{LogNow}
use Rattle.vr_log.specs.Standing.{LogStands}
use Rattle.vr_log.proofs.CallerLemmas.{restarted_stands}
use Rattle.vr_volume.specs.Safe.{IsSafe}
use Rattle.vr_volume.proofs.Restarting.{safe-restarted}
use Rattle.vr_volume.proofs.logging.restart_log.Goals as goal

pub returns-clause-safe : goal.returns-clause-safe
returns-clause-safe g c told number owners committed below stands safe same =
    let log = c.args.log.now in
    let now = g.B.Blocks.seen c.args.blocks.now in
    let next = restarted_stands log now stands c.requires.forced c.requires.none_live below in
    let is = c.restart.ensures in (
      subst (λ (l : LogNow). IsSafe log.geometry number owners l committed now) (sym is)
          (safe-restarted log.geometry number owners log committed now safe c.requires.forced
          c.requires.none_live same safe.shape next),
      subst (λ (l : LogNow). LogStands l now) (sym is) next,
    )
