use denote.Param.{param}
use denote.Param.Send.{sendable}
use Rattle.std.proofs.Crossing.{crosses}
use Rattle.vr_worker.proofs.Sending.{latched_send}
use Rattle.vr_worker.proofs.running.run_each.Goals as goal

pub for_each_mut-requires-sync-F : goal.for_each_mut-requires-sync-F
for_each_mut-requires-sync-F g c κs within =
    search (
      sendable,
      crosses,
      latched_send (param 1 g.row.V) (param 2 g.row.N) g.V.Served
          g.N.Names c.type_bounds.send-V c.type_bounds.send-N,
    ) depth 20
