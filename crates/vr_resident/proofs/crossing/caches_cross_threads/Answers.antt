use denote.Param.Send.{sendable}
use Rattle.std.proofs.Crossing.{crosses}
use Rattle.vr_resident.proofs.CallerLemmas.{frames_send}
use Rattle.vr_resident.proofs.crossing.caches_cross_threads.Goals as goal

pub moves-requires-send-T : goal.moves-requires-send-T
moves-requires-send-T c κs = search (sendable, frames_send) depth 20

pub moves-requires-2-send-T : goal.moves-requires-2-send-T
moves-requires-2-send-T c κs = search (sendable, crosses, frames_send) depth 30
