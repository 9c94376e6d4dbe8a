use denote.Param.Send.{sendable}
use Rattle.vr_ledger.proofs.Sending.{ledger_send}
use Rattle.vr_ledger.proofs.crossing.ledger_and_turns_cross_threads.Goals as goal

pub moves-requires-send-T : goal.moves-requires-send-T
moves-requires-send-T c κs = search (sendable, ledger_send) depth 20
