-- What lies behind a latch may be sent to another thread, where the volume may.
use denote.Param.Send.{IsSend, sendable}
use denote.RattleType.{RattleType}
use Rattle.std.proofs.Crossing.{crosses}
use Rattle.vr_ledger.proofs.CallerLemmas.{ledger_send}
use Rattle.vr_worker.specs.contracts.latched.Latched.{the_row as LatchedRow}
use Rattle.vr_worker.specs.declared.latched.Names.{Ghosts as NamesOf}
use Rattle.vr_worker.specs.declared.served.Served.{Ghosts as ServedOf}

pub latched_send : (V N : RattleType) (served : ServedOf V.Denot) (names : NamesOf N.Denot V.Denot)
    → IsSend V → IsSend N → IsSend (LatchedRow V N served names)
latched_send V N served names volume named = search (sendable, crosses, ledger_send) depth 20
