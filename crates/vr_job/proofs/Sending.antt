-- A volume that serves decks may be sent to another thread, where its device may.
use denote.Param.Send.{IsSend, sendable}
use denote.RattleType.{RattleType}
use Rattle.std.proofs.Crossing.{crosses}
use Rattle.std.proofs.MapsCrossing.{HashMap-send}
use Rattle.vr_ledger.proofs.CallerLemmas.{history_send}
use Rattle.vr_catalog.specs.contracts.catalog.Catalog.{the_row as CatalogRow}
use Rattle.vr_locks.specs.contracts.table.LockTable.{the_row as LockTableRow}
use Rattle.vr_browse.specs.contracts.positions.Positions.{the_row as PositionsRow}
use Rattle.vr_record_file.specs.contracts.file.RecordFile.{the_row as RecordFileRow}
use Rattle.vr_log.specs.contracts.log.UndoLog.{the_row as UndoLogRow}
use Rattle.vr_undo.specs.contracts.undo.Undo.{the_row as UndoRow}
use Rattle.vr_keyed.specs.contracts.keyed.Keyed.{the_row as KeyedRow}
use Rattle.vr_chained.specs.contracts.chained.Chained.{the_row as ChainedRow}
use Rattle.vr_part.specs.contracts.any.AnyPart.{the_row as AnyPartRow}
use Rattle.vr_device.specs.declared.device.BlockDevice.{Ghosts as BlockDeviceOf}
use Rattle.vr_job.specs.contracts.serving.Serving.{the_row as ServingRow}

pub catalog_send : IsSend CatalogRow
catalog_send = search (sendable, crosses) depth 60 fits 1000000

pub locks_send : IsSend LockTableRow
locks_send = search (sendable, crosses, HashMap-send) depth 60 fits 1000000

pub positions_send : IsSend PositionsRow
positions_send = search (sendable, crosses) depth 60 fits 1000000

pub record_file_send : IsSend RecordFileRow
record_file_send = search (
  sendable,
  crosses,
  history_send,
  catalog_send,
  locks_send,
  positions_send,
) depth 40 fits 1000000

pub undo_log_send : IsSend UndoLogRow
undo_log_send = search (sendable, crosses) depth 60 fits 1000000

pub undo_send : IsSend UndoRow
undo_send = search (sendable, crosses) depth 60 fits 1000000

pub keyed_send : IsSend KeyedRow
keyed_send = search (sendable, crosses) depth 60 fits 1000000

pub chained_send : IsSend ChainedRow
chained_send = search (sendable, crosses) depth 60 fits 1000000

pub part_send : IsSend AnyPartRow
part_send = search (sendable, crosses, keyed_send, chained_send) depth 40 fits 1000000

-- whatever its device is
pub serving_send : (D : RattleType) (device : BlockDeviceOf D.Denot) → IsSend D
    → IsSend (ServingRow D device)
serving_send D device sent = search (
  sendable,
  crosses,
  record_file_send,
  undo_log_send,
  undo_send,
  part_send,
) depth 40 fits 1000000
