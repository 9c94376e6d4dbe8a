-- A ledger and a turn may be sent, for crates that keep them in a struct, and so may a history,
-- which lies beside the ledger behind a volume's latch.
use denote.Param.Send.{IsSend, IsSync, sendable}
use Rattle.std.proofs.Crossing.{crosses}
use Rattle.atomic_table.proofs.shared.Seat.TheSendSync as seat
use Rattle.atomic_table.proofs.shared.Shared.TheSendSync as shared
use Rattle.atomic_table.proofs.send_lease.SendLease.TheSendSync as lease
use Rattle.atomic_table.proofs.badge.Badge.TheSendSync as badge
use Rattle.vr_types.specs.contracts.request.Request.{the_row as RequestRow}
use Rattle.vr_types.specs.contracts.shared_request.SharedRequest.{the_row as SharedRequestRow}
use Rattle.vr_history.specs.contracts.entry.Entry.{the_row as EntryRow}
use Rattle.vr_history.specs.contracts.history.History.{the_row as HistoryRow}
use Rattle.vr_ledger.specs.contracts.ledger.Ledger.{the_row as LedgerRow}
use Rattle.vr_ledger.specs.contracts.turn.Turn.{the_row as TurnRow}

pub turn_send : IsSend TurnRow
turn_send = search (sendable, crosses, badge.the_send) depth 20

pub ledger_send : IsSend LedgerRow
ledger_send = search (sendable, crosses, seat.the_send, shared.the_send, lease.the_send) depth 20

request_send : IsSend RequestRow
request_send = search (sendable, crosses) depth 40 fits 100000

request_sync : IsSync RequestRow
request_sync = search (sendable, crosses) depth 40 fits 100000

shared_request_send : IsSend SharedRequestRow
shared_request_send = search (sendable, crosses, request_send, request_sync) depth 20

entry_send : IsSend EntryRow
entry_send = search (sendable, crosses, shared_request_send) depth 40 fits 100000

pub history_send : IsSend HistoryRow
history_send = search (sendable, crosses, entry_send) depth 20
