-- A pool may be shared and sent, and a seat sent, for crates that keep them in a struct.
use denote.Param.Send.{IsSend, IsSync, sendable}
use Rattle.std.proofs.Crossing.{crosses}
use Rattle.atomic_table.proofs.shared.Seat.TheSendSync as seat
use Rattle.atomic_table.proofs.shared.Shared.TheSendSync as shared
use Rattle.atomic_table.proofs.send_lease.SendLease.TheSendSync as lease
use Rattle.vr_frames.specs.contracts.seat.FrameSeat.{the_field as FrameSeatField}
use Rattle.vr_frames.specs.contracts.shared.Pool.{the_row as PoolRow}

pub seat_send : IsSend FrameSeatField.row
seat_send = search (sendable, crosses, seat.the_send) depth 20

pub pool_send : IsSend PoolRow
pool_send = search (sendable, crosses, shared.the_send, lease.the_send) depth 20

pub pool_sync : IsSync PoolRow
pool_sync = search (sendable, crosses, shared.the_sync, lease.the_sync) depth 20
