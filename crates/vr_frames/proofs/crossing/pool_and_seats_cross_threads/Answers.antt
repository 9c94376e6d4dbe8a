use denote.RattleType.{RattleType}
use denote.Builtin.{u8}
use denote.Param.Send.{IsSend, IsSync, part_keyless, sendable}
use Rattle.std.proofs.Crossing.{Vec-send}
use Rattle.std.specs.contracts.option.Option.{the_row as OptionOf}
use Rattle.std.specs.contracts.vec.Vec.{the_row as VecOf}
use Rattle.std.specs.contracts.alloc.Global.{the_row as GlobalRow}
use Rattle.std.specs.contracts.impls.GlobalAllocator.TheImpl.{ghosts}
use Rattle.atomic_table.specs.contracts.shared.Seat.{the_row as SeatOf}
use Rattle.atomic_table.proofs.Sent.{seat_keyless}
use Rattle.vr_frames.specs.contracts.view.View.{the_row as ViewRow}
use Rattle.vr_frames.specs.contracts.seat.FrameSeat.{the_row as FrameSeatRow}
use Rattle.vr_frames.proofs.crossing.pool_and_seats_cross_threads.Goals as goal

-- a seat may be shared where it may be sent, since what it owns names no thread
seat_send : (S V : RattleType) → IsSend S → IsSend (SeatOf S V)
seat_send S V s =
    record {
      owned =
          λ d vs. (
            (λ vss. (tt, ((λ uss. (tt, tt)), tt))),
            seat_keyless S s V.coded.code d.table_id d.id d.me,
          );
      leaving = λ k f vs. tt;
    }

seat_sync : (S V : RattleType) → IsSend S → IsSync (SeatOf S V)
seat_sync S V s =
    record { shared = λ d b o κ q. part_keyless (SeatOf S V) (seat_send S V s) q d b o }

place_sync : IsSync (SeatOf (OptionOf (VecOf u8 GlobalRow ghosts)) ViewRow)
place_sync = seat_sync (OptionOf (VecOf u8 GlobalRow ghosts)) ViewRow
    (search (sendable, Vec-send) depth 20)

frame_seat_sync : IsSync FrameSeatRow
frame_seat_sync = search (sendable, place_sync) depth 20

pub shares-requires-2-sync-T : goal.shares-requires-2-sync-T
shares-requires-2-sync-T c κs = record { shared = frame_seat_sync.shared }
