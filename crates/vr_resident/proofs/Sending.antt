-- What a cache has beside its device may be sent to another thread.
use denote.Param.Send.{IsSend, sendable, struct_send}
use denote.Struct.Declared.{shape}
use Rattle.std.proofs.Crossing.{crosses, Arc-send}
use Rattle.std.proofs.MapsCrossing.{crosses as maps}
use Rattle.lru.proofs.list.List.TheSendSync as nodes
use Rattle.lru.proofs.entry.Deed.TheSendSync as deed
use Rattle.lru.proofs.entry.NodePtr.TheSendSync as pointer
use Rattle.lru.proofs.key_ref.KeyRef.TheSendSync as key
use Rattle.vr_frames.proofs.CallerLemmas.{seat_send, pool_send, pool_sync}
use Rattle.vr_frames.specs.contracts.shared.Pool.{the_row as PoolRow}
use Rattle.vr_resident.specs.contracts.place.Place.{the_row as PlaceRow}
use Rattle.vr_resident.specs.contracts.frames.Frames.{the_field, the_type}

place_send : IsSend PlaceRow
place_send = search (sendable, crosses) depth 20

pub frames_send : IsSend the_field.row
frames_send =
    struct_send (shape the_type) (
      search (
        sendable,
        crosses,
        maps,
        place_send,
        nodes.the_send,
        deed.the_send,
        pointer.the_send,
        key.the_send,
      ) depth 30,
      (Arc-send PoolRow pool_send pool_sync, (seat_send, (search sendable depth 20, tt))),
    )
