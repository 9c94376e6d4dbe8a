use Rattle.vr_space.proofs.Keeping.{keep-room}
use Rattle.vr_space.proofs.laws.kept_takes_no_room.Goals as goal

pub returns : goal.returns
returns g c shape kept place n at owners sound room stands =
    keep-room shape owners kept place n (g.B.Blocks.seen c.args.blocks.now) at sound room stands
